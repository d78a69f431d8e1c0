-- Making a replica, in terms of what recording it answers and writes. Assumes nothing.
use mathlib.Core.Path.{◌≡◌, refl, sym, ap, ◌∙◌}
use mathlib.Core.Bool.{Bool, true, false}
use mathlib.Core.List.{List}
use Prim.Native.Nat.{ℕ}
use lib.ListN.{length}
use lib.Dec.{eqb}
use borrow.Author.Tests.{eqb-true, eqb-false}
use Rattle.lists.proofs.Booleans.{never}
use Rattle.octets.specs.Areas.{over}
use Rattle.scram.specs.Answers.{Refused}
use Rattle.replica.specs.declared.Settings.{Settings}
use Rattle.replica.specs.Settings.{settings_refusal}
use Rattle.replica.specs.Calls.{made_answer, made, fresh_of}
use Rattle.replica.proofs.Calls.{made-done, made-refused}
use Rattle.records.specs.Recording.{record_answer, recorded}
use Rattle.records.specs.Reading.{is_done}
use Rattle.records.proofs.Recorded.{refused-settings, record-refused}

module _ (s : Settings) where
  -- making was refused, so that recording is
  pub made_none : (area : List ℕ) → is_done (made_answer s) ≡ false
      → (made_answer s ≡ record_answer s (length area)) × (area ≡ over (recorded (fresh_of s) (length area)) area)
  made_none area e =
      let n : settings_refusal s ≡ 0 → ⊥ = λ z. never (sym e ∙ ap is_done (made-done s z).0) in
      let same = refused-settings s (length area) n in
      let r = record-refused (fresh_of s) (length area) (λ z. n (same ∙ z)) in
      ((made-refused s n).0 ∙ ap Refused same ∙ sym r.0, sym (ap (λ (w : List ℕ). over w area) r.1))

  -- it was done
  pub made-fresh : is_done (made_answer s) ≡ true → made s ≡ fresh_of s
  made-fresh e = by (eqb (settings_refusal s) 0) refl
    where
      by : (t : Bool) → eqb (settings_refusal s) 0 ≡ t → made s ≡ fresh_of s
      by true q = (made-done s (eqb-true _ _ q)).1
      by false q = never (sym (ap is_done (made-refused s (eqb-false _ _ q)).0) ∙ e)
