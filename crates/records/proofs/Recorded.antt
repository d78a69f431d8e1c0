-- What recording answers and writes: callers need not open the definitions. Assumes nothing.
use mathlib.Core.Path.{◌≡◌, refl, sym, ◌∙◌}
use mathlib.Core.Bool.{Bool, true, false}
use mathlib.Core.List.{[], ◌∷◌}
use Prim.Native.Nat.{ℕ, ◌≤◌}
use native.Mathlib.Omega.{arith}
use lib.Dec.{lit≤, eqb, ltb}
use borrow.Author.Tests.{eqb-true, eqb-false, eq-eqb, ne_eqb, ltb-false}
use Rattle.lists.specs.Refusals.{first_of}
use Rattle.lists.proofs.Choice.{pick_true, pick-false}
use Rattle.lists.proofs.Refusals.{first_holds, first-fails, none-holds, refused-first, then-passed}
use Rattle.scram.specs.Answers.{Done, Refused}
use Rattle.law.specs.Settings.{refusals}
use Rattle.replica.specs.declared.Settings.{Settings}
use Rattle.replica.specs.declared.Replica.{Replica}
use Rattle.replica.specs.Settings.{settings_refusals, settings_refusal}
use Rattle.records.specs.Lengths.{record_length}
use Rattle.records.specs.Recording.{short_record, record_refusal, record_answer, record_bytes, recorded}

-- ---- 1 to 4 and 18, then 5

module _ (s : Settings) (area : ℕ) where
  pub refused-settings : (settings_refusal s ≡ 0 → ⊥) → settings_refusal s ≡ record_refusal s area
  unfolding settings_refusal record_refusal
  refused-settings n = refused-first (settings_refusals s) (short_record area ∷ []) n

  only-area : settings_refusal s ≡ 0 → record_refusal s area ≡ first_of (short_record area ∷ [])
  unfolding settings_refusal record_refusal refusals
  only-area e =
      then-passed 1 _ _ _ (lit≤ tt) e
      (λ e. then-passed 2 _ _ _ (lit≤ tt) e
      (λ e. then-passed 3 _ _ _ (lit≤ tt) e
      (λ e. then-passed 4 _ _ _ (lit≤ tt) e
      (λ e. then-passed 18 _ _ _ (lit≤ tt) e (λ _. refl)))))

  pub refused-short : settings_refusal s ≡ 0 → ltb area record_length ≡ true → 5 ≡ record_refusal s area
  refused-short e short = sym (only-area e ∙ first_holds 5 (ltb area record_length) [] short)

  pub not-refused : settings_refusal s ≡ 0 → ltb area record_length ≡ false → 0 ≡ record_refusal s area
  not-refused e long = sym (only-area e ∙ first-fails 5 (ltb area record_length) [] long ∙ none-holds)

-- neither the settings nor the area are refused
pub record Ready (s : Settings) (area : ℕ) : Type 0 where
  pub settings : settings_refusal s ≡ 0
  pub room : record_length ≤ area

pub ready : (s : Settings) (area : ℕ) → record_refusal s area ≡ 0 → Ready s area
ready s area e = by (eqb (settings_refusal s) 0) (ltb area record_length) refl refl
  where
    by : (a b : Bool) → eqb (settings_refusal s) 0 ≡ a → ltb area record_length ≡ b → Ready s area
    by false b p q = let n = eqb-false (settings_refusal s) 0 p in absurd (n (refused-settings s area n ∙ e))
    by true true p q = let z = refused-short s area (eqb-true _ _ p) q ∙ e in absurd (omega arith)
    by true false p q = record { settings = eqb-true _ _ p; room = ltb-false area record_length q }

-- ---- the answer, and what is written

module _ (r : Replica) (area : ℕ) where
  pub record-refused : (record_refusal r.settings area ≡ 0 → ⊥)
      → (record_answer r.settings area ≡ Refused (record_refusal r.settings area)) × (recorded r area ≡ [])
  unfolding recorded
  record-refused n = let t = ne_eqb (record_refusal r.settings area) 0 n in (pick-false _ _ _ t, pick-false _ _ _ t)

  pub record-done : record_refusal r.settings area ≡ 0 → (record_answer r.settings area ≡ Done) × (recorded r area ≡ record_bytes r)
  unfolding recorded
  record-done e = let t = eq-eqb (record_refusal r.settings area) 0 e in (pick_true _ _ _ t, pick_true _ _ _ t)
