-- Laws of staying up and returning. Assumes nothing.
use mathlib.Core.Path.{◌≡◌, refl, sym, ap, ◌∙◌}
use mathlib.Core.Bool.{true, false, not, ◌||◌}
use mathlib.Core.List.{List, [], ◌∷◌}
use Prim.Native.Nat.{ℕ, zero, suc, ◌-◌, ◌≤◌, ◌<◌}
use native.Mathlib.Omega.{arith}
use native.Mathlib.Numerals.{unary_clauses}
use lib.Dec.{eqb, ltb}
use Rattle.std.specs.Prelude.{Result, Ok, Err, IfOk}
use borrow.Author.Tests.{lt-ltb, le-ltb, not-true, not-false}
use Rattle.lists.proofs.Booleans.{or-true}
use Rattle.lists.proofs.Choice.{pick_true, pick-false, pick-holds}
use Rattle.lists.proofs.Refusals.{none-holds, first_holds, first-fails}
use Rattle.readings.specs.Readings.{no_readings}
use Rattle.transmitters.specs.declared.Reading.TheVariants.{Missing}
use Rattle.transmitters.specs.Conversion.{converted, converted_row}
use Rattle.refusal.specs.declared.Refusal.{Refusal}
use Rattle.scram.specs.Answers.{Done, Refused, answered_of}
use Rattle.scram.specs.Shown.{is_refused}
use Rattle.replica.specs.declared.Replica.{Replica}
use Rattle.replica.specs.Settings.{blank_settings}
use Rattle.replica.specs.Calls.{fresh_of}
use Rattle.records.specs.Reading.{is_done, is_record, replica_in}
use Rattle.records.specs.Returning.{missed_tick, after_missed, stayed_up, passes_largest, most_missed, misses_too_many, stay_answer, stayed}
use Rattle.records.specs.Returning.{return_refusal, return_answer, returned}

-- four missing readings are no reading
pub none-missing : converted_row (Missing ∷ Missing ∷ Missing ∷ Missing ∷ []) ≡ no_readings
unfolding converted_row converted
none-missing = refl

-- ---- one tick among those missed

pub passes-now : (k : ℕ) (r : Replica) → 0 < k → is_refused (missed_tick r).answer ≡ true → passes_largest k r ≡ true
unfolding passes_largest
passes-now zero r h e = absurd (omega (arith, h))
passes-now (suc k) r h e = ap (λ b. b || passes_largest k (after_missed r)) e

pub passes-later : (k : ℕ) (r : Replica) → 0 < k → is_refused (missed_tick r).answer ≡ false → passes_largest k r ≡ passes_largest (k - 1) (after_missed r)
unfolding passes_largest
passes-later zero r h e = absurd (omega (arith, h))
passes-later (suc k) r h e = simp unary_clauses (ap (λ b. b || passes_largest k (after_missed r)) e)

pub up-later : (k : ℕ) (r : Replica) → 0 < k → stayed_up k r ≡ stayed_up (k - 1) (after_missed r)
unfolding stayed_up
up-later zero r h = absurd (omega (arith, h))
up-later (suc k) r h = simp unary_clauses refl

pub passes_none : (r : Replica) → passes_largest 0 r ≡ false
unfolding passes_largest
passes_none r = refl

pub up_none : (r : Replica) → stayed_up 0 r ≡ r
unfolding stayed_up
up_none r = refl

-- ---- all of them

pub too_many : (k : ℕ) (r : Replica) → most_missed < k → misses_too_many k r ≡ true
unfolding misses_too_many
too_many k r h = ap (λ b. b || passes_largest k r) (lt-ltb most_missed k h)

pub passing : (k : ℕ) (r : Replica) → passes_largest k r ≡ true → misses_too_many k r ≡ true
unfolding misses_too_many
passing k r e = ap (λ b. ltb most_missed k || b) e ∙ or-true (ltb most_missed k)

pub not-many : (k : ℕ) (r : Replica) → k ≤ most_missed → passes_largest k r ≡ false → misses_too_many k r ≡ false
unfolding misses_too_many
not-many k r h e = ap (λ b. b || passes_largest k r) (le-ltb most_missed k h) ∙ e

pub stays-not : (k : ℕ) (r : Replica) → misses_too_many k r ≡ true → (stay_answer k r ≡ Refused 16) × (stayed k r ≡ r)
unfolding stayed
stays-not k r e = (pick_true _ _ _ e, pick_true _ _ _ e)

pub stays : (k : ℕ) (r : Replica) → misses_too_many k r ≡ false → (stay_answer k r ≡ Done) × (stayed k r ≡ stayed_up k r)
unfolding stayed
stays k r e = (pick-false _ _ _ e, pick-false _ _ _ e)

-- staying up is done unless there were too many
pub stay-done : (k : ℕ) (r : Replica) → is_done (stay_answer k r) ≡ not (misses_too_many k r)
stay-done k r = pick-holds (λ a. is_done a ≡ not (misses_too_many k r)) (misses_too_many k r) (Refused 16) Done (λ e. ap not (sym e)) (λ e. ap not (sym e))

-- ---- returning

module _ (k : ℕ) (b : List ℕ) where
  -- an answer that is a refusal, and a blank replica
  refusing : (number : ℕ) → return_refusal k b ≡ number → eqb number 0 ≡ false → (return_answer k b ≡ Refused number) × (returned k b ≡ fresh_of blank_settings)
  unfolding returned
  refusing number e n =
      let z = ap (λ (x : ℕ). eqb x 0) e ∙ n in
      (pick-false _ _ _ z ∙ ap Refused e, pick-false _ _ _ z)

  pub return-15 : is_record b ≡ false → (return_answer k b ≡ Refused 15) × (returned k b ≡ fresh_of blank_settings)
  unfolding return_refusal
  return-15 e = refusing 15 (first_holds 15 _ _ (ap not e)) refl

  pub return-16 : is_record b ≡ true → misses_too_many k (replica_in b) ≡ true → (return_answer k b ≡ Refused 16) × (returned k b ≡ fresh_of blank_settings)
  unfolding return_refusal
  return-16 e m = refusing 16 (first-fails 15 _ _ (ap not e) ∙ first_holds 16 _ _ m) refl

  pub return-done : is_record b ≡ true → misses_too_many k (replica_in b) ≡ false → (return_answer k b ≡ Done) × (returned k b ≡ stayed_up k (replica_in b))
  unfolding return_refusal returned
  return-done e m =
      let z : return_refusal k b ≡ 0 = first-fails 15 _ _ (ap not e) ∙ first-fails 16 _ _ m ∙ none-holds in
      let t = ap (λ (x : ℕ). eqb x 0) z in
      (pick_true _ _ _ t, pick_true _ _ _ t)

-- what staying up gives at the replica of a record, returning gives from its bytes
module _ (k : ℕ) (b : List ℕ) (r : Replica) (known : is_record b ≡ true) (same : r ≡ replica_in b) where
  pub returns-up : (up : Result Replica Refusal) → answered_of up ≡ stay_answer k r → IfOk up (λ (x : Replica). x ≡ stayed k r)
      → (answered_of up ≡ return_answer k b) × IfOk up (λ (x : Replica). x ≡ returned k b)
  returns-up (Ok x) a e =
      let few : misses_too_many k r ≡ false = not-true _ (sym (stay-done k r) ∙ ap is_done (sym a)) in
      let m = return-done k b known (ap (misses_too_many k) (sym same) ∙ few) in
      (sym m.0, e ∙ (stays k r few).1 ∙ ap (stayed_up k) same ∙ sym m.1)
  returns-up (Err refusal) a e =
      let many : misses_too_many k r ≡ true = not-false _ (sym (stay-done k r) ∙ ap is_done (sym a)) in
      let m = return-16 k b known (ap (misses_too_many k) (sym same) ∙ many) in
      (a ∙ (stays-not k r many).0 ∙ sym m.0, tt)
