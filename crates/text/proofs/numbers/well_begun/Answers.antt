-- `numbers::well_begun` meets its contract. Assumes nothing.
use Rattle.std.proofs.Common.{rules, arith, ◌≡◌, ◌≤◌, length, refl}
use Rattle.std.proofs.Common.{get_or, Bool, true, false, ◌||◌}
use borrow.Author.Tests.{le-ltb, lt-ltb, eq-eqb, ne_eqb}
use Rattle.text.specs.Numbers.{well_begun}
use Rattle.text.proofs.numbers.well_begun.Goals as goal

or-true : (t : Bool) → true ≡ (t || true)
or-true true = refl
or-true false = refl

pub returns-in-empty : goal.returns-in-empty
unfolding well_begun
returns-in-empty c = let h : length c.args.digits.now ≤ 0 = omega arith in simp (le-ltb _ _ h)

pub returns-in-48 : goal.returns-in-48
unfolding well_begun
returns-in-48 c =
    let digits = c.args.digits.now in
    let zero : get_or digits 0 0 ≡ 48 = search rules in
    let many : length digits ≡ 1 → ⊥ = λ z. omega arith in
    rw (eq-eqb _ _ zero, ne_eqb _ _ many, lt-ltb 0 (length digits) (omega arith))

pub returns-in_default : goal.returns-in_default
unfolding well_begun
returns-in_default c =
    let digits = c.args.digits.now in
    rw (lt-ltb 0 (length digits) (omega arith), eq-eqb (length digits) 1 (omega arith)) (or-true _)

pub returns-in_default-2 : goal.returns-in_default-2
unfolding well_begun
returns-in_default-2 c =
    let digits = c.args.digits.now in
    let other : get_or digits 0 0 ≡ 48 → ⊥ = search rules in
    rw (ne_eqb _ _ other, lt-ltb 0 (length digits) (omega arith))
