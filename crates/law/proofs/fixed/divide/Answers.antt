-- `law::fixed::divide` meets its contract. Assumes nothing.
use Rattle.std.proofs.Common.{◌≡◌, true, false, ℤ, pos, ◌+ℤ◌, ap, ◌∙◌, subst, w64, of_z, FitsSigned}
use Rattle.std.proofs.Math.Facts.{to_z-of_z}
use Rattle.std.specs.Int.Signed.{lt_z, rem_z}
use Rattle.law.proofs.Division.{below, left, next_fits, divided-under, divided-over, divided-even, divided-odd}
use Rattle.law.proofs.fixed.divide.Goals as goal

pub returns-then-remainder-lt32768 : goal.returns-then-remainder-lt32768
returns-then-remainder-lt32768 c =
    let x = c.args.x in
    let f = c.ranges.x in
    let b-fits : FitsSigned w64 c.div_euclid-below.result = record { sfits = c.div_euclid-below.type_inv } in
    let l-fits : FitsSigned w64 c.rem_euclid-remainder.result = record { sfits = c.rem_euclid-remainder.type_inv } in
    let b : c.div_euclid-below.result ≡ below x = simp (to_z-of_z, f) at c.div_euclid-below.ensures in
    let l : c.rem_euclid-remainder.result ≡ left x = simp (to_z-of_z, f) at c.rem_euclid-remainder.ensures.value in
    let under = subst (λ (z : ℤ). lt_z z (pos 32768) ≡ true) l (simp (to_z-of_z, l-fits) at c.if-remainder-lt32768.true) in
    simp (to_z-of_z, b-fits) (b ∙ divided-under x under)

pub returns-then-remainder-gt32768 : goal.returns-then-remainder-gt32768
returns-then-remainder-gt32768 c =
    let x = c.args.x in
    let f = c.ranges.x in
    let b-fits : FitsSigned w64 c.div_euclid-below.result = record { sfits = c.div_euclid-below.type_inv } in
    let l-fits : FitsSigned w64 c.rem_euclid-remainder.result = record { sfits = c.rem_euclid-remainder.type_inv } in
    let b : c.div_euclid-below.result ≡ below x = simp (to_z-of_z, f) at c.div_euclid-below.ensures in
    let l : c.rem_euclid-remainder.result ≡ left x = simp (to_z-of_z, f) at c.rem_euclid-remainder.ensures.value in
    let n-fits : FitsSigned w64 (c.div_euclid-below.result +ℤ pos 1) = rw b (next_fits x f) in
    let over = subst (λ (z : ℤ). lt_z (pos 32768) z ≡ true) l (simp (to_z-of_z, l-fits) at c.if-remainder-gt32768.true) in
    simp (to_z-of_z, b-fits, n-fits) (ap (λ (z : ℤ). z +ℤ pos 1) b ∙ divided-over x over)

pub returns-then-below-eq0 : goal.returns-then-below-eq0
returns-then-below-eq0 c =
    let x = c.args.x in
    let f = c.ranges.x in
    let b-fits : FitsSigned w64 c.div_euclid-below.result = record { sfits = c.div_euclid-below.type_inv } in
    let l-fits : FitsSigned w64 c.rem_euclid-remainder.result = record { sfits = c.rem_euclid-remainder.type_inv } in
    let b : c.div_euclid-below.result ≡ below x = simp (to_z-of_z, f) at c.div_euclid-below.ensures in
    let l : c.rem_euclid-remainder.result ≡ left x = simp (to_z-of_z, f) at c.rem_euclid-remainder.ensures.value in
    let under = subst (λ (z : ℤ). lt_z z (pos 32768) ≡ false) l (simp (to_z-of_z, l-fits) at c.if-remainder-lt32768.false) in
    let over = subst (λ (z : ℤ). lt_z (pos 32768) z ≡ false) l (simp (to_z-of_z, l-fits) at c.if-remainder-gt32768.false) in
    let even = subst (λ (z : ℤ). of_z w64 (rem_z z (pos 2)) ≡ 0) b (simp (to_z-of_z, b-fits) at c.if-below-eq0.true) in
    simp (to_z-of_z, b-fits) (b ∙ divided-even x under over even)

pub returns : goal.returns
returns c =
    let x = c.args.x in
    let f = c.ranges.x in
    let b-fits : FitsSigned w64 c.div_euclid-below.result = record { sfits = c.div_euclid-below.type_inv } in
    let l-fits : FitsSigned w64 c.rem_euclid-remainder.result = record { sfits = c.rem_euclid-remainder.type_inv } in
    let b : c.div_euclid-below.result ≡ below x = simp (to_z-of_z, f) at c.div_euclid-below.ensures in
    let l : c.rem_euclid-remainder.result ≡ left x = simp (to_z-of_z, f) at c.rem_euclid-remainder.ensures.value in
    let n-fits : FitsSigned w64 (c.div_euclid-below.result +ℤ pos 1) = rw b (next_fits x f) in
    let under = subst (λ (z : ℤ). lt_z z (pos 32768) ≡ false) l (simp (to_z-of_z, l-fits) at c.if-remainder-lt32768.false) in
    let over = subst (λ (z : ℤ). lt_z (pos 32768) z ≡ false) l (simp (to_z-of_z, l-fits) at c.if-remainder-gt32768.false) in
    let odd = subst (λ (z : ℤ). of_z w64 (rem_z z (pos 2)) ≡ 0 → ⊥) b (simp (to_z-of_z, b-fits) at c.if-below-eq0.false) in
    simp (to_z-of_z, b-fits, n-fits) (ap (λ (z : ℤ). z +ℤ pos 1) b ∙ divided-odd x under over odd)
