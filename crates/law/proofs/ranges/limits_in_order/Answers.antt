-- `law::ranges::limits_in_order` meets its contract. Assumes nothing.
use Rattle.std.proofs.Common.{◌≡◌, true, false, ℕ, ℤ, pos, negsuc, refl, sym, ap, ◌∙◌, arith, rules, w32, FitsSigned}
use Rattle.std.proofs.Math.Facts.{to_z-of_z}
use Rattle.std.specs.Int.Signed.{lt_z, le_z}
use Rattle.std.proofs.lemmas.Bool.{ltb-true, ltb-false, le-leb, lt-leb}
use Rattle.lists.specs.Below.{all_below}
use Rattle.lists.specs.Places.{entry}
use Rattle.lists.proofs.Below.{all_none, all_more, one-fails}
use Rattle.law.specs.Settings.{limits_in_order}
use Rattle.law.proofs.ranges.limits_in_order.Goals as goal

not-above : (a b : ℤ) → lt_z b a ≡ false → le_z a b ≡ true
not-above (pos a) (pos b) h = le-leb a b (ltb-false b a h)
not-above (pos a) (negsuc b) h = sym h
not-above (negsuc a) (pos b) h = refl
not-above (negsuc a) (negsuc b) h = le-leb b a (ltb-false a b h)

above : (a b : ℤ) → lt_z b a ≡ true → le_z a b ≡ false
above (pos a) (pos b) h = lt-leb a b (ltb-true b a h)
above (pos a) (negsuc b) h = refl
above (negsuc a) (pos b) h = sym h
above (negsuc a) (negsuc b) h = lt-leb b a (ltb-true a b h)

pub loop-j-init : goal.loop-j-init
loop-j-init c = all_none _

pub returns-then-low-j : goal.returns-then-low-j
unfolding limits_in_order
returns-then-low-j c =
    let low = entry c.args.low.now c.loop-j.j in
    let high = entry c.args.high.now c.loop-j.j in
    let low_fits : FitsSigned w32 low = search rules in
    let high_fits : FitsSigned w32 high = search rules in
    sym (one-fails _ c.args.p c.loop-j.j c.loop-j-test.true (above low high (simp (to_z-of_z, low_fits, high_fits) at c.if-low-j.true)))

pub loop-j-preserved : goal.loop-j-preserved
loop-j-preserved c =
    let low = entry c.args.low.now c.loop-j.j in
    let high = entry c.args.high.now c.loop-j.j in
    let low_fits : FitsSigned w32 low = search rules in
    let high_fits : FitsSigned w32 high = search rules in
    all_more _ c.loop-j.j c.loop-j.invariant (not-above low high (simp (to_z-of_z, low_fits, high_fits) at c.if-low-j.false))

pub returns : goal.returns
unfolding limits_in_order
returns c =
    let done : c.loop-j.j ≡ c.args.p = omega arith in
    sym (ap (λ (k : ℕ). all_below k (λ i. le_z (entry c.args.low.now i) (entry c.args.high.now i))) (sym done) ∙ c.loop-j.invariant)
