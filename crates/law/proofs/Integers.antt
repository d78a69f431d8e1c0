-- Laws of the integers: sizes of sums and products, and when a number fits a signed width. Assumes nothing.
use Rattle.std.proofs.Common.{◌≡◌, refl, sym, subst, Bool, true, false, cond, ℕ, zero, suc, ◌+◌, ◌*◌, ◌-◌, ◌^◌, ◌≤◌, ◌<◌, arith, ltb, leb, ℤ, pos, negsuc, ◌+ℤ◌, ◌-ℤ◌, ◌*ℤ◌, w32, w64, FitsSigned, to_z, of_z}
use Rattle.std.specs.Int.{Width}
use mir.Val.{hbits}
use Rattle.std.proofs.Math.Dec.{lit<}
use Rattle.std.proofs.Math.IntN.{neg_ℤ, nat_abs, sub_ℕ}
use Rattle.std.proofs.Math.Facts.{to_z-of_z, sfits_widen}
use Rattle.std.proofs.Math.Nat as NatL
use Rattle.std.specs.Int.Signed.{lt_z}
use Rattle.std.proofs.lemmas.Bool.{ltb-true, ltb-false, leb-true}
use Rattle.lists.specs.Choice.{pick}
use Rattle.lists.proofs.Booleans.{both}
use Rattle.lists.proofs.Choice.{pick-holds}
use Rattle.law.specs.Fixed.{limited, clamp, largest_product}
use Rattle.law.specs.Settings.{in_range}

-- `sub_ℕ` is a `cond` of the library
difference-size : (a b : ℕ) → nat_abs (sub_ℕ a b) ≡ (a - b) + (b - a)
difference-size a b = by (ltb a b) refl
  where
    by : (t : Bool) → ltb a b ≡ t → nat_abs (cond t (negsuc (b - suc a)) (pos (a - b))) ≡ (a - b) + (b - a)
    by true e = omega (arith, ltb-true a b e)
    by false e = omega (arith, ltb-false a b e)

negative-size : (n : ℕ) → nat_abs (neg_ℤ (pos n)) ≡ n
negative-size zero = refl
negative-size (suc n) = refl

pub sum-size : (a b : ℤ) → nat_abs (a +ℤ b) ≤ nat_abs a + nat_abs b
sum-size (pos a) (pos b) = omega arith
sum-size (pos a) (negsuc b) = omega (arith, difference-size a (suc b))
sum-size (negsuc a) (pos b) = omega (arith, difference-size b (suc a))
sum-size (negsuc a) (negsuc b) = omega arith

pub minus-size : (a : ℤ) → nat_abs (neg_ℤ a) ≡ nat_abs a
minus-size (pos n) = negative-size n
minus-size (negsuc n) = refl

-- how far two numbers that are not below zero are apart
pub distance : (a b : ℕ) → nat_abs (pos a -ℤ pos b) ≡ (a - b) + (b - a)
distance a zero = omega arith
distance a (suc b) = difference-size a (suc b)

product-size : (a b : ℤ) → nat_abs (a *ℤ b) ≡ nat_abs a * nat_abs b
product-size (pos a) (pos b) = refl
product-size (pos a) (negsuc b) = negative-size (a * suc b)
product-size (negsuc a) (pos b) = negative-size (suc a * b)
product-size (negsuc a) (negsuc b) = refl

-- a size below half the width's power fits
pub small-fits : (w : Width) (z : ℤ) → nat_abs z < 2 ^ hbits w → FitsSigned w z
small-fits w (pos n) h = record { sfits = h }
small-fits w (negsuc n) h = record { sfits = omega arith }

pub fits-size : {w : Width} {z : ℤ} → FitsSigned w z → nat_abs z ≤ 2 ^ hbits w
fits-size {w} {z = pos n} h = NatL.le_of_lt h.sfits
fits-size {w} {z = negsuc n} h = h.sfits

pub wide : {z : ℤ} → FitsSigned w32 z → FitsSigned w64 z
wide f = sfits_widen tt f

-- an i32 cast to i64
pub widened : {z : ℤ} → FitsSigned w32 z → FitsSigned w64 (to_z w32 (of_z w32 z))
widened f = subst (FitsSigned w64) (sym (to_z-of_z f)) (wide f)

coefficient-size : (c : ℤ) → in_range c ≡ true → nat_abs c ≤ 16777216
unfolding in_range
coefficient-size (pos n) h = leb-true n 16777216 h
coefficient-size (negsuc n) h = omega (arith, leb-true n 16777215 (both (leb n 16777215) true h).0)

-- the largest product of a coefficient and an i32
pub term-size : (c x : ℤ) → in_range c ≡ true → FitsSigned w32 x → nat_abs (c *ℤ x) ≤ largest_product
term-size c x hc hx = NatL.le_trans (NatL.le_of_eq (product-size c x)) (NatL.mul-le-mul (coefficient-size c hc) (fits-size hx))

-- one more such product in a sum of at most six
module _ (total c x : ℤ) (ht : nat_abs total ≤ 6 * largest_product) (hc : in_range c ≡ true) (hx : FitsSigned w32 x) where
  pub term_fits : FitsSigned w64 (c *ℤ x)
  term_fits = small-fits w64 (c *ℤ x) (omega (arith, term-size c x hc hx))

  pub total-fits : FitsSigned w64 (total +ℤ c *ℤ x)
  total-fits = small-fits w64 (total +ℤ c *ℤ x) (omega (arith, term-size c x hc hx, sum-size total (c *ℤ x)))

-- an i32 less a number of moderate size
pub difference-fits : (y q : ℤ) → FitsSigned w32 y → nat_abs q ≤ 6 * largest_product → FitsSigned w64 (y -ℤ q)
difference-fits y q f h = small-fits w64 (y -ℤ q) (omega (arith, fits-size f, sum-size y (neg_ℤ q), minus-size q))

-- a number between two that fit
pub between-fits : (z lower upper : ℤ) → FitsSigned w32 lower → FitsSigned w32 upper → lt_z z lower ≡ false → lt_z upper z ≡ false → FitsSigned w32 z
between-fits (pos n) lower (pos u) fl fu l h = record { sfits = let f = fu.sfits in omega (arith, ltb-false u n h) }
between-fits (pos n) lower (negsuc u) fl fu l h = absurd (let z : ◌≡◌ {A = ℕ} 0 1 = cc in omega arith)
between-fits (negsuc n) (pos k) upper fl fu l h = absurd (let z : ◌≡◌ {A = ℕ} 0 1 = cc in omega arith)
between-fits (negsuc n) (negsuc k) upper fl fu l h = record { sfits = let f = fl.sfits in omega (arith, ltb-false k n l) }

pub limited-fits : (lower upper z : ℤ) → FitsSigned w32 lower → FitsSigned w32 upper → FitsSigned w32 (limited lower upper z)
unfolding limited
limited-fits lower upper z fl fu =
    pick-holds (FitsSigned w32) (lt_z z lower) lower (pick (lt_z upper z) upper z) (λ _. fl)
    (λ l. pick-holds (FitsSigned w32) (lt_z upper z) upper z (λ _. fu) (λ h. between-fits z lower upper fl fu l h))

least_fits : FitsSigned w32 (negsuc 2147483647)
least_fits = record { sfits = lit< tt }

largest-fits : FitsSigned w32 (pos 2147483647)
largest-fits = record { sfits = lit< tt }

pub clamp-fits : (z : ℤ) → FitsSigned w32 (clamp z)
unfolding clamp
clamp-fits z = limited-fits (negsuc 2147483647) (pos 2147483647) z least_fits largest-fits
