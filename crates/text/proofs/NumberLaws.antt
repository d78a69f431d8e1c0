-- Laws of numbers in lines: digits one by one, and the two ends of i32. Assumes nothing.
use Rattle.std.proofs.Common.{◌≡◌, refl, sym, ap, ◌∙◌, Bool, true, false, List, ℕ, zero, suc, ◌+◌, ◌*◌, ◌-◌, ◌≤◌, ◌<◌, arith, add-one, ℤ, pos, negsuc, leb, ltb, length, drop, get_or, Option, Some, None, Result, Ok, Err, IfSome, FitsSigned, w32, nat_abs, ◌-ℤ◌, [], ◌∷◌}
use native.Mathlib.Decide.{dec_le}
use lib.Seq.{drop-cons, drop-length}
use borrow.Author.Tests.{le-leb, lt-leb, leb-true, lt-ltb, le-ltb}
use Rattle.lists.proofs.Booleans.{both, second-fails}
use Rattle.lists.specs.Choice.{pick}
use Rattle.lists.proofs.Choice.{pick-holds}
use Rattle.std.specs.Option.{SomeIff, unwrap_or}
use Rattle.std.specs.Result.{OkIff, result_ok, result_unwrap_or}
use Rattle.std.specs.Int.{FitsUnsignedBits}
use Rattle.std.proofs.lemmas.Int.{ints}
use Rattle.std.proofs.lemmas.Option.{none-some, same_Some}
use Rattle.text.specs.Numbers.{is_digit, goes_on, spelled, negative, positive, counted}

-- what a digit that goes on tells
pub record Goes (largest n b : ℕ) : Type 0 where
  pub low : 48 ≤ b
  pub high : b ≤ 57
  pub small : 10 * n + (b - 48) ≤ largest

pub digit-range : (b : ℕ) → is_digit b ≡ true → (48 ≤ b) × (b ≤ 57)
unfolding is_digit
digit-range b e = let p = both (leb 48 b) (leb b 57) e in (leb-true 48 b p.0, leb-true b 57 p.1)

pub goes : (largest n b : ℕ) → goes_on largest n b ≡ true → Goes largest n b
unfolding goes_on
goes largest n b e =
    let p = both (is_digit b) (leb (10 * n + (b - 48)) largest) e in
    let d = digit-range b p.0 in
    record { low = d.0; high = d.1; small = leb-true _ _ p.1 }

-- ---- one digit more

module _ (largest n b : ℕ) (next : Option ℕ) where
  pub no_digit : is_digit b ≡ false → None ≡ pick (goes_on largest n b) next None
  unfolding goes_on pick
  no_digit e = rw e

  pub too_large : largest < 10 * n + (b - 48) → None ≡ pick (goes_on largest n b) next None
  unfolding goes_on pick
  too_large h = rw (second-fails (is_digit b) _ (lt-leb _ _ h))

  pub one-more : is_digit b ≡ true → 10 * n + (b - 48) ≤ largest → next ≡ pick (goes_on largest n b) next None
  unfolding goes_on pick
  one-more e h = rw (e, le-leb _ _ h)

-- ---- a turn of the loop that spells

-- where the digit does not go on, nothing is spelled; where it does, the rest is spelled after it
pub pick-none : (t : Bool) {A B : Type 0} (x : A) (y : Option B) → pick t (Some x) None ≡ None → pick t y None ≡ None
unfolding pick
pick-none true x y e = absurd (none-some x (sym e))
pick-none false x y e = refl

pub pick-some : (t : Bool) {A B : Type 0} (x v : A) (y : A → Option B) → pick t (Some x) None ≡ Some v → pick t (y x) None ≡ y v
unfolding pick
pick-some true x v y e = ap y (same_Some x v e)
pick-some false x v y e = absurd (none-some v e)

module _ (largest n : ℕ) (digits : List ℕ) (i : ℕ) where
  spelled-next : i < length digits
      → spelled largest n (drop i digits)
      ≡ pick (goes_on largest n (get_or digits i 0)) (spelled largest (10 * n + (get_or digits i 0 - 48)) (drop (i + 1) digits)) None
  unfolding spelled
  spelled-next h = rw (add-one, drop-cons digits i 0 h)

  pub spelled-stops : i < length digits → pick (goes_on largest n (get_or digits i 0)) (Some (10 * n + (get_or digits i 0 - 48))) None ≡ None
      → spelled largest n (drop i digits) ≡ None
  spelled-stops h e = spelled-next h ∙ pick-none (goes_on largest n (get_or digits i 0)) _ _ e

  pub spelled-more : (m : ℕ) → i < length digits → pick (goes_on largest n (get_or digits i 0)) (Some (10 * n + (get_or digits i 0 - 48))) None ≡ Some m
      → spelled largest n (drop i digits) ≡ spelled largest m (drop (i + 1) digits)
  spelled-more m h e = spelled-next h ∙ pick-some (goes_on largest n (get_or digits i 0)) _ m (λ (k : ℕ). spelled largest k (drop (i + 1) digits)) e

  pub spelled-ends : i ≡ length digits → spelled largest n (drop i digits) ≡ Some n
  unfolding spelled
  spelled-ends e = rw (e, drop-length)

-- what is spelled is no more than the largest number
pub spelled-within : (largest n : ℕ) (digits : List ℕ) → n ≤ largest → IfSome (spelled largest n digits) (λ v. v ≤ largest)
unfolding spelled
spelled-within largest n [] h = h
spelled-within largest n (b ∷ bs) h =
    pick-holds (λ (r : Option ℕ). IfSome r (λ v. v ≤ largest)) (goes_on largest n b) _ None
    (λ e. spelled-within largest (10 * n + (b - 48)) bs (goes largest n b e).small)
    (λ _. tt)

-- ---- the signs

-- `0i32.checked_sub_unsigned(n)`
pub negative-from : (n : ℕ) (r : Option ℤ) → 0 < n → SomeIff r (FitsSigned w32 (pos 0 -ℤ pos n)) (pos 0 -ℤ pos n) → r ≡ negative (Some n)
unfolding negative pick
negative-from zero r h e = absurd (omega arith)
negative-from (suc k) r h e = let z : pos 0 -ℤ pos (suc k) ≡ negsuc k = omega (arith, ints) in below r (rw z at e)
  where
    below : (r : Option ℤ) → SomeIff r (FitsSigned w32 (negsuc k)) (negsuc k) → r ≡ pick (leb (suc k) 2147483648) (Some (negsuc k)) None
    below None e = by (dec_le (suc k) 2147483648)
      where
        by : Dec (suc k ≤ 2147483648) → None ≡ pick (leb (suc k) 2147483648) (Some (negsuc k)) None
        by (yes l) = absurd (e (record { sfits = omega arith }))
        by (no l) = rw (lt-leb (suc k) 2147483648 (omega (arith, l)))
    below (Some x) e = let l : k < 2147483648 = e.0.sfits in rw (le-leb (suc k) 2147483648 (omega arith)) (ap Some e.1)

-- `i32::try_from(n).ok()`
pub positive-from : {E : Type 0} (n : ℕ) (r : Result ℤ E) → OkIff r (FitsSigned w32 (pos n)) (pos n) → result_ok r ≡ positive (Some n)
unfolding positive pick
positive-from n (Ok x) e = let l : n < 2147483648 = e.0.sfits in rw (lt-ltb n 2147483648 l) (ap Some e.1)
positive-from n (Err d) e = by (dec_le 2147483648 n)
  where
    by : Dec (2147483648 ≤ n) → None ≡ pick (ltb n 2147483648) (Some (pos n)) None
    by (yes l) = rw (le-ltb n 2147483648 l)
    by (no l) = absurd (e (record { sfits = omega (arith, l) }))

-- `u32::try_from(z).unwrap_or(0)`, at z = `n.unwrap_or(0)`
pub counted-from : {E : Type 0} (n : Option ℤ) (r : Result ℕ E)
    → OkIff r (FitsUnsignedBits 32 (unwrap_or n (pos 0))) (nat_abs (unwrap_or n (pos 0))) → FitsSigned w32 (unwrap_or n (pos 0)) → result_unwrap_or r 0 ≡ counted n
unfolding counted
counted-from None (Ok x) e s = e.1
counted-from None (Err d) e s = refl
counted-from (Some (pos n)) (Ok x) e s = e.1
counted-from (Some (pos n)) (Err d) e s = let l : n < 2147483648 = s.sfits in absurd (e (omega arith))
counted-from (Some (negsuc k)) (Ok x) e s = absurd e.0
counted-from (Some (negsuc k)) (Err d) e s = refl
