-- `list_all` of std and `all_below`: a test of each element of a part of a list, and of each number below a bound. Assumes nothing.
use Rattle.std.proofs.Common.{◌≡◌, ℕ, zero, suc, ◌+◌, ◌-◌, ◌≤◌, Bool, true, false, ◌&&◌, List, [], ◌∷◌, length, take, drop, ℤ, pos, refl, sym, ap, ◌∙◌, arith, length-drop}
use Rattle.std.proofs.Math.Path.{ap₂, fun_ext}
use Rattle.std.proofs.lemmas.List.{get_or-drop}
use Rattle.std.specs.List.{list_all, range_with_len, slice_range}
use Rattle.lists.specs.Below.{all_below}
use Rattle.lists.specs.Places.{entry}

associative : (a b c : Bool) → ((a && b) && c) ≡ (a && (b && c))
associative true b c = refl
associative false b c = refl

with-true : (a : Bool) → a ≡ (a && true)
with-true true = refl
with-true false = refl

-- the first number apart
first-apart : (n : ℕ) (test : ℕ → Bool) → all_below (suc n) test ≡ (test 0 && all_below n (λ i. test (suc i)))
unfolding all_below
first-apart zero test = with-true (test 0)
first-apart (suc n) test = ap (λ (b : Bool). b && test (suc n)) (first-apart n test) ∙ associative (test 0) (all_below n (λ i. test (suc i))) (test (suc n))

prefix-listed : (test : ℤ → Bool) (n : ℕ) (xs : List ℤ) → n ≤ length xs → list_all test (take n xs) ≡ all_below n (λ i. test (entry xs i))
unfolding all_below
prefix-listed test zero xs h = refl
prefix-listed test (suc n) [] h = absurd (omega arith)
prefix-listed test (suc n) (x ∷ xs) h =
    ap (λ (b : Bool). test x && b) (prefix-listed test n xs (omega arith)) ∙ sym (first-apart n (λ i. test (entry (x ∷ xs) i)))

-- the elements from `at` on, n of them
pub all-listed : (test : ℤ → Bool) (xs : List ℤ) (at n : ℕ) → at + n ≤ length xs
    → list_all test (slice_range xs at (at + n)) ≡ all_below n (λ j. test (entry xs (at + j)))
all-listed test xs at n h =
    let count : at + n - at ≡ n = omega arith in
    let long : n ≤ length (drop at xs) = omega (arith, length-drop at xs, h) in
    ap (λ (k : ℕ). list_all test (take k (drop at xs))) count ∙ prefix-listed test n (drop at xs) long
    ∙ ap (all_below n) (fun_ext (λ j. ap test (get_or-drop at xs j (pos 0))))

counted-from : (test : ℕ → Bool) (a n : ℕ) → list_all test (range_with_len a n) ≡ all_below n (λ i. test (a + i))
unfolding all_below
counted-from test a zero = refl
counted-from test a (suc n) =
    ap₂ (λ (s t : Bool). s && t) (ap test {x = a} {y = a + 0} (omega arith))
    (counted-from test (a + 1) n ∙ ap (all_below n) (fun_ext (λ i. ap test {x = a + 1 + i} {y = a + suc i} (omega arith))))
    ∙ sym (first-apart n (λ i. test (a + i)))

-- the numbers below n
pub all-counted : (test : ℕ → Bool) (n : ℕ) → list_all test (range_with_len 0 n) ≡ all_below n test
all-counted test n = counted-from test 0 n ∙ ap (all_below n) (fun_ext (λ i. ap test {x = 0 + i} {y = i} (omega arith)))
