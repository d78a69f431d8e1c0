-- Laws of bytes that are joined by `|`: what all of them are below. Assumes nothing.
use mathlib.Core.Path.{◌≡◌, refl, sym, ap, ap₂, ◌∙◌}
use mathlib.Core.Bool.{Bool, true, false, ◌&&◌}
use mathlib.Core.List.{List}
use Prim.Native.Nat.{ℕ, zero, suc, ◌+◌, ◌^◌, ◌≤◌, ◌<◌}
use native.Mathlib.Omega.{arith}
use lib.Bits.{bit_or, or_lt, or_add_and, and_le_l, and_le_r}
use lib.ListN.{length, get_or, drop, length-drop}
use lib.Seq.{take-suc, get_or-drop}
use lib.Pow.{pow_pos}
use lib.Dec.{eqb, leb, ltb, leb-suc-suc, leb-suc-zero, eqb-suc-zero}
use borrow.Author.Tests.{ltb-true, ltb-false, lt-ltb, le-ltb}
use Rattle.std.specs.List.{fold}
use Rattle.std.proofs.lemmas.List.Sums.{fold_push}
use Rattle.lists.specs.Below.{all_below}
use Rattle.octets.specs.Words.{part}

-- two joined are below a power of two exactly where both are
pub or-below : (k a b : ℕ) → ltb (bit_or a b) (2 ^ k) ≡ (ltb a (2 ^ k) && ltb b (2 ^ k))
or-below k a b = by (ltb a (2 ^ k)) (ltb b (2 ^ k)) refl refl
  where
    by : (s t : Bool) → ltb a (2 ^ k) ≡ s → ltb b (2 ^ k) ≡ t → ltb (bit_or a b) (2 ^ k) ≡ (s && t)
    by true true p q = lt-ltb (bit_or a b) (2 ^ k) (or_lt k a b (ltb-true a (2 ^ k) p) (ltb-true b (2 ^ k) q))
    by true false p q = le-ltb (bit_or a b) (2 ^ k) (omega (arith, or_add_and a b, and_le_l a b, ltb-false b (2 ^ k) q))
    by false t p q = le-ltb (bit_or a b) (2 ^ k) (omega (arith, or_add_and a b, and_le_r a b, ltb-false a (2 ^ k) p))

-- below 2^0
pub below_one : (x : ℕ) → ltb x 1 ≡ eqb x 0
below_one zero = refl
below_one (suc x) = rw (leb-suc-suc, leb-suc-zero, eqb-suc-zero)

-- two joined are 0 exactly where both are
pub or-zero : (a b : ℕ) → eqb (bit_or a b) 0 ≡ (eqb a 0 && eqb b 0)
or-zero a b = sym (below_one (bit_or a b)) ∙ or-below 0 a b ∙ ap₂ (λ (s t : Bool). s && t) (below_one a) (below_one b)

-- below 2^1
pub below_two : (x : ℕ) → ltb x 2 ≡ leb x 1
below_two x = leb-suc-suc x 1

-- tests that agree hold of all alike
pub all_same : (n : ℕ) (f g : ℕ → Bool) → ((i : ℕ) → f i ≡ g i) → all_below n f ≡ all_below n g
all_same n f g h = λ i. all_below n (λ k. h k i)

-- bytes from an offset on, joined, are below a power of two exactly where each of them is
pub part-below : (k : ℕ) (b : List ℕ) (at n : ℕ) → at + n ≤ length b
    → ltb (fold bit_or 0 (part b at n)) (2 ^ k) ≡ all_below n (λ i. ltb (get_or b (at + i) 0) (2 ^ k))
unfolding all_below
part-below k b at zero h = lt-ltb 0 (2 ^ k) (pow_pos k)
part-below k b at (suc n) h =
    let here : get_or (drop at b) n 0 ≡ get_or b (at + n) 0 = get_or-drop at b n 0 in
    let room : n < length (drop at b) = omega (arith, length-drop at b) in
    rw (take-suc (drop at b) n 0 room, fold_push)
    (or-below k (fold bit_or 0 (part b at n)) (get_or (drop at b) n 0)
    ∙ ap₂ (λ (s t : Bool). s && t) (part-below k b at n (omega arith)) (ap (λ (x : ℕ). ltb x (2 ^ k)) here))
