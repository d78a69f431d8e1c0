-- Laws of parts of a list: what lies after an offset, the first places, and what stands at one. Assumes nothing.
use mathlib.Core.Path.{◌≡◌, refl, sym, ◌∙◌}
use mathlib.Core.List.{List, [], ◌∷◌}
use Prim.Native.Nat.{ℕ, zero, suc, ◌-◌, ◌≤◌, ◌<◌}
use native.Mathlib.Omega.{arith}
use native.Mathlib.Decide.{dec_le}
use lib.ListN.{length, take, drop, get_or, length-drop}
use lib.Seq.{take_all, take-nil}

module _ {A : Type 0} where
  -- nothing lies after the end
  pub drop-beyond : (xs : List A) (a : ℕ) → length xs ≤ a → drop a xs ≡ []
  drop-beyond [] zero h = refl
  drop-beyond [] (suc a) h = refl
  drop-beyond (x ∷ xs) zero h = absurd (omega arith)
  drop-beyond (x ∷ xs) (suc a) h = drop-beyond xs a (omega arith)

  pub none-beyond : (xs : List A) (a size : ℕ) → length xs ≤ a → [] ≡ take size (drop a xs)
  none-beyond xs a size h = rw (drop-beyond xs a h) (sym (take-nil size))

  -- `&xs[a..]`
  pub to_the_end : (xs : List A) (a : ℕ) → take (length xs - a) (drop a xs) ≡ drop a xs
  to_the_end xs a = take_all (length xs - a) (drop a xs) (simp length-drop (omega arith))

  -- the same where no more is asked for than there is
  pub bytes_after : (xs : List A) (a size : ℕ) → length xs - a ≤ size → take (length xs - a) (drop a xs) ≡ take size (drop a xs)
  bytes_after xs a size h = to_the_end xs a ∙ sym (take_all size (drop a xs) (simp length-drop (omega arith)))

  -- `&values[0..r]`, r being n or, where that is less, the number of places
  pub first-in-use : (values : List A) (places n r : ℕ) → length values ≡ places → (n ≤ places → r ≡ n) → (places ≤ n → r ≡ places)
      → take (r - 0) (drop 0 values) ≡ take n values
  first-in-use values places n r e few many = by (dec_le n places)
    where
      z : r - 0 ≡ r
      z = omega arith

      by : Dec (n ≤ places) → take (r - 0) values ≡ take n values
      by (yes h) = rw (z, few h)
      by (no h) =
          let l : places ≤ n = omega (arith, h) in
          rw (z, many l) (take_all places values (omega arith) ∙ sym (take_all n values (omega arith)))

-- what stands at a place that is there
pub get_d_any : {A : Type 0} (xs : List A) (i : ℕ) (d e : A) → i < length xs → get_or xs i d ≡ get_or xs i e
get_d_any [] i d e h = absurd (omega arith)
get_d_any (x ∷ xs) zero d e h = refl
get_d_any (x ∷ xs) (suc i) d e h = get_d_any xs i d e (omega arith)

pub get_d_beyond : (xs : List ℕ) (i : ℕ) → length xs ≤ i → get_or xs i 0 ≡ 0
get_d_beyond [] i h = refl
get_d_beyond (x ∷ xs) zero h = absurd (omega arith)
get_d_beyond (x ∷ xs) (suc i) h = get_d_beyond xs i (omega arith)
