-- Laws of `filled`: a turn of the loop that fills, the length, what stands at each place, and the places in use as a list of their own; and a list of
-- four places. Assumes nothing.
use mathlib.Core.Path.{◌≡◌, refl, sym, ap, ap₂, ◌∙◌, subst}
use mathlib.Core.List.{List, [], ◌∷◌, ◌++◌}
use Prim.Native.Nat.{ℕ, zero, suc, ◌+◌, ◌-◌, ◌≤◌, ◌<◌}
use native.Mathlib.Nat.{not-suc-le-zero, le_of_suc-le-suc, sub-zero, suc-sub-suc, zero-sub}
use native.Mathlib.Numerals.{add-one}
use native.Mathlib.Omega.{arith}
use native.Mathlib.Decide.{dec_le}
use lib.ListN.{length, get_or, set, take, drop, replicate, length-replicate}
use Rattle.lists.specs.Places.{filled}

module _ {ℓ} {A : Type ℓ} (blank : A) where
  pub filled_none : (width : ℕ) (f : ℕ → A) → filled blank width 0 f ≡ replicate width blank
  unfolding filled
  filled_none zero f = refl
  filled_none (suc width) f = refl

  filled-suc : (width i : ℕ) (f : ℕ → A) → i < width → set (filled blank width i f) i (f i) ≡ filled blank width (suc i) f
  unfolding filled
  filled-suc zero i f l = absurd (not-suc-le-zero l)
  filled-suc (suc width) zero f l = ap (λ (t : List A). f 0 ∷ t) (sym (filled_none width (λ k. f (suc k))))
  filled-suc (suc width) (suc i) f l = ap (λ (t : List A). f 0 ∷ t) (filled-suc width i (λ k. f (suc k)) (le_of_suc-le-suc l))

  -- one place more
  pub filled_more : (width i : ℕ) (f : ℕ → A) → i < width → set (filled blank width i f) i (f i) ≡ filled blank width (i + 1) f
  filled_more width i f l = rw add-one (filled-suc width i f l)

  pub filled-length : (width n : ℕ) (f : ℕ → A) → length (filled blank width n f) ≡ width
  unfolding filled
  filled-length zero n f = refl
  filled-length (suc width) zero f = length-replicate (suc width) blank
  filled-length (suc width) (suc n) f = ap suc (filled-length width n (λ k. f (suc k)))

  -- a list of blanks
  pub blank-at : (width i : ℕ) → get_or (replicate width blank) i blank ≡ blank
  blank-at zero i = refl
  blank-at (suc width) zero = refl
  blank-at (suc width) (suc i) = blank-at width i

  -- a place that is not in use
  pub filled-beyond : (width n i : ℕ) (f : ℕ → A) → n ≤ i → get_or (filled blank width n f) i blank ≡ blank
  unfolding filled
  filled-beyond zero n i f l = refl
  filled-beyond (suc width) zero i f l = blank-at (suc width) i
  filled-beyond (suc width) (suc n) zero f l = absurd (not-suc-le-zero l)
  filled-beyond (suc width) (suc n) (suc i) f l = filled-beyond width n i (λ k. f (suc k)) (le_of_suc-le-suc l)

  -- a place that is in use
  pub filled_at : (width n i : ℕ) (f : ℕ → A) → i < n → i < width → get_or (filled blank width n f) i blank ≡ f i
  unfolding filled
  filled_at zero n i f l k = absurd (not-suc-le-zero k)
  filled_at (suc width) zero i f l k = absurd (not-suc-le-zero l)
  filled_at (suc width) (suc n) zero f l k = refl
  filled_at (suc width) (suc n) (suc i) f l k = filled_at width n i (λ k. f (suc k)) (le_of_suc-le-suc l) (le_of_suc-le-suc k)

  filled-full : (width n : ℕ) (f : ℕ → A) → width ≤ n → filled blank width width f ≡ filled blank width n f
  unfolding filled
  filled-full zero n f l = refl
  filled-full (suc width) zero f l = absurd (not-suc-le-zero l)
  filled-full (suc width) (suc n) f l = ap (λ (t : List A). f 0 ∷ t) (filled-full width n (λ k. f (suc k)) (le_of_suc-le-suc l))

  -- no more places are in use than there are
  pub filled-most : (width m n : ℕ) (f : ℕ → A) → (m ≤ width → n ≡ m) → (width ≤ m → n ≡ width) → filled blank width n f ≡ filled blank width m f
  filled-most width m n f few many = by (dec_le width m)
    where
      by : Dec (width ≤ m) → filled blank width n f ≡ filled blank width m f
      by (yes h) = ap (λ (k : ℕ). filled blank width k f) (many h) ∙ filled-full width m f h
      by (no h) = ap (λ (k : ℕ). filled blank width k f) (few (omega arith))

  -- what is in use decides
  pub filled-same : (width n : ℕ) (f g : ℕ → A) → ((i : ℕ) → i < n → i < width → f i ≡ g i) → filled blank width n f ≡ filled blank width n g
  unfolding filled
  filled-same zero n f g h = refl
  filled-same (suc width) zero f g h = refl
  filled-same (suc width) (suc n) f g h =
      ap₂ (λ (a : A) (t : List A). a ∷ t) (h 0 (omega arith) (omega arith))
      (filled-same width n (λ k. f (suc k)) (λ k. g (suc k)) (λ i l m. h (suc i) (omega arith) (omega arith)))

  -- what holds of the blank and of each entry holds of what stands at each place
  pub filled-each {κ} : (P : A → Type κ) (width n : ℕ) (f : ℕ → A) → P blank → ((i : ℕ) → P (f i)) → (j : ℕ) → P (get_or (filled blank width n f) j blank)
  unfolding filled
  filled-each P zero n f z h j = z
  filled-each P (suc width) zero f z h j = subst P (sym (blank-at (suc width) j)) z
  filled-each P (suc width) (suc n) f z h zero = h 0
  filled-each P (suc width) (suc n) f z h (suc j) = filled-each P width n (λ k. f (suc k)) z (λ k. h (suc k)) j

  pub filled-blank : (width n : ℕ) → filled blank width n (λ _. blank) ≡ replicate width blank
  unfolding filled
  filled-blank zero n = refl
  filled-blank (suc width) zero = refl
  filled-blank (suc width) (suc n) = ap (λ (t : List A). blank ∷ t) (filled-blank width n)

  -- the places in use, then the others
  pub filled-pad : (width n : ℕ) (f : ℕ → A) → n ≤ width → filled blank n n f ++ replicate (width - n) blank ≡ filled blank width n f
  unfolding filled
  filled-pad zero zero f l = refl
  filled-pad zero (suc n) f l = absurd (omega arith)
  filled-pad (suc width) zero f l = rw sub-zero
  filled-pad (suc width) (suc n) f l = rw suc-sub-suc (ap (λ (t : List A). f 0 ∷ t) (filled-pad width n (λ k. f (suc k)) (omega arith)))

  pub take-filled : (width n : ℕ) (f : ℕ → A) → n ≤ width → take n (filled blank width n f) ≡ filled blank n n f
  unfolding filled
  take-filled width zero f l = refl
  take-filled zero (suc n) f l = absurd (omega arith)
  take-filled (suc width) (suc n) f l = ap (λ (t : List A). f 0 ∷ t) (take-filled width n (λ k. f (suc k)) (omega arith))

  -- an array of blanks, lent in part
  pub take-blanks : (n width : ℕ) → n ≤ width → take n (replicate width blank) ≡ replicate n blank
  take-blanks zero width l = refl
  take-blanks (suc n) zero l = absurd (omega arith)
  take-blanks (suc n) (suc width) l = ap (λ (t : List A). blank ∷ t) (take-blanks n width (omega arith))

  pub drop-blanks : (n width : ℕ) → drop n (replicate width blank) ≡ replicate (width - n) blank
  drop-blanks zero width = rw sub-zero
  drop-blanks (suc n) zero = rw zero-sub
  drop-blanks (suc n) (suc width) = rw suc-sub-suc (drop-blanks n width)

  -- four places, one by one
  pub four-places : (xs : List A) → length xs ≡ 4 → xs ≡ get_or xs 0 blank ∷ get_or xs 1 blank ∷ get_or xs 2 blank ∷ get_or xs 3 blank ∷ []
  four-places [] h = absurd (omega arith)
  four-places (a ∷ []) h = absurd (omega arith)
  four-places (a ∷ b ∷ []) h = absurd (omega arith)
  four-places (a ∷ b ∷ c ∷ []) h = absurd (omega arith)
  four-places (a ∷ b ∷ c ∷ d ∷ []) h = refl
  four-places (a ∷ b ∷ c ∷ d ∷ e ∷ xs) h = absurd (omega arith)
