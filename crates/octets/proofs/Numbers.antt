-- Laws of numbers as bytes: bytes spell a number and a number its bytes, at every width. Assumes nothing.
use mathlib.Core.Path.{◌≡◌, refl, sym, ap, ◌∙◌}
use mathlib.Core.List.{List, [], ◌∷◌}
use Prim.Native.Nat.{ℕ, zero, suc, ◌+◌, ◌*◌, ◌/◌, ◌%◌, ◌^◌, ◌≤◌, ◌<◌}
use native.Mathlib.Omega.{arith}
use native.Mathlib.Nat.{pow-suc, div-lt_iff_lt-mul, add-zero}
use lib.ListN.{length, take, drop, get_or, length-drop}
use lib.Seq.{get_or-drop, length-take-le}
use Rattle.std.specs.Int.{w32, w64, to_le_bytes}
use Rattle.octets.specs.Words.{AllBytes, little_endian, spelled, part, number_at}

-- ---- lists of bytes

pub bytes-tail : (b : ℕ) (l : List ℕ) → AllBytes (b ∷ l) → AllBytes l
unfolding AllBytes
bytes-tail b l h = λ i. h (suc i)

pub bytes_drop : (k : ℕ) (l : List ℕ) → AllBytes l → AllBytes (drop k l)
unfolding AllBytes
bytes_drop k l h = λ i. rw get_or-drop (h (k + i))

take-byte : (k : ℕ) (l : List ℕ) → AllBytes l → (i : ℕ) → get_or (take k l) i 0 < 256
unfolding AllBytes
take-byte zero l h i = omega arith
take-byte (suc k) [] h i = h i
take-byte (suc k) (x ∷ l) h zero = h 0
take-byte (suc k) (x ∷ l) h (suc i) = take-byte k l (bytes-tail x l h) i

pub bytes-part : (i k : ℕ) (l : List ℕ) → AllBytes l → AllBytes (part l i k)
unfolding AllBytes
bytes-part i k l h = take-byte k (drop i l) (bytes_drop i l h)

pub length_part : (l : List ℕ) (i k : ℕ) → i + k ≤ length l → length (part l i k) ≡ k
length_part l i k h = length-take-le k (drop i l) (simp length-drop (omega arith))

-- ---- a number and its bytes

pub length-little_endian : (k x : ℕ) → length (little_endian k x) ≡ k
unfolding little_endian
length-little_endian zero x = refl
length-little_endian (suc k) x = ap suc (length-little_endian k (x / 256))

pub spelled-little_endian : (k x : ℕ) → x < 256 ^ k → spelled (little_endian k x) ≡ x
unfolding little_endian spelled
spelled-little_endian zero x h = omega arith
spelled-little_endian (suc k) x h =
    let below : x < 256 ^ k * 256 = rw pow-suc at h in
    let e : spelled (little_endian k (x / 256)) ≡ x / 256 = spelled-little_endian k (x / 256) ((div-lt_iff_lt-mul {k = 256} (omega arith)).1 below) in
    omega arith

little_endian-spelled : (l : List ℕ) → AllBytes l → little_endian (length l) (spelled l) ≡ l
unfolding little_endian spelled AllBytes
little_endian-spelled [] h = refl
little_endian-spelled (b ∷ l) h =
    let low : b < 256 = h 0 in
    let u : ℕ = spelled l in
    let m : (b + 256 * u) % 256 ≡ b = omega arith in
    let d : (b + 256 * u) / 256 ≡ u = omega arith in
    rw (m, d) (ap (λ (t : List ℕ). b ∷ t) (little_endian-spelled l (bytes-tail b l h)))

spelled-lt : (l : List ℕ) → AllBytes l → spelled l < 256 ^ length l
unfolding spelled AllBytes
spelled-lt [] h = omega arith
spelled-lt (b ∷ l) h =
    let low : b < 256 = h 0 in
    let e : 256 ^ suc (length l) ≡ 256 ^ length l * 256 = pow-suc 256 (length l) in
    omega (arith, spelled-lt l (bytes-tail b l h))

-- a number's bytes are those that it was read from
pub number-back : (l : List ℕ) (i k : ℕ) → AllBytes l → i + k ≤ length l → little_endian k (number_at k l i) ≡ part l i k
unfolding number_at
number-back l i k h room =
    ap (λ (n : ℕ). little_endian n (spelled (part l i k))) (sym (length_part l i k room))
    ∙ little_endian-spelled (part l i k) (bytes-part i k l h)

pub number_lt : (l : List ℕ) (i k : ℕ) → AllBytes l → i + k ≤ length l → number_at k l i < 256 ^ k
unfolding number_at
number_lt l i k h room = rw (length_part l i k room) at (spelled-lt (part l i k) (bytes-part i k l h))

-- ---- the bytes of a list's first places, as the code reads them

pub first-four : (l : List ℕ) → 4 ≤ length l → take 4 l ≡ get_or l 0 0 ∷ get_or l 1 0 ∷ get_or l 2 0 ∷ get_or l 3 0 ∷ []
first-four [] h = absurd (omega arith)
first-four (a ∷ []) h = absurd (omega arith)
first-four (a ∷ b ∷ []) h = absurd (omega arith)
first-four (a ∷ b ∷ c ∷ []) h = absurd (omega arith)
first-four (a ∷ b ∷ c ∷ d ∷ l) h = refl

first_two : (l : List ℕ) → 2 ≤ length l → take 2 l ≡ get_or l 0 0 ∷ get_or l 1 0 ∷ []
first_two [] h = absurd (omega arith)
first_two (a ∷ []) h = absurd (omega arith)
first_two (a ∷ b ∷ l) h = refl

pub number-of-four : (l : List ℕ) (i : ℕ) → i + 4 ≤ length l
    → number_at 4 l i ≡ get_or l i 0 + 256 * (get_or l (i + 1) 0 + 256 * (get_or l (i + 2) 0 + 256 * get_or l (i + 3) 0))
unfolding number_at spelled
number-of-four l i h = rw (first-four (drop i l) (simp length-drop (omega arith))) (simp (get_or-drop, add-zero) (omega arith))

pub number-of-two : (l : List ℕ) (i : ℕ) → i + 2 ≤ length l → number_at 2 l i ≡ get_or l i 0 + 256 * get_or l (i + 1) 0
unfolding number_at spelled
number-of-two l i h = rw (first_two (drop i l) (simp length-drop (omega arith))) (simp (get_or-drop, add-zero) (omega arith))

-- ---- the bytes of a number, as the library writes them

pub four-bytes : (x : ℕ) → to_le_bytes w32 x ≡ little_endian 4 x
unfolding little_endian
four-bytes x =
    let second : x / 65536 ≡ x / 256 / 256 = omega arith in
    let third : x / 16777216 ≡ x / 256 / 256 / 256 = omega arith in
    rw (second, third)

pub two_bytes : (x : ℕ) → take 2 (to_le_bytes w64 x) ≡ little_endian 2 x
unfolding little_endian
two_bytes x = refl
