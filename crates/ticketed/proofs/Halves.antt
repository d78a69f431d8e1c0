-- Laws of numbers of 64 bits, and of bytes put over all of an area. Assumes nothing.
use mathlib.Core.Path.{◌≡◌, ap, ◌∙◌}
use mathlib.Core.List.{List, [], ◌∷◌, ◌++◌, append-nil}
use Prim.Native.Nat.{ℕ, ◌+◌, ◌*◌, ◌/◌, ◌≤◌}
use Rattle.std.specs.Int.{w64, to_le_bytes}
use native.Mathlib.Omega.{arith}
use lib.ListN.{length, take, drop}
use lib.Seq.{take-add, drop-drop}
use Rattle.lists.proofs.Parts.{drop-beyond}
use Rattle.octets.specs.Words.{little_endian, spelled, number_at}
use Rattle.octets.specs.Areas.{put}
use Rattle.octets.proofs.Numbers.{length_part}
use Rattle.octets.proofs.Areas.{put_front}

-- ---- a number of eight bytes

four-more : (xs ys : List ℕ) → length xs ≡ 4 → spelled (xs ++ ys) ≡ spelled xs + 4294967296 * spelled ys
unfolding spelled
four-more [] ys e = absurd (omega arith)
four-more (a ∷ []) ys e = absurd (omega arith)
four-more (a ∷ b ∷ []) ys e = absurd (omega arith)
four-more (a ∷ b ∷ c ∷ []) ys e = absurd (omega arith)
four-more (a ∷ b ∷ c ∷ d ∷ []) ys e = omega arith
four-more (a ∷ b ∷ c ∷ d ∷ x ∷ xs) ys e = absurd (omega arith)

-- it is spelled by its two halves
pub number-of-halves : (l : List ℕ) (i : ℕ) → i + 8 ≤ length l → number_at 8 l i ≡ number_at 4 l i + 4294967296 * number_at 4 l (i + 4)
unfolding number_at
number-of-halves l i h =
    ap spelled (take-add 4 4 (drop i l))
    ∙ four-more (take 4 (drop i l)) (take 4 (drop 4 (drop i l))) (length_part l i 4 (omega arith))
    ∙ ap (λ (t : List ℕ). spelled (take 4 (drop i l)) + 4294967296 * spelled (take 4 t)) (drop-drop 4 i l)

-- its bytes, as the library writes them
pub eight-bytes : (x : ℕ) → to_le_bytes w64 x ≡ little_endian 8 x
unfolding little_endian
eight-bytes x =
    let second : x / 65536 ≡ x / 256 / 256 = omega arith in
    let third : x / 16777216 ≡ x / 256 / 256 / 256 = omega arith in
    let fourth : x / 4294967296 ≡ x / 256 / 256 / 256 / 256 = omega arith in
    let fifth : x / 1099511627776 ≡ x / 256 / 256 / 256 / 256 / 256 = omega arith in
    let sixth : x / 281474976710656 ≡ x / 256 / 256 / 256 / 256 / 256 / 256 = omega arith in
    let seventh : x / 72057594037927936 ≡ x / 256 / 256 / 256 / 256 / 256 / 256 / 256 = omega arith in
    rw (second, third, fourth, fifth, sixth, seventh)

-- ---- bytes put

-- as many bytes as an area has, put to its start, are all of it
pub put_all : (l written : List ℕ) → length l ≤ length written → put l 0 written ≡ written
put_all l written h =
    put_front l written ∙ ap (λ (t : List ℕ). written ++ t) (drop-beyond l (length written) h) ∙ append-nil written
