-- Laws of lists of i32 values as bytes: their length, one value more, and both ways of the round trip. Assumes nothing.
use mathlib.Core.Path.{◌≡◌, refl, sym, ap, ◌∙◌}
use mathlib.Core.List.{List, [], ◌∷◌, ◌++◌, append_assoc, append-nil}
use Prim.Native.Nat.{ℕ, zero, suc, ◌+◌, ◌*◌, ◌≤◌, ◌<◌}
use native.Mathlib.Omega.{arith}
use lib.ListN.{length, take, drop, length-append, length-drop, take-append-drop}
use lib.Seq.{drop-drop, take-suc, length-take-le}
use lib.IntN.{ℤ, pos}
use mir.Syntax.{w32}
use mir.Val.{SFits}
use Rattle.lists.specs.Places.{entry, filled}
use Rattle.lists.proofs.Places.{filled-same}
use Rattle.octets.specs.Words.{AllBytes, little_endian, number_at, twos_complement, from_twos_complement, values_bytes, value_at}
use Rattle.octets.specs.Areas.{put}
use Rattle.octets.proofs.Numbers.{length-little_endian, spelled-little_endian, bytes_drop, number-back, number_lt}
use Rattle.octets.proofs.TwosComplement.{bits-lt, bits_back, value-back}
use Rattle.octets.proofs.Areas.{put-put}

-- ---- their bytes

pub length-values_bytes : (vs : List ℤ) → length (values_bytes vs) ≡ 4 * length vs
unfolding values_bytes
length-values_bytes [] = refl
length-values_bytes (z ∷ vs) =
    length-append (little_endian 4 (twos_complement z)) _ ∙ omega (arith, length-little_endian 4 (twos_complement z), length-values_bytes vs)

pub length-first : (k : ℕ) (vs : List ℤ) → k ≤ length vs → length (values_bytes (take k vs)) ≡ 4 * k
length-first k vs h = length-values_bytes (take k vs) ∙ ap (λ (x : ℕ). 4 * x) (length-take-le k vs h)

values-append : (a b : List ℤ) → values_bytes (a ++ b) ≡ values_bytes a ++ values_bytes b
unfolding values_bytes
values-append [] b = refl
values-append (z ∷ a) b = rw (values-append a b) (sym (append_assoc (little_endian 4 (twos_complement z)) _ _))

one_value : (z : ℤ) → values_bytes (z ∷ []) ≡ little_endian 4 (twos_complement z)
unfolding values_bytes
one_value z = append-nil (little_endian 4 (twos_complement z))

-- a turn of the loop that writes
pub write-more : (l : List ℕ) (vs : List ℤ) (at i x : ℕ) → i < length vs → at + 4 * length vs ≤ length l → x ≡ twos_complement (entry vs i)
    → put (put l at (values_bytes (take i vs))) (at + 4 * i) (little_endian 4 x) ≡ put l at (values_bytes (take (i + 1) vs))
write-more l vs at i x h room e =
    let s : i + 1 ≡ suc i = omega arith in
    let n : length (take i vs) ≡ i = length-take-le i vs (omega arith) in
    let more : values_bytes (take (suc i) vs) ≡ values_bytes (take i vs) ++ little_endian 4 x =
    rw (take-suc vs i (pos 0) h, values-append, one_value, e) in
    rw (s, more)
    (put-put l at (at + 4 * i) (values_bytes (take i vs)) (little_endian 4 x) (omega (arith, length-values_bytes (take i vs)))
    (omega (arith, length-little_endian 4 x)))

-- ---- values that were written are read again

value-drop : (p : List ℕ) (i : ℕ) → value_at p (suc i) ≡ value_at (drop 4 p) i
unfolding value_at number_at
value-drop p i = let e : 4 * suc i ≡ 4 + 4 * i = omega arith in rw (e, drop-drop (4 * i) 4 p)

pub value-forth : (vs : List ℤ) (i : ℕ) → i < length vs → SFits w32 (entry vs i) → value_at (values_bytes vs) i ≡ entry vs i
unfolding value_at values_bytes number_at little_endian
value-forth [] i h s = absurd (omega arith)
value-forth (z ∷ vs) zero h s = ap from_twos_complement (spelled-little_endian 4 (twos_complement z) (bits-lt z s)) ∙ value-back z s
value-forth (z ∷ vs) (suc i) h s = value-drop (values_bytes (z ∷ vs)) i ∙ value-forth vs i (omega arith) s

-- ---- values that were read are written again

first_back : (p : List ℕ) → AllBytes p → 4 ≤ length p → little_endian 4 (twos_complement (value_at p 0)) ≡ take 4 p
unfolding value_at
first_back p h room = rw (bits_back (number_at 4 p 0) (number_lt p 0 4 h room)) (number-back p 0 4 h room)

pub values-back : (k : ℕ) (p : List ℕ) → AllBytes p → length p ≡ 4 * k → values_bytes (filled (pos 0) k k (value_at p)) ≡ p
unfolding values_bytes filled
values-back zero [] h e = refl
values-back zero (x ∷ p) h e = absurd (omega arith)
values-back (suc k) p h e =
    let rest : length (drop 4 p) ≡ 4 * k = simp length-drop (omega arith) in
    rw (
      first_back p h (omega arith),
      filled-same (pos 0) k k (λ i. value_at p (suc i)) (value_at (drop 4 p)) (λ i l w. value-drop p i),
      values-back k (drop 4 p) (bytes_drop 4 p h) rest,
    )
    (take-append-drop 4 p)
