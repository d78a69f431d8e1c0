-- Laws of an area that bytes were put into: bytes copied are bytes put, and bytes put one after the other are bytes put at once.
-- Assumes nothing.
use mathlib.Core.Path.{◌≡◌, sym, ap, ◌∙◌}
use mathlib.Core.List.{List, [], ◌∷◌, ◌++◌, append_assoc}
use Prim.Native.Nat.{ℕ, ◌+◌, ◌-◌, ◌≤◌}
use native.Mathlib.Omega.{arith}
use native.Mathlib.Nat.{add-zero, zero-add}
use lib.ListN.{length, take, drop, set, length-append, take-append-drop}
use lib.Seq.{drop-drop, length-take-le, take_at, take-append_seam, drop-append-add, sets-eq, paste}
use borrow.Rule.Slice.PartMut.{put_mid}
use Rattle.octets.specs.Words.{part}
use Rattle.octets.specs.Areas.{put, over}

-- a store is a byte put
pub put_one : (l : List ℕ) (i a : ℕ) → i + 1 ≤ length l → set l i a ≡ put l i (a ∷ [])
unfolding put
put_one l i a h = sets-eq (a ∷ []) l i h ∙ append_assoc (take i l) _ _

-- bytes copied over k places are bytes put
pub put_over : (l : List ℕ) (i k : ℕ) (ys zs : List ℕ) → ys ≡ zs → k ≡ length zs → put_mid i k l ys ≡ put l i zs
unfolding put
put_over l i k ys zs e f = rw (e, f, drop-drop (length zs) i l)

pub put-nothing : (l : List ℕ) (i : ℕ) → l ≡ put l i []
unfolding put
put-nothing l i = rw add-zero (sym (take-append-drop i l))

-- bytes put right after bytes that were put
pub put-put : (l : List ℕ) (i j : ℕ) (xs ys : List ℕ) → i + length xs ≡ j → j + length ys ≤ length l
    → put (put l i xs) j ys ≡ put l i (xs ++ ys)
unfolding put
put-put l i j xs ys ej h =
    let p : List ℕ = take i l ++ xs in
    let q : List ℕ = drop (i + length xs) l in
    let ei : length (take i l) ≡ i = length-take-le i l (omega arith) in
    let ep : length p ≡ j = simp (length-append, ei) ej in
    let whole : take i l ++ (xs ++ q) ≡ p ++ q = sym (append_assoc (take i l) xs q) in
    let ends : i + length xs + length ys ≡ i + length (xs ++ ys) = omega (arith, length-append xs ys) in
    let tail : drop (j + length ys) (p ++ q) ≡ drop (i + length (xs ++ ys)) l =
    ap (λ (n : ℕ). drop (n + length ys) (p ++ q)) (sym ep)
    ∙ drop-append-add p q (length ys)
    ∙ drop-drop (length ys) (i + length xs) l
    ∙ ap (λ (n : ℕ). drop n l) ends in
    rw whole
    (rw (take_at p q j ep, tail)
    (append_assoc (take i l) xs _ ∙ ap (λ (t : List ℕ). take i l ++ t) (sym (append_assoc xs ys _))))

-- the same, of the area after each of two calls
pub then-put : (l l₁ l₂ : List ℕ) (i j : ℕ) (xs ys : List ℕ) → l₁ ≡ put l i xs → l₂ ≡ put l₁ j ys → i + length xs ≡ j → j + length ys ≤ length l
    → l₂ ≡ put l i (xs ++ ys)
then-put l l₁ l₂ i j xs ys e₁ e₂ ej h =
    e₂ ∙ ap (λ (t : List ℕ). put t j ys) e₁ ∙ put-put l i j xs ys ej h

pub put_front : (l bs : List ℕ) → put l 0 bs ≡ over bs l
unfolding put
put_front l bs = rw zero-add

-- the first bytes of a list, pasted, are bytes that were put
pub pasted : (area : List ℕ) (i : ℕ) (bytes : List ℕ) (size : ℕ) → size ≤ length bytes → paste area i bytes size ≡ put area i (take size bytes)
unfolding put
pasted area i bytes size h = rw (length-take-le size bytes h) (append_assoc (take i area) (take size bytes) (drop (i + size) area))

-- ---- bytes put to the start of an area

-- they are no more than the area has room for, and stand in its first bytes
pub over-length : (written area area' : List ℕ) → area' ≡ over written area → length area' ≡ length area → length written ≤ length area
over-length written area area' e l = omega (arith, length-append written (drop (length written) area), ap length e)

pub over_first : (written area : List ℕ) → take (length written) (over written area) ≡ written
over_first written area = take-append_seam written (drop (length written) area)

-- ---- a part of a slice

-- `&l[x..x + y]`
pub part_of : (l : List ℕ) (x y i k : ℕ) → x ≡ i → y ≡ k → take (x + y - x) (drop x l) ≡ part l i k
part_of l x y i k ex ey = let e : x + y - x ≡ k = omega arith in rw (e, ex)
