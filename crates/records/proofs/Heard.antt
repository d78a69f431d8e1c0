-- Laws of the boxes heard as bytes: one more of them, and both ways of the round trip. Assumes nothing.
use mathlib.Core.Path.{◌≡◌, refl, sym, ap, ◌∙◌}
use mathlib.Core.Bool.{Bool, true, false}
use mathlib.Core.List.{List, [], ◌∷◌, ◌++◌, map, map-append}
use Prim.Native.Nat.{ℕ, suc, ◌+◌, ◌≤◌, ◌<◌}
use native.Mathlib.Omega.{arith}
use lib.ListN.{length, take, drop, get_or, set, length-map, get_or-map}
use lib.Seq.{take-suc, length-take-le, get_or-take, get_or-drop, ext_get_or}
use lib.Dec.{eqb}
use borrow.Author.Tests.{eqb-true, eqb-false}
use Rattle.std.specs.Int.{from_bool}
use Rattle.lists.specs.Choice.{pick}
use Rattle.lists.specs.Places.{filled}
use Rattle.lists.proofs.Places.{filled-same, filled-length, filled_at}
use Rattle.octets.specs.Words.{part}
use Rattle.octets.specs.Areas.{put}
use Rattle.octets.proofs.Numbers.{length_part}
use Rattle.octets.proofs.Areas.{put_one, then-put}
use Rattle.estimate.specs.Marks.{bit}
use Rattle.records.specs.HeldPart.{heard_bytes, mark_at}

-- a mark as a number
pub bit-from : (mark : Bool) → from_bool mark ≡ bit mark
unfolding pick
bit-from true = refl
bit-from false = refl

-- a byte for each place
pub length-heard : (heard : List Bool) → length heard ≡ 10 → length (heard_bytes heard) ≡ 10
length-heard heard ten = length-map heard bit ∙ ten

length_some : (heard : List Bool) (j : ℕ) → j ≤ length heard → length (heard_bytes (take j heard)) ≡ j
length_some heard j h = length-map (take j heard) bit ∙ length-take-le j heard h

-- a turn of the loop that writes
pub heard-more : (l l₁ : List ℕ) (heard : List Bool) (at j x : ℕ) → l₁ ≡ put l at (heard_bytes (take j heard)) → length l₁ ≡ length l
    → x ≡ bit (get_or heard j false) → j < length heard → at + length heard ≤ length l
    → set l₁ (at + j) x ≡ put l at (heard_bytes (take (j + 1) heard))
heard-more l l₁ heard at j x e same ex h room =
    let s : j + 1 ≡ suc j = omega arith in
    let more : heard_bytes (take (suc j) heard) ≡ heard_bytes (take j heard) ++ (x ∷ []) =
    ap heard_bytes (take-suc heard j false h) ∙ map-append bit (take j heard) (get_or heard j false ∷ []) ∙ rw ex in
    rw (s, more)
    (then-put l l₁ _ at (at + j) (heard_bytes (take j heard)) (x ∷ []) e (put_one l₁ (at + j) x (omega arith))
    (omega (arith, length_some heard j (omega arith))) (omega arith))

-- ---- marks that were written are read again

-- one of them
pub mark-forth : (mark : Bool) → eqb (bit mark) 1 ≡ mark
unfolding pick
mark-forth true = refl
mark-forth false = refl

-- the byte of a place; 0 after the end
pub bit_at : (marks : List Bool) (j : ℕ) → get_or (map bit marks) j 0 ≡ bit (get_or marks j false)
unfolding pick
bit_at marks j = get_or-map bit marks j false

filled-whole : (marks : List Bool) → filled false (length marks) (length marks) (λ j. get_or marks j false) ≡ marks
unfolding filled
filled-whole [] = refl
filled-whole (m ∷ marks) = ap (λ (t : List Bool). m ∷ t) (filled-whole marks)

-- in bytes that have them at an offset
pub marks-read : (b : List ℕ) (at k : ℕ) (marks : List Bool) → length marks ≡ k → ((j : ℕ) → j < k → get_or b (at + j) 0 ≡ bit (get_or marks j false))
    → filled false k k (λ j. mark_at b (at + j)) ≡ marks
marks-read b at k marks long there =
    filled-same false k k (λ j. mark_at b (at + j)) (λ j. get_or marks j false) (λ j l w. ap (λ (x : ℕ). eqb x 1) (there j l) ∙ mark-forth (get_or marks j false))
    ∙ ap (λ (n : ℕ). filled false n n (λ j. get_or marks j false)) (sym long)
    ∙ filled-whole marks

-- ---- marks that were read are written again

bit-by : (x : ℕ) (t : Bool) → eqb x 1 ≡ t → x ≤ 1 → bit t ≡ x
unfolding pick
bit-by x true e h = sym (eqb-true x 1 e)
bit-by x false e h = let n = eqb-false x 1 e in omega arith

-- one of them
pub bit-back : (x : ℕ) → x ≤ 1 → bit (eqb x 1) ≡ x
bit-back x h = bit-by x (eqb x 1) refl h

-- those at an offset
pub marks-written : (b : List ℕ) (at k : ℕ) → at + k ≤ length b → ((j : ℕ) → j < k → get_or b (at + j) 0 ≤ 1)
    → map bit (filled false k k (λ j. mark_at b (at + j))) ≡ part b at k
marks-written b at k room small =
    let f : ℕ → Bool = λ j. mark_at b (at + j) in
    let long : length (map bit (filled false k k f)) ≡ k = length-map (filled false k k f) bit ∙ filled-length false k k f in
    ext_get_or 0 _ _ (long ∙ sym (length_part b at k room))
    (λ j l. let h : j < k = omega arith in
    bit_at (filled false k k f) j
    ∙ ap bit (filled_at false k k j f h h)
    ∙ bit-back (get_or b (at + j) 0) (small j h)
    ∙ sym (get_or-take k (drop at b) j 0 h ∙ get_or-drop at b j 0))
