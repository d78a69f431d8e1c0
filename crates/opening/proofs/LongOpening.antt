-- A first line of `rig` that opens a group is short: `short-opening`. So one that is cut, to more bytes than that, opens none before it is cut
-- and none after. Assumes nothing.
use mathlib.Core.Path.{◌≡◌, refl}
use mathlib.Core.Bool.{Bool, true, false}
use mathlib.Core.List.{List}
use Prim.Native.Nat.{ℕ, zero, suc, ◌+◌, ◌*◌, ◌≤◌, ◌<◌}
use native.Mathlib.Omega.{arith}
use lib.Dec.{eqb, leb, ltb}
use lib.Pointwise.{pointwise_long}
use Rattle.std.specs.Prelude.{codes}
use lib.ListN.{length}
use borrow.Author.Tests.{eqb-true, eqb-false, ltb-true, ltb-false}
use Rattle.lists.specs.Choice.{pick}
use Rattle.lists.specs.Below.{all_below}
use Rattle.lists.proofs.Booleans.{both, never}
use Rattle.lists.proofs.Below.{all-at}
use Rattle.std.specs.Prelude.{ℤ, Option, Some, None}
use Rattle.text.specs.Numbers.{number_of, is_whole}
use Rattle.line.specs.Fields.{field}
use Rattle.line.proofs.LongLines.{narrow, number-length}
use Rattle.opening.specs.Opening.{size_in, sizes_in, is_rig, begun, all_numbers, is_quorums, ended, numbered}
use Rattle.opening.proofs.EndingLaws.{WithQuorums, with-quorums, without-quorums}

size-length : (word : List ℕ) (n : Option ℤ) → number_of word ≡ n → leb (size_in n) 255 ≡ true → length word ≤ 11
unfolding size_in pick
size-length word (Some z) e h = number-length word (Some z) e refl
size-length word None e h = never h

rig-length : (word : List ℕ) → is_rig word ≡ true → length word ≤ 11
unfolding is_rig
rig-length word e = omega (arith, pointwise_long eqb word (codes "rig") e)

quorums-length : (word : List ℕ) → is_quorums word ≡ true → length word ≤ 11
unfolding is_quorums
quorums-length word e = omega (arith, pointwise_long eqb word (codes "quorums") e)

-- a field behind the numbers
behind : (line : List ℕ) (count : ℕ) → is_quorums (field (count + 5) line) ≡ true → WithQuorums count line → (j : ℕ) → count + 4 ≤ j → j < count + 7
    → length (field (suc j) line) ≤ 11
behind line count q n j l h = by (eqb j (count + 4)) refl (eqb j (count + 5)) refl
  where
    by : (t : Bool) → eqb j (count + 4) ≡ t → (u : Bool) → eqb j (count + 5) ≡ u → length (field (suc j) line) ≤ 11
    by true e u v = let z : suc j ≡ count + 5 = omega (arith, eqb-true j (count + 4) e) in rw z (quorums-length (field (count + 5) line) q)
    by false e true v =
        let z : suc j ≡ count + 6 = omega (arith, eqb-true j (count + 5) v) in rw z (size-length (field (count + 6) line) _ refl n.decide)
    by false e false v =
        let z : suc j ≡ count + 7 = omega (arith, eqb-false j (count + 4) e, eqb-false j (count + 5) v, l, h) in
        rw z (size-length (field (count + 7) line) _ refl n.propose)

-- fields of at most 11 bytes up to the numbers
short-line : (line : List ℕ) (count : ℕ) → ended count line ≡ true → length (field 0 line) ≤ 11
    → ((j : ℕ) → j < count + 4 → length (field (suc j) line) ≤ 11) → length line ≤ 12 * count + 95
short-line line count e first others = by (is_quorums (field (count + 5) line)) refl
  where
    at : is_quorums (field (count + 5) line) ≡ true → WithQuorums count line → (j : ℕ) → j < count + 7 → (t : Bool) → ltb j (count + 4) ≡ t
        → length (field (suc j) line) ≤ 11
    at q n j l true z = others j (ltb-true _ _ z)
    at q n j l false z = behind line count q n j (ltb-false _ _ z) l

    by : (q : Bool) → is_quorums (field (count + 5) line) ≡ q → length line ≤ 12 * count + 95
    by true q =
        let n = with-quorums count line q e in
        omega (arith, n.fields, narrow line 0 (omega (arith, first)) (λ j l. at q n j (omega (arith, l, n.fields)) (ltb j (count + 4)) refl))
    by false q =
        let s = without-quorums count line q e in
        omega (arith, s, narrow line 0 (omega (arith, first)) (λ j l. others j (omega (arith, l, s))))

-- a first line with more bytes opens no group: with the most numbers, 122, it has at most 1559 bytes
pub short-opening : (line : List ℕ) (count : ℕ) → begun (field 0 line) (sizes_in line) ≡ true → numbered count line ≡ true → length line ≤ 12 * count + 95
unfolding begun sizes_in numbered all_numbers
short-opening line count e f =
    let p = both (is_rig (field 0 line)) _ e in
    let b = both (leb (size_in (number_of (field 1 line))) 255) _ p.1 in
    let n = both (leb (size_in (number_of (field 2 line))) 255) _ b.1 in
    let m = both (leb (size_in (number_of (field 3 line))) 255) (leb (size_in (number_of (field 4 line))) 255) n.1 in
    let q = both (ended count line) _ f in
    short-line line count q.0 (rig-length (field 0 line) p.0) (λ j l. at j l b.0 n.0 m.0 m.1 q.1)
  where
    at : (j : ℕ) → j < count + 4 → leb (size_in (number_of (field 1 line))) 255 ≡ true → leb (size_in (number_of (field 2 line))) 255 ≡ true
        → leb (size_in (number_of (field 3 line))) 255 ≡ true → leb (size_in (number_of (field 4 line))) 255 ≡ true
        → all_below count (λ i. is_whole (number_of (field (i + 5) line))) ≡ true → length (field (suc j) line) ≤ 11
    at zero l b n m p all = size-length (field 1 line) _ refl b
    at (suc zero) l b n m p all = size-length (field 2 line) _ refl n
    at (suc (suc zero)) l b n m p all = size-length (field 3 line) _ refl m
    at (suc (suc (suc zero))) l b n m p all = size-length (field 4 line) _ refl p
    at (suc (suc (suc (suc i)))) l b n m p all =
        let z : i + 5 ≡ suc (suc (suc (suc (suc i)))) = omega arith in
        rw z at (number-length (field (i + 5) line) _ refl (all-at (λ i. is_whole (number_of (field (i + 5) line))) count i all (omega arith)))
