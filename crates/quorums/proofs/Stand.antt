-- Quorum numbers that 18 does not refuse: what they are, and that two majorities are such. Assumes nothing.
use mathlib.Core.Path.{◌≡◌}
use mathlib.Core.Bool.{false, not, ◌||◌}
use Prim.Native.Nat.{ℕ, ◌+◌, ◌≤◌, ◌<◌}
use native.Mathlib.Omega.{arith}
use lib.Dec.{T, leb, ltb, nltb→le, nleb→lt}
use borrow.Author.Tests.{le-ltb, lt-leb}
use Rattle.lists.proofs.Booleans.{nor-left, nor-right}
use Rattle.scram.specs.Quorum.{majority}
use Rattle.scram.proofs.Boxes.{two-majorities}
use Rattle.quorums.specs.declared.Quorums.{Quorums}
use Rattle.quorums.specs.Quorums.{outside, bad_quorums, majorities}

-- "each 2 to N", and "a + b .. above N": any a boxes and any b boxes share one (`meet` of scram's Boxes)
pub record Stand (N : ℕ) (q : Quorums) : Type 0 where
  pub a2 : 2 ≤ q.to_decide
  pub a_n : q.to_decide ≤ N
  pub b2 : 2 ≤ q.to_propose
  pub b_n : q.to_propose ≤ N
  pub overlap : N < q.to_decide + q.to_propose

pub stand : (N : ℕ) (q : Quorums) → bad_quorums N q ≡ false → Stand N q
unfolding bad_quorums
stand N q e =
    let a = q.to_decide in
    let b = q.to_propose in
    let t : T (not (bad_quorums N q)) = rw e tt in
    let u = nor-left (outside N a || outside N b) (leb (a + b) N) t in
    let v = nor-left (outside N a) (outside N b) u in
    let w = nor-right (outside N a) (outside N b) u in record {
      a2 = nltb→le a 2 (nor-left (ltb a 2) (ltb N a) v);
      a_n = nltb→le N a (nor-right (ltb a 2) (ltb N a) v);
      b2 = nltb→le b 2 (nor-left (ltb b 2) (ltb N b) w);
      b_n = nltb→le N b (nor-right (ltb b 2) (ltb N b) w);
      overlap = nleb→lt (a + b) N (nor-right (outside N a || outside N b) (leb (a + b) N) t);
    }

-- and back
pub stood : (N : ℕ) (q : Quorums) → Stand N q → bad_quorums N q ≡ false
unfolding bad_quorums
stood N q s =
    simp (le-ltb _ _ s.a2, le-ltb _ _ s.a_n, le-ltb _ _ s.b2, le-ltb _ _ s.b_n, lt-leb _ _ s.overlap)

-- the majorities of a group stand: a first line of `rig` without quorums is not refused by 18
pub majorities-stand : (N : ℕ) → 3 ≤ N → bad_quorums N (majorities N) ≡ false
unfolding majorities majority
majorities-stand N l =
    stood N (majorities N) (record { a2 = omega arith; a_n = omega arith; b2 = omega arith; b_n = omega arith; overlap = two-majorities N })
