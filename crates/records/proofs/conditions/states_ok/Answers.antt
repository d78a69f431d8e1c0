-- `records::conditions::states_ok` meets its contract. The loop's invariant: i is at least n, and the test holds of each place below i. Assumes nothing.
use Rattle.std.proofs.Common.{rules, SFits, w32}
use mathlib.Core.Path.{◌≡◌, sym, ◌∙◌}
use mathlib.Core.Bool.{true, false}
use mathlib.Core.List.{List}
use Prim.Native.Nat.{ℕ, ◌≤◌, ◌<◌}
use native.Mathlib.Omega.{arith}
use lib.Dec.{ltb}
use lib.IntN.{ℤ}
use borrow.Author.Tests.{lt-ltb, le-ltb, eq-eqb, ne_eqb}
use Rattle.lists.specs.Places.{entry}
use Rattle.lists.proofs.Below.{all_of, all-at, all_more, one-fails}
use Rattle.lists.proofs.Booleans.{or-true}
use Rattle.estimate.specs.Marks.{is_zero}
use Rattle.estimate.proofs.PresentMarks.{bits-zero}
use Rattle.records.specs.Reading.{states_ok}
use Rattle.records.proofs.conditions.states_ok.Invariants.{test}
use Rattle.records.proofs.conditions.states_ok.Goals as goal

-- a place in use passes
in_use : (n : ℕ) (state : List ℤ) (i : ℕ) → i < n → test n state i ≡ true
in_use n state i l = rw (lt-ltb i n l)

-- one that is not passes where it is 0
passes : (n : ℕ) (state : List ℤ) (i : ℕ) → is_zero (entry state i) ≡ true → test n state i ≡ true
passes n state i z = rw z (or-true (ltb i n))

fails : (n : ℕ) (state : List ℤ) (i : ℕ) → n ≤ i → is_zero (entry state i) ≡ false → test n state i ≡ false
fails n state i l z = rw (le-ltb i n l, z)

pub loop-i-init : goal.loop-i-init
loop-i-init c = let s = c.args in (omega arith, all_of (test s.n s.state) s.n (in_use s.n s.state))

pub returns-then-state-i-ne0 : goal.returns-then-state-i-ne0
unfolding states_ok
returns-then-state-i-ne0 c =
    let s = c.args in
    let l = c.loop-i in
    let fits : SFits w32 (entry s.state l.i) = record { sfits = search rules } in
    let zero = sym (bits-zero (entry s.state l.i) fits) ∙ ne_eqb _ 0 c.if-state-i-ne0.true in
    sym (one-fails (test s.n s.state) 6 l.i (omega arith) (fails s.n s.state l.i l.invariant.0 zero))

pub loop-i-preserved : goal.loop-i-preserved
loop-i-preserved c =
    let s = c.args in
    let l = c.loop-i in
    let fits : SFits w32 (entry s.state l.i) = record { sfits = search rules } in
    let zero = sym (bits-zero (entry s.state l.i) fits) ∙ eq-eqb _ 0 c.if-state-i-ne0.false in
    (omega arith, all_more (test s.n s.state) l.i l.invariant.1 (passes s.n s.state l.i zero))

pub returns : goal.returns
unfolding states_ok
returns c =
    let s = c.args in
    let l = c.loop-i in
    let t = test s.n s.state in
    sym (all_of t 6 (λ k h. all-at t l.i k l.invariant.1 (omega arith)))
