-- `records::conditions::heard_ok` meets its contract. The loop's invariant: it does so for the first j places. Assumes nothing.
use mathlib.Core.Path.{◌≡◌, refl, sym, ap, ap₂, ◌∙◌}
use mathlib.Core.Bool.{Bool, true, false, not, ◌&&◌, ◌||◌, and-true, or-false}
use mathlib.Core.List.{List}
use Prim.Native.Nat.{ℕ, zero, suc, ◌+◌, ◌≤◌, ◌<◌}
use native.Mathlib.Omega.{arith}
use lib.Bits.{bit_or}
use lib.ListN.{get_or}
use lib.Dec.{eqb}
use borrow.Author.Tests.{le-leb, lt-leb}
use Rattle.lists.specs.Below.{all_below}
use Rattle.lists.proofs.Below.{all-next}
use Rattle.lists.proofs.Booleans.{or-true}
use Rattle.lists.proofs.Places.{filled_at}
use Rattle.scram.specs.Quorum.{among}
use Rattle.records.specs.HeldPart.{mark_at, heard_at}
use Rattle.records.specs.Reading.{is_box, bytes_mean, heard_ok}
use Rattle.records.proofs.HeldLaws.{heard-small}
use Rattle.records.proofs.Joined.{or-zero}
use Rattle.records.proofs.conditions.heard_ok.Invariants.{test}
use Rattle.records.proofs.conditions.heard_ok.Goals as goal
use Rattle.records.proofs.conditions.heard_ok.Goals.{then-last-j, else-last-j}

-- a byte that is 0 or 1 is no mark exactly where it is 0
no-mark : (x : ℕ) → x ≤ 1 → not (eqb x 1) ≡ eqb x 0
no-mark zero h = refl
no-mark (suc zero) h = refl
no-mark (suc (suc x)) h = absurd (omega arith)

module _ (boxes : ℕ) (b : List ℕ) (mean : bytes_mean b ≡ true) where
  -- a box's place passes
  of-box : (j : ℕ) → 1 ≤ j → j ≤ boxes → test boxes b j ≡ true
  of-box j low high = rw (le-leb 1 j low, le-leb j boxes high) (or-true (not (among (heard_at b 514) j)))

  -- another does where its byte is 0
  of_none : (j : ℕ) → j < 10 → is_box boxes j ≡ false → test boxes b j ≡ eqb (get_or b (514 + j) 0) 0
  unfolding heard_at
  of_none j l e =
      ap (λ (t : Bool). not (among (heard_at b 514) j) || t) e
      ∙ or-false (not (among (heard_at b 514) j))
      ∙ ap not (filled_at false 10 10 j (λ k. mark_at b (514 + k)) l l)
      ∙ no-mark (get_or b (514 + j) 0) (heard-small b mean j l)

  -- place 0 is no box's
  first : eqb (get_or b 514 0) 0 ≡ all_below 1 (test boxes b)
  unfolding all_below
  first = sym (of_none 0 (omega arith) refl)

  module _ (j bits : ℕ) (e : eqb bits 0 ≡ all_below j (test boxes b)) where
    -- a turn of the loop at a box
    passed : 1 ≤ j → j ≤ boxes → eqb bits 0 ≡ all_below (j + 1) (test boxes b)
    passed low high =
        e ∙ sym (all-next (test boxes b) j ∙ ap (λ (t : Bool). all_below j (test boxes b) && t) (of-box j low high) ∙ and-true (all_below j (test boxes b)))

    -- and above the last
    looked : 1 ≤ j → j < 10 → boxes < j → eqb (bit_or bits (get_or b (514 + j) 0)) 0 ≡ all_below (j + 1) (test boxes b)
    looked low l high =
        or-zero bits (get_or b (514 + j) 0)
        ∙ ap₂ (λ (s t : Bool). s && t) e (sym (of_none j l (rw (le-leb 1 j (omega arith)) (lt-leb j boxes high))))
        ∙ sym (all-next (test boxes b) j)

pub loop-j-init : goal.loop-j-init
loop-j-init c = first c.args.boxes c.args.bytes.now c.requires.1

pub loop-j-preserved : goal.loop-j-preserved
loop-j-preserved c =
    let l = c.loop-j in
    let p = passed c.args.boxes c.args.bytes.now c.requires.1 l.j l.bits l.invariant in
    let q = looked c.args.boxes c.args.bytes.now c.requires.1 l.j l.bits l.invariant in
    elim c.if-last-j.branch [
      | then-last-j w ↦ ap (λ (x : ℕ). eqb x 0) w.bits-is ∙ q (omega arith) (omega arith) w.if-last-j.true
      | else-last-j w ↦ ap (λ (x : ℕ). eqb x 0) w.bits-is ∙ p (omega arith) w.if-last-j.false
    ]

pub returns : goal.returns
unfolding heard_ok
returns c =
    let s = c.args in
    let l = c.loop-j in
    let done : l.j ≡ 10 = omega arith in
    l.invariant ∙ ap (λ (n : ℕ). all_below n (test s.boxes s.bytes.now)) done
