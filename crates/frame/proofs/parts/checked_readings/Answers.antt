-- `frame::parts::checked_readings` meets its contract. The loop's invariant: the first j marks and values are taken, each of them stands as it may,
-- and the marks that are left are those from j on. Assumes nothing.
use mathlib.Core.Path.{◌≡◌, refl, sym, ap, ◌∙◌}
use mathlib.Core.Bool.{true, false, ◌||◌}
use Prim.Native.Nat.{ℕ, ◌/◌, ◌%◌, ◌≤◌, ◌<◌}
use native.Mathlib.Omega.{arith}
use borrow.Author.Rules.{rules}
use borrow.Author.Tests.{eq-eqb, ne_eqb}
use mathlib.Core.List.{List}
use lib.ListN.{get_or, drop}
use lib.IntN.{ℤ, pos}
use lib.Dec.{eqb}
use mir.Syntax.{w32}
use mir.Val.{SFits, of_z}
use mir.ValLaws.{to_z-of_z}
use Rattle.lists.proofs.Places.{filled_none, filled_more}
use Rattle.lists.proofs.Below.{all_none, all_more}
use Rattle.octets.specs.Words.{from_twos_complement, value_at}
use Rattle.estimate.specs.Marks.{marks_in, is_zero}
use Rattle.estimate.specs.Reading.{marks_at}
use Rattle.estimate.proofs.PresentMarks.{bits-zero}
use Rattle.frame.proofs.EachReading.{left, left-more, next-mark, next-value, stands, next-stands}
use Rattle.frame.proofs.EachReading.{mark-above, value-under-absent, all-stand, all-marks, all-values}
use Rattle.frame.proofs.parts.checked_readings.Goals as goal
use Rattle.frame.proofs.parts.checked_readings.Goals.{else-not-mark-via-then-not-mark+else-value-ne0, else-not-mark-via-else-not-mark}

-- what is taken in a turn is the reading that is next
mark : (p : List ℕ) (j k : ℕ) → k ≡ left j (marks_at p) → j < 4 → eqb (k % 2) 1 ≡ get_or (marks_in (marks_at p)) j false
mark p j k e h = ap (λ (x : ℕ). eqb (x % 2) 1) e ∙ next-mark j _ h

test : (m : ℕ) (p : List ℕ) (j k : ℕ) (v : ℤ) → k ≡ left j (marks_at p) → v ≡ value_at (drop 1 p) j → SFits w32 v → j < m → m ≤ 4
    → eqb (k % 2) 1 || eqb (of_z w32 v) 0 ≡ stands m p j
test m p j k v e is s l high =
    (λ i. mark p j k e (omega arith) i || bits-zero v s i)
    ∙ ap (λ (z : ℤ). get_or (marks_in (marks_at p)) j false || is_zero z) is
    ∙ sym (next-stands m p j l high)

pub returns-then-not-marks_below : goal.returns-then-not-marks_below
returns-then-not-marks_below c =
    let a = c.args in
    let bad = mark-above a.m a.part.now (sym c.marks_below.ensures ∙ c.if-not-marks_below.true) in
    record { ok = sym bad; readings = tt }

pub loop-j-init : goal.loop-j-init
unfolding left
loop-j-init c =
    let a = c.args in (
      refl,
      sym (filled_none false 4 _),
      sym (filled_none (pos 0) 4 _),
      all_none (stands a.m a.part.now),
    )

pub returns-then-value-ne0 : goal.returns-then-value-ne0
returns-then-value-ne0 c =
    let a = c.args in
    let l = c.loop-j in
    let value : c.signed-value.result ≡ value_at (drop 1 a.part.now) l.j =
    c.signed-value.ensures ∙ ap from_twos_complement c.u32_at.ensures ∙ next-value _ l.j in
    let fits : SFits w32 c.signed-value.result = search rules in
    let tested = test a.m a.part.now l.j l.marks_left c.signed-value.result l.invariant.0 value fits (omega arith) (omega arith) in
    let bad = value-under-absent a.m a.part.now l.j (omega arith) (sym tested ∙ (λ i. ne_eqb (l.marks_left % 2) 1 c.if-not-mark.true i || ne_eqb (of_z w32 c.signed-value.result) 0 c.if-value-ne0.true i)) in
    record { ok = sym bad; readings = tt }

pub loop-j-preserved : goal.loop-j-preserved
loop-j-preserved c =
    let a = c.args in
    let l = c.loop-j in
    let value : c.signed-value.result ≡ value_at (drop 1 a.part.now) l.j =
    c.signed-value.ensures ∙ ap from_twos_complement c.u32_at.ensures ∙ next-value _ l.j in
    let fits : SFits w32 c.signed-value.result = search rules in
    let tested = test a.m a.part.now l.j l.marks_left c.signed-value.result l.invariant.0 value fits (omega arith) (omega arith) in
    let back = to_z-of_z w32 c.signed-value.result fits in
    let holds : eqb (l.marks_left % 2) 1 || eqb (of_z w32 c.signed-value.result) 0 ≡ true =
    elim c.else-not-mark.branch [
      | else-not-mark-via-then-not-mark+else-value-ne0 w ↦ rw (ne_eqb _ 1 w.if-not-mark.true, eq-eqb _ 0 w.if-value-ne0.false)
      | else-not-mark-via-else-not-mark w ↦ rw (eq-eqb _ 1 w.if-not-mark.false)
    ] in (
      ap (λ (x : ℕ). x / 2) l.invariant.0 ∙ left-more l.j (marks_at a.part.now),
      rw (l.invariant.1, mark a.part.now l.j l.marks_left l.invariant.0 (omega arith)) (filled_more false 4 l.j (λ i. get_or (marks_in (marks_at a.part.now)) i false) (omega arith)),
      rw (l.invariant.2, back, value) (filled_more (pos 0) 4 l.j (value_at (drop 1 a.part.now)) (omega arith)),
      all_more (stands a.m a.part.now) l.j l.invariant.3 (sym tested ∙ holds),
    )

pub returns : goal.returns
returns c =
    let m = c.args.m in
    let p = c.args.part.now in
    let l = c.loop-j in
    let e : l.j ≡ m = omega arith in
    let below = sym c.marks_below.ensures ∙ c.if-not-marks_below.false in
    let present = rw e at l.invariant.1 ∙ all-marks m p below c.requires.0 c.requires.1 in
    let values = rw e at l.invariant.2 ∙ all-values m p in
    record { ok = sym (all-stand m p below (rw e at l.invariant.3)); readings = λ i. record { present = present i; values = values i } }
