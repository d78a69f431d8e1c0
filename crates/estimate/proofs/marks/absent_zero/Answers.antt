-- `estimate::marks::absent_zero` meets its contract. The loop's invariant: the test holds of each reading below j. Assumes nothing.
use Rattle.std.proofs.Common.{◌≡◌, sym, ◌∙◌, ◌||◌, true, false, arith, w32, rules}
use borrow.Author.Tests.{eq-eqb, ne_eqb}
use mir.Val.{SFits}
use Rattle.lists.specs.Places.{entry}
use Rattle.lists.proofs.Below.{all_none, all_more, one-fails}
use Rattle.readings.specs.Readings.{present}
use Rattle.estimate.specs.Marks.{is_zero, absent_zero}
use Rattle.estimate.proofs.PresentMarks.{bits-zero}
use Rattle.estimate.proofs.marks.absent_zero.Goals as goal
use Rattle.estimate.proofs.marks.absent_zero.Goals.{else-not-y-j-via-then-not-y-j+else-value-ne0, else-not-y-j-via-else-not-y-j}

pub loop-j-init : goal.loop-j-init
loop-j-init c = all_none _

pub returns-then-value-ne0 : goal.returns-then-value-ne0
unfolding absent_zero
returns-then-value-ne0 c =
    let a = c.args in
    let l = c.loop-j in
    let fits : SFits w32 (entry a.y.values l.j) = search rules in
    let fails : present a.y l.j || is_zero (entry a.y.values l.j) ≡ false =
    rw c.if-not-y-j.true (sym (bits-zero _ fits) ∙ ne_eqb _ 0 c.if-value-ne0.true) in
    sym (one-fails (λ k. present a.y k || is_zero (entry a.y.values k)) a.m l.j (omega arith) fails)

pub loop-j-preserved : goal.loop-j-preserved
loop-j-preserved c =
    let a = c.args in
    let l = c.loop-j in
    let fits : SFits w32 (entry a.y.values l.j) = search rules in
    let holds : present a.y l.j || is_zero (entry a.y.values l.j) ≡ true =
    elim c.else-not-y-j.branch [
      | else-not-y-j-via-then-not-y-j+else-value-ne0 w ↦ rw w.if-not-y-j.true (sym (bits-zero _ fits) ∙ eq-eqb _ 0 w.if-value-ne0.false)
      | else-not-y-j-via-else-not-y-j w ↦ rw w.if-not-y-j.false
    ] in
    all_more (λ k. present a.y k || is_zero (entry a.y.values k)) l.j l.invariant holds

pub returns : goal.returns
unfolding absent_zero
returns c =
    let e : c.loop-j.j ≡ c.args.m = omega arith in
    sym (rw e at c.loop-j.invariant)
