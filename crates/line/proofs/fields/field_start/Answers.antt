-- `fields::field_start` meets its contract. Assumes nothing.
use Rattle.std.proofs.Common.{sym, ap, ◌∙◌, arith, ◌≡◌, ◌<◌, length, drop, ℕ}
use lib.Seq.{drop-length}
use Rattle.line.proofs.FieldLaws.{after_more, after-found, after_none}
use Rattle.line.proofs.fields.field_start.Goals as goal

pub returns-then-left-eq0 : goal.returns-then-left-eq0
returns-then-left-eq0 c =
    let l = c.loop-i in
    (omega arith, sym (l.invariant ∙ rw c.if-left-eq0.true (after-found _)))

pub loop-i-preserved : goal.loop-i-preserved
loop-i-preserved c =
    let l = c.loop-i in
    let line = c.args.line.now in
    let h : l.i < length line = omega arith in
    rw c.one_less-left.ensures (l.invariant ∙ after_more line l.i l.left h c.if-left-eq0.false)

pub returns : goal.returns
returns c =
    let l = c.loop-i in
    let line = c.args.line.now in
    let e : l.i ≡ length line = omega arith in
    let none = ap (λ (i : ℕ). drop i line) e ∙ drop-length line in
    (omega arith, drop-length line ∙ sym (l.invariant ∙ rw none (after_none l.left)))
