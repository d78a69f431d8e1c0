-- `lines::put_lines` meets its contract. The loop's invariant: the lines so far were put. Assumes nothing.
use mathlib.Core.Path.{sym}
use lib.Seq.{take_all}
use native.Mathlib.Omega.{arith}
use Rattle.text.proofs.PrintingLaws.{then-puts, put-nothing, puts-same}
use Rattle.pages.specs.Page.{page_bytes}
use Rattle.pages.proofs.LineLaws.{page-more}
use Rattle.pages.proofs.lines.put_lines.Goals as goal

pub loop-entry-init : goal.loop-entry-init
unfolding page_bytes
loop-entry-init c = put-nothing _ _ _ c.min-end.ensures

pub loop-entry-preserved : goal.loop-entry-preserved
loop-entry-preserved c =
    let l = c.loop-entry in
    puts-same (sym (page-more c.args.p c.args.entries.now l.entry-index _ (omega arith))) (then-puts l.invariant c.put_line-end.ensures)

pub returns : goal.returns
returns c = let l = c.loop-entry in rw (take_all l.entry-index c.args.entries.now (omega arith)) at l.invariant
