-- `columns::put_values` meets its contract. The loop's invariant: the numbers so far were put. Assumes nothing.
use mathlib.Core.Path.{sym}
use lib.Seq.{take_all}
use mir.Syntax.{w32}
use mir.Val.{SFits}
use mir.ValLaws.{to_z-of_z}
use native.Mathlib.Omega.{arith}
use Rattle.std.proofs.Common.{rules}
use Rattle.lists.specs.Places.{entry}
use Rattle.text.proofs.PrintingLaws.{then-puts, put-nothing, puts-same}
use Rattle.pages.specs.Line.{command_columns}
use Rattle.pages.proofs.ColumnLaws.{columns-more}
use Rattle.pages.proofs.columns.put_values.Goals as goal

pub loop-z-init : goal.loop-z-init
unfolding command_columns
loop-z-init c = put-nothing _ _ _ c.min-end.ensures

pub loop-z-preserved : goal.loop-z-preserved
loop-z-preserved c =
    let l = c.loop-z in
    let values = c.args.values.now in
    let fits : SFits w32 (entry values l.z-index) = search rules in
    puts-same (sym (columns-more values l.z-index (omega arith)))
    (then-puts l.invariant (rw (to_z-of_z w32 (entry values l.z-index) fits) at c.put_value-end.ensures))

pub returns : goal.returns
returns c = let l = c.loop-z in rw (take_all l.z-index c.args.values.now (omega arith)) at l.invariant
