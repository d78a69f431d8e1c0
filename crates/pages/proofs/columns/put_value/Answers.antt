-- `columns::put_value` meets its contract. Assumes nothing.
use mathlib.Core.Path.{ap, ◌∙◌}
use mir.Syntax.{w32}
use mir.ValLaws.{to_z-of_z}
use Rattle.text.specs.Printing.{signed}
use Rattle.text.proofs.PrintingLaws.{puts-same}
use Rattle.text.proofs.PrintingLengths.{signed-length}
use Rattle.pages.specs.Line.{right}
use Rattle.pages.proofs.ColumnLaws.{put_alone}
use Rattle.pages.proofs.columns.put_value.Goals as goal

pub returns : goal.returns
returns c =
    let back = to_z-of_z w32 c.args.z c.ranges.z in
    puts-same (ap (right 12) (put_alone (signed-length _) c.put_signed-size.ensures ∙ ap signed back)) c.put_right.ensures
