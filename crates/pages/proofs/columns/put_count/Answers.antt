-- `columns::put_count` meets its contract. Assumes nothing.
use mathlib.Core.Path.{ap}
use Rattle.text.proofs.PrintingLaws.{puts-same}
use Rattle.text.proofs.PrintingLengths.{decimal-length}
use Rattle.pages.specs.Line.{right}
use Rattle.pages.proofs.ColumnLaws.{put_alone}
use Rattle.pages.proofs.columns.put_count.Goals as goal

pub returns : goal.returns
returns c = puts-same (ap (right 10) (put_alone (decimal-length _) c.put_decimal-size.ensures)) c.put_right.ensures
