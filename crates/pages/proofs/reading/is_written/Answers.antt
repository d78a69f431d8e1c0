-- `reading::is_written` meets its contract. Assumes nothing.
use mathlib.Core.Path.{ap, ◌∙◌}
use Prim.Native.Nat.{◌≤◌}
use native.Mathlib.Omega.{arith}
use lib.ListN.{length}
use Rattle.pages.specs.Page.{page_bytes}
use Rattle.pages.specs.Reading.{same}
use Rattle.pages.proofs.ColumnLaws.{put_alone}
use Rattle.pages.proofs.LineLaws.{page-length}
use Rattle.pages.proofs.ReadingLaws.{same_equal}
use Rattle.pages.proofs.reading.is_written.Goals as goal

pub returns : goal.returns
returns c =
    let entries = c.args.entries.now in
    let size = page-length c.args.p entries c.requires.1 in
    let room : length (page_bytes c.args.p entries) ≤ 4380 = omega (arith, size, c.requires.0) in
    c.eq.ensures ∙ same_equal _ _ ∙ ap (same c.args.bytes.now) (put_alone room c.put_lines-end.ensures)
