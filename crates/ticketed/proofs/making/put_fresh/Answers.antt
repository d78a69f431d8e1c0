-- `ticketed::making::put_fresh` meets its contract. Assumes nothing.
use mathlib.Core.Path.{ap, ◌∙◌}
use Rattle.octets.specs.Areas.{put}
use Rattle.records.specs.Lengths.{record_length}
use Rattle.ticketed.proofs.MakeLaws.{fresh-part}
use Rattle.ticketed.proofs.making.put_fresh.Goals as goal

pub returns : goal.returns
returns c = c.copy.ensures ∙ ap (put c.args.area.now record_length) fresh-part
