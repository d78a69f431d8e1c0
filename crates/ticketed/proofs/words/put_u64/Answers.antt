-- `ticketed::words::put_u64` meets its contract: the bytes of the number, by its remainders. Assumes nothing.
use Rattle.std.proofs.Common.{◌∙◌, ap}
use Rattle.octets.specs.Areas.{put}
use Rattle.ticketed.proofs.Halves.{eight-bytes}
use Rattle.ticketed.proofs.words.put_u64.Goals as goal

pub returns : goal.returns
returns c = c.put_bytes.ensures ∙ ap (put c.args.area.now c.args.at) (c.to_le_bytes.ensures ∙ eight-bytes c.args.x)
