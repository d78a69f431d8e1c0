-- `octets::word::put_u32` meets its contract: the bytes of the number, by its remainders. Assumes nothing.
use Rattle.std.proofs.Common.{◌∙◌, ap}
use Rattle.octets.specs.Areas.{put}
use Rattle.octets.proofs.Numbers.{four-bytes}
use Rattle.octets.proofs.word.put_u32.Goals as goal

pub returns : goal.returns
returns c = c.put_bytes.ensures ∙ ap (put c.args.area.now c.args.at) (c.to_le_bytes.ensures ∙ four-bytes c.args.x)
