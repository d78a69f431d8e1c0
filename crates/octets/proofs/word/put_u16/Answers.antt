-- `octets::word::put_u16` meets its contract: the first two bytes of the number, by its remainders. Assumes nothing.
use Rattle.std.proofs.Common.{◌∙◌, ap, take}
use Rattle.octets.specs.Areas.{put}
use Rattle.octets.proofs.Numbers.{two_bytes}
use Rattle.octets.proofs.word.put_u16.Goals as goal

pub returns : goal.returns
returns c = c.put_bytes.ensures ∙ ap (put c.args.area.now c.args.at) (ap (take 2) c.to_le_bytes.ensures ∙ two_bytes c.args.x)
