-- `octets::word::bits` meets its contract: the definition is the toolchain's own reading of bits. Assumes nothing.
use Rattle.std.proofs.Common.{sym, ◌∙◌, ap, w32, of_z}
use mir.ValLaws.{to_z-of_z}
use Rattle.octets.proofs.TwosComplement.{as-of_z}
use Rattle.octets.proofs.word.bits.Goals as goal

pub returns : goal.returns
returns c = c.cast_unsigned.ensures ∙ ap (of_z w32) (to_z-of_z w32 c.args.z c.ranges.z) ∙ sym (as-of_z c.args.z)
