-- `octets::word::signed` meets its contract: the definition is the toolchain's own reading of bits. Assumes nothing.
use Rattle.std.proofs.Common.{sym, ◌∙◌, w32}
use mir.ValLaws.{to_z-of_z}
use Rattle.octets.proofs.TwosComplement.{as-to_z}
use Rattle.octets.proofs.word.signed.Goals as goal

pub returns : goal.returns
returns c = to_z-of_z w32 _ (record { sfits = c.cast_signed.type_inv }) ∙ c.cast_signed.ensures ∙ sym (as-to_z c.args.x)
