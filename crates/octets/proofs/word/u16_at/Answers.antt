-- `octets::word::u16_at` meets its contract: the two bytes that are read are those of the number. Assumes nothing.
use Rattle.std.proofs.Common.{arith}
use Rattle.octets.proofs.Numbers.{number-of-two}
use Rattle.octets.proofs.word.u16_at.Goals as goal

pub returns : goal.returns
returns c = omega (arith, c.from.ensures, c.from_le_bytes.ensures, number-of-two c.args.bytes.now c.args.at c.requires)
