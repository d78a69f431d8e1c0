-- `octets::word::u32_at` meets its contract: the four bytes that are read are those of the number. Assumes nothing.
use Rattle.std.proofs.Common.{arith}
use Rattle.octets.proofs.Numbers.{number-of-four}
use Rattle.octets.proofs.word.u32_at.Goals as goal

pub returns : goal.returns
returns c = omega (arith, c.from_le_bytes.ensures, number-of-four c.args.bytes.now c.args.at c.requires)
