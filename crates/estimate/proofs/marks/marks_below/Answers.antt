-- `estimate::marks::marks_below` meets its contract: the shift does not leave the byte. Assumes nothing.
use Rattle.std.proofs.Common.{ap, nat_lt, arith}
use Rattle.std.proofs.lemmas.Nat.{one_shl}
use Rattle.estimate.specs.Marks.{marks_below}
use Rattle.estimate.proofs.marks.marks_below.Goals as goal

pub returns : goal.returns
unfolding marks_below
returns c = ap (nat_lt c.args.marks) (one_shl c.args.m 8 (omega (arith, c.requires)))
