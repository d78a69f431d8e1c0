-- `frame::kinds::has_parts` meets its contract: the code is the definition. Assumes nothing.
use mathlib.Core.Path.{ap}
use lib.Dec.{ltb}
use Rattle.frame.specs.Kinds.{has_parts}
use Rattle.frame.proofs.kinds.has_parts.Goals as goal

pub returns : goal.returns
unfolding has_parts
returns c = ap (ltb 0) c.part_count.ensures
