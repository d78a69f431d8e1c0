-- `estimate::marks::marks_in` meets its contract: the code is the definition. Assumes nothing.
use mathlib.Core.Path.{refl}
use Rattle.estimate.specs.Marks.{marks_in}
use Rattle.estimate.proofs.marks.marks_in.Goals as goal

pub returns : goal.returns
unfolding marks_in
returns c = refl
