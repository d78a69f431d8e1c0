-- `estimate::marks::marks_byte` meets its contract: the sum of the bits, which fits a byte. Assumes nothing.
use Rattle.std.proofs.Common.{◌∙◌}
use Rattle.estimate.specs.Marks.{marks_byte}
use Rattle.estimate.proofs.PresentMarks.{bit-is}
use Rattle.estimate.proofs.marks.marks_byte.Goals as goal

pub returns : goal.returns
unfolding marks_byte
returns c =
    rw (c.from.ensures ∙ bit-is _, c.from-2.ensures ∙ bit-is _, c.from-3.ensures ∙ bit-is _, c.from-4.ensures ∙ bit-is _)
