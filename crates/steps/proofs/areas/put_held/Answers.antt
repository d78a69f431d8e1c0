-- `put_held` meets its contract. Assumes nothing.
use Rattle.steps.proofs.areas.put_held.Goals as goal

pub returns : goal.returns
returns c =
    rw (
      c.mark_byte.ensures,
      c.mark_byte-2.ensures,
      c.mark_byte-3.ensures,
      c.heard_marks.ensures,
      c.marks_of.ensures,
      c.marks_of-2.ensures,
    )
