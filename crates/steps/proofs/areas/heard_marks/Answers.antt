-- `heard_marks` meets its contract. Assumes nothing.
use mathlib.Core.List.{[], ◌∷◌}
use Rattle.steps.proofs.areas.heard_marks.Goals as goal

pub returns : goal.returns
returns c =
    λ i.
    c.mark_byte.ensures i ∷
    c.mark_byte-2.ensures i ∷
    c.mark_byte-3.ensures i ∷
    c.mark_byte-4.ensures i ∷
    c.mark_byte-5.ensures i ∷
    c.mark_byte-6.ensures i ∷
    c.mark_byte-7.ensures i ∷
    c.mark_byte-8.ensures i ∷
    c.mark_byte-9.ensures i ∷
    c.mark_byte-10.ensures i ∷
    []
