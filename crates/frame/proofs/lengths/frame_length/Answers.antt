-- `frame::lengths::frame_length` meets its contract: the code asks for parts as the definition does. Assumes nothing.
use mathlib.Core.Path.{sym, ap, ◌∙◌}
use Prim.Native.Nat.{ℕ, ◌+◌}
use Rattle.lists.proofs.Choice.{pick_true, pick-false}
use Rattle.frame.specs.Lengths.{parts_start}
use Rattle.frame.proofs.lengths.frame_length.Goals as goal

pub returns-then-has_parts : goal.returns-then-has_parts
returns-then-has_parts c =
    ap (λ (k : ℕ). parts_start + k) c.estimate_length.ensures
    ∙ sym (pick_true _ _ _ (sym c.has_parts.ensures ∙ c.if-has_parts.true))

pub returns : goal.returns
returns c = sym (pick-false _ _ _ (sym c.has_parts.ensures ∙ c.if-has_parts.false))
