-- `lines::spaces_left` meets its contract. Assumes nothing.
use mathlib.Core.Path.{sym, ◌∙◌}
use Prim.Native.Nat.{ℕ}
use Rattle.lists.proofs.Choice.{pick_true, pick-false}
use Rattle.pages.proofs.lines.spaces_left.Goals as goal

pub returns-then-is_some : goal.returns-then-is_some
returns-then-is_some c = let one : ℕ = 1 in rw (pick_true _ _ one (sym c.is_some.ensures ∙ c.if-is_some.true))

pub returns-else-is_some : goal.returns-else-is_some
returns-else-is_some c = let one : ℕ = 1 in rw (pick-false _ _ one (sym c.is_some.ensures ∙ c.if-is_some.false))
