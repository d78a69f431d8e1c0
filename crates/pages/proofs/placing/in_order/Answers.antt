-- `placing::in_order` meets its contract. Assumes nothing.
use mathlib.Core.Path.{sym}
use borrow.Author.Tests.{lt-ltb, le-ltb}
use Rattle.lists.proofs.Choice.{pick_true, pick-false}
use Rattle.pages.proofs.placing.in_order.Goals as goal

pub returns-then-a-b : goal.returns-then-a-b
returns-then-a-b c = let t = lt-ltb _ _ c.if-a-b.true in (sym (pick_true _ _ _ t), sym (pick_true _ _ _ t))

pub returns-else-a-b : goal.returns-else-a-b
returns-else-a-b c = let t = le-ltb _ _ c.if-a-b.false in (sym (pick-false _ _ _ t), sym (pick-false _ _ _ t))
