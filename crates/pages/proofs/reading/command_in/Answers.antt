-- `reading::command_in` meets its contract. Assumes nothing.
use mathlib.Core.Path.{sym, ap, ◌∙◌}
use mathlib.Core.Bool.{not}
use borrow.Author.Tests.{eq-eqb, ne_eqb}
use Rattle.std.specs.Prelude.{Some}
use Rattle.lists.proofs.Choice.{pick_true, pick-false}
use Rattle.pages.specs.Reading.{decided_in, entry_in}
use Rattle.pages.proofs.reading.command_in.Goals as goal

pub returns-then-line-eq45 : goal.returns-then-line-eq45
unfolding entry_in decided_in
returns-then-line-eq45 c = sym (pick-false _ _ _ (ap not (eq-eqb _ 45 c.if-line-eq45.true)))

pub returns : goal.returns
unfolding entry_in decided_in
returns c = ap Some c.values_in.ensures ∙ sym (pick_true _ _ _ (ap not (ne_eqb _ 45 c.if-line-eq45.false)))
