-- `taking::entry_on` meets its contract. Assumes nothing.
use mathlib.Core.Path.{sym, ◌∙◌}
use mathlib.Core.Logic.{inl, inr}
use Rattle.lists.specs.Choice.{pick}
use Rattle.printed.specs.Pages.{entry_on}
use Rattle.printed.proofs.taking.entry_on.Goals as goal

pub returns-then-is_suited : goal.returns-then-is_suited
unfolding entry_on pick
returns-then-is_suited c = rw (c.in-Step.is, sym c.is_suited.ensures ∙ c.if-is_suited.true)

pub returns-else-is_suited : goal.returns-else-is_suited
unfolding entry_on pick
returns-else-is_suited c = rw (c.in-Step.is, sym c.is_suited.ensures ∙ c.if-is_suited.false)

pub returns-in-Foreign : goal.returns-in-Foreign
unfolding entry_on
returns-in-Foreign c = elim c.in-Foreign.is [ inl e ↦ rw e | inr e ↦ rw e ]
