-- `taking::is_passed` meets its contract. Assumes nothing.
use mathlib.Core.Path.{ap}
use mathlib.Core.Bool.{not}
use Rattle.printed.specs.Pages.{is_passed}
use Rattle.printed.proofs.taking.is_passed.Goals as goal

pub returns-in-Step : goal.returns-in-Step
unfolding is_passed
returns-in-Step c = rw c.in-Step.is (ap not c.is_suited.ensures)

pub returns-in-Foreign : goal.returns-in-Foreign
unfolding is_passed
returns-in-Foreign c = rw c.in-Foreign.is

pub returns-in-Other : goal.returns-in-Other
unfolding is_passed
returns-in-Other c = rw c.in-Other.is
