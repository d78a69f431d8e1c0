-- `held_of` meets its contract. Assumes nothing.
use Rattle.steps.proofs.areas.held_of.Goals as goal

pub returns : goal.returns
returns c =
    rw (c.readings_of-readings.ensures, c.readings_of-readings-2.ensures, c.heard_of-heard.ensures)
