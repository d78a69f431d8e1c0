-- `steps_tick` meets its contract. Assumes nothing.
use Rattle.steps.proofs.Leaving.{leaves, same_row}
use Rattle.steps.proofs.calls.steps_tick.Goals as goal

pub returns : goal.returns
returns c =
    let held = c.held_of-held.ensures in
    let settings = c.settings_of-settings.ensures in
    let row = c.readings_of-readings.ensures in
    leaves _ (λ i. record { settings = settings i; held = held i }) (same_row _ _ _ row) c.tick-stepped.ensures c.put_step.ensures
