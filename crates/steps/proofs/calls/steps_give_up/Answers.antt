-- `steps_give_up` meets its contract. Assumes nothing.
use mathlib.Core.Path.{refl}
use Rattle.steps.proofs.Leaving.{leaves}
use Rattle.steps.proofs.calls.steps_give_up.Goals as goal

pub returns : goal.returns
returns c =
    let held = c.held_of-held.ensures in
    let settings = c.settings_of-settings.ensures in
    leaves _ (λ i. record { settings = settings i; held = held i }) refl c.give_up-stepped.ensures c.put_step.ensures
