-- `tick` meets its contract. Assumes nothing.
use Rattle.replica.proofs.Gives.{gives-done}
use Rattle.replica.proofs.Replica.tick.Goals as goal

pub returns : goal.returns
returns c =
    let a = c.args in
    rw c.step_of.ensures (gives-done a.self.settings (rw c.convert_row-converted.ensures at (c.tick-given.ensures a.command.now)))
