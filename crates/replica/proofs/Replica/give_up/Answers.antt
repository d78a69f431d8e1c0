-- `give_up` meets its contract. Assumes nothing.
use Rattle.replica.proofs.Gives.{gives-done}
use Rattle.replica.proofs.Replica.give_up.Goals as goal

pub returns : goal.returns
returns c = rw c.step_of.ensures (gives-done c.args.self.settings (c.give_up-given.ensures c.args.command.now))
