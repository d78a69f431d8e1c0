-- `asking::ask_tick` meets its contract. Assumes nothing.
use Rattle.script.proofs.AskLaws.{asked-gives}
use Rattle.script.proofs.asking.ask_tick.Goals as goal

pub returns : goal.returns
returns c =
    let a = c.args in
    let one = c.ask_tick-one in
    asked-gives a.kept _ one.ensures c.asked.ensures
