-- `asking::ask_arrive` meets its contract. Assumes nothing.
use Rattle.script.proofs.AskLaws.{asked-gives}
use Rattle.script.proofs.asking.ask_arrive.Goals as goal

pub returns : goal.returns
returns c =
    let a = c.args in
    let one = c.ask_arrive-one in
    asked-gives a.kept _ one.ensures c.asked.ensures
