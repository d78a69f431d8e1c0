-- `boxes::give_up` meets its contract. Assumes nothing.
use Rattle.script.proofs.BoxLaws.{stepped-gives}
use Rattle.script.proofs.boxes.give_up.Goals as goal

pub returns : goal.returns
returns c =
    let a = c.args in
    let one = c.give_up-one in
    stepped-gives a.kept one.ensures c.stepped.ensures
