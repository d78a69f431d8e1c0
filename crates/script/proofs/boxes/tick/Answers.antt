-- `boxes::tick` meets its contract. Assumes nothing.
use Rattle.script.proofs.BoxLaws.{stepped-gives}
use Rattle.script.proofs.boxes.tick.Goals as goal

pub returns : goal.returns
returns c =
    let a = c.args in
    let one = c.tick-one in
    stepped-gives a.kept one.ensures c.stepped.ensures
