-- `boxes::arrive` meets its contract. Assumes nothing.
use Rattle.script.proofs.BoxLaws.{stepped-gives}
use Rattle.script.proofs.boxes.arrive.Goals as goal

pub returns : goal.returns
returns c =
    let a = c.args in
    let one = c.arrive-one in
    stepped-gives a.kept one.ensures c.stepped.ensures
