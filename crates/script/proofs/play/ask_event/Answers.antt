-- `play::ask_event` meets its contract. Assumes nothing.
use Rattle.script.proofs.PlayLaws.{leaves-ask}
use Rattle.script.proofs.play.ask_event.Goals as goal

pub returns : goal.returns
returns c =
    let a = c.args in
    leaves-ask a.event _ _ _ _ _ c.ask_line-end.result c.ask-one.ensures c.box_of.ensures c.ask_line-end.ensures
