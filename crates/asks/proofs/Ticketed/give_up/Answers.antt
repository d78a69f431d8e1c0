-- `Ticketed::give_up` meets its contract. Assumes nothing.
use Rattle.asks.proofs.AskLaws.{stepped-gives}
use Rattle.asks.proofs.Ticketed.give_up.Goals as goal

pub returns : goal.returns
returns c =
    let s = c.give_up-stepped in
    stepped-gives c.args.self s.result c.step_giving.result s.ensures c.step_giving.ensures
