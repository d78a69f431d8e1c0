-- `Ticketed::tick` meets its contract. Assumes nothing.
use Rattle.asks.proofs.AskLaws.{stepped-gives}
use Rattle.asks.proofs.Ticketed.tick.Goals as goal

pub returns : goal.returns
returns c =
    let s = c.tick-stepped in
    stepped-gives c.args.self s.result c.step_giving.result s.ensures c.step_giving.ensures
