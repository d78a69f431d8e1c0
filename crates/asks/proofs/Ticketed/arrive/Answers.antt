-- `Ticketed::arrive` meets its contract. Assumes nothing.
use Rattle.asks.proofs.AskLaws.{stepped-gives}
use Rattle.asks.proofs.Ticketed.arrive.Goals as goal

pub returns : goal.returns
returns c =
    let s = c.arrive-stepped in
    stepped-gives c.args.self s.result c.step_giving.result s.ensures c.step_giving.ensures
