-- `Ticketed::ask_tick` meets its contract. Assumes nothing.
use mathlib.Core.Path.{sym, ap, ◌∙◌}
use lib.ListN.{length}
use Rattle.transmitters.specs.Conversion.{converted_row}
use Rattle.records.specs.Reading.{is_done}
use Rattle.replica.specs.Calls.{tick_outcome}
use Rattle.asks.proofs.AskLaws.{turned, offered}
use Rattle.asks.proofs.Ticketed.ask_tick.Goals as goal

pub returns-then-not-is_done : goal.returns-then-not-is_done
returns-then-not-is_done c =
    let a = c.args in
    let o = tick_outcome a.self.replica (converted_row a.readings) (length a.frame.now) (length a.command.now) in
    let b = c.answer_before-answer in
    turned a.self o a.area.now a.frame.now a.command.now b.result c.turn_down.result b.ensures
    (sym c.is_done.ensures ∙ c.if-not-is_done.true) c.turn_down.ensures

pub returns : goal.returns
returns c =
    let a = c.args in
    let o = tick_outcome a.self.replica (converted_row a.readings) (length a.frame.now) (length a.command.now) in
    let done = ap is_done (sym c.answer_before-answer.ensures) ∙ sym c.is_done.ensures ∙ c.if-not-is_done.false in
    let s = c.tick-stepped in
    let f = c.offer in
    offered a.self o a.area.now a.frame.now a.command.now s.result f.result done s.ensures f.ensures.asked f.ensures.area
