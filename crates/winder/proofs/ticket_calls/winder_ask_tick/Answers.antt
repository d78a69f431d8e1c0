-- `winder_ask_tick` meets its contract. Assumes nothing.
use Rattle.winder.proofs.TicketLaws.{ask-left}
use Rattle.winder.proofs.ticket_calls.winder_ask_tick.Goals as goal

pub returns : goal.returns
returns c =
    let n = c.leave_ask.ensures in
    ask-left c.ask_tick-asked.ensures n.answer n.lengths n.ticket
