-- `winder_ticketed_give_up` meets its contract. Assumes nothing.
use Rattle.winder.proofs.TicketLaws.{step_left}
use Rattle.winder.proofs.ticket_calls.winder_ticketed_give_up.Goals as goal

pub returns : goal.returns
returns c =
    let n = c.leave_step.ensures in
    step_left c.give_up-stepped.ensures n.answer n.lengths
