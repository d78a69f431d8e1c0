-- `ticket::ticket_in` meets its contract. Assumes nothing.
use Rattle.line.specs.Tickets.{ticket_of}
use Rattle.line.proofs.ticket.ticket_in.Goals as goal

pub returns : goal.returns
unfolding ticket_of
returns c = c.read_unsigned.ensures.number
