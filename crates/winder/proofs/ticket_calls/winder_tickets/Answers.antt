-- `winder_tickets` meets its contract. Assumes nothing.
use mathlib.Core.Path.{ap, ◌∙◌}
use Rattle.winder.specs.Answers.{number_of}
use Rattle.winder.proofs.TicketLaws.{number-of}
use Rattle.winder.proofs.ticket_calls.winder_tickets.Goals as goal

pub returns : goal.returns
returns c =
    let w = c.with_tickets.ensures in
    record { answer = c.result_number.ensures ∙ ap number_of w.answer ∙ number-of _; area = w.area }
