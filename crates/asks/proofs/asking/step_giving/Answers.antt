-- `asking::step_giving` meets its contract. Assumes nothing.
use mathlib.Core.Path.{◌≡◌, ap, ◌∙◌}
use Rattle.scram.specs.Answers.{answered}
use Rattle.records.specs.Reading.{is_done}
use Rattle.tickets.specs.Tickets.{after_step}
use Rattle.asks.specs.declared.Tickets.{Tickets}
use Rattle.asks.specs.declared.Stepped.{Stepped}
use Rattle.asks.specs.Asking.{tickets_of, tickets_in}
use Rattle.asks.proofs.asking.step_giving.Goals as goal

pub returns : goal.returns
returns c =
    let a = c.args in
    let done : c.is_done.result ≡ is_done (answered a.stepped.answer) = c.is_done.ensures in
    let with : Tickets → Stepped = λ t. record {
      answer = a.stepped.answer;
      ticketed = record { replica = a.stepped.replica; tickets = t };
      frame = a.stepped.frame;
      command = a.stepped.command;
    } in
    ap (λ t. with (tickets_in t)) c.after_step-tickets.ensures
    ∙ ap (λ b. with (tickets_in (after_step (tickets_of a.ticketed.tickets) b))) done
