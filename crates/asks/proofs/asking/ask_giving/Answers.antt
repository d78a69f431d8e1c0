-- `asking::ask_giving` meets its contract. Assumes nothing.
use mathlib.Core.Path.{ap, ◌∙◌}
use Prim.Native.Nat.{ℕ}
use Rattle.tickets.specs.Tickets.{ticket_for, after_ask}
use Rattle.asks.specs.declared.Tickets.{Tickets}
use Rattle.asks.specs.declared.Asked.{Asked}
use Rattle.asks.specs.Asking.{tickets_of, tickets_in}
use Rattle.asks.proofs.asking.ask_giving.Goals as goal

pub returns : goal.returns
returns c =
    let a = c.args in
    let with : ℕ → Tickets → Asked = λ n t. record {
      answer = a.answer;
      ticket = n;
      ticketed = record { replica = a.ticketed.replica; tickets = t };
      frame = a.frame;
      command = a.command;
    } in
    let t = tickets_of a.ticketed.tickets in
    ap (λ n. with n c.after_ask-tickets.result) c.ticket_for.ensures
    ∙ ap (λ u. with (ticket_for t) (tickets_in u)) c.after_ask-tickets.ensures
    ∙ ap (λ b. with (ticket_for t) (tickets_in (after_ask t b a.held))) c.is_done.ensures
