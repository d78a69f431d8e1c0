-- `with_tickets` meets its contract. Assumes nothing.
use mathlib.Core.Path.{ap}
use Rattle.asks.specs.declared.Tickets.{Tickets}
use Rattle.asks.specs.declared.Ticketed.{Ticketed}
use Rattle.asks.specs.Asking.{tickets_in}
use Rattle.asks.proofs.with_tickets.Goals as goal

pub returns : goal.returns
returns c =
    let with : Tickets → Ticketed = λ t. record { replica = c.args.replica; tickets = t } in
    ap (λ t. with (tickets_in t)) c.no_tickets.ensures
