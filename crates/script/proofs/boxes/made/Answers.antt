-- `boxes::made` meets its contract. Assumes nothing.
use Rattle.std.proofs.Common.{ap, ◌∙◌, false}
use Rattle.std.specs.Result.{result_unwrap_or}
use Rattle.asks.specs.Asking.{ticketless}
use Rattle.script.proofs.BoxLaws.{made-or-blank}
use Rattle.script.proofs.boxes.made.Goals as goal

pub returns : goal.returns
returns c =
    let made = c.make.ensures in
    let r = c.unwrap_or-replica.ensures ∙ ap (result_unwrap_or c.make.result) c.blank.ensures ∙ made-or-blank _ c.make.result made.answer made.replica in
    let x = c.with_tickets.ensures ∙ ap ticketless r in
    λ i. record { ticketed = x i; stored = false; recorded = r i; latest = c.no_ask.ensures i }
