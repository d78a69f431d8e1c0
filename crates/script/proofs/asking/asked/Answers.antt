-- `asking::asked` meets its contract. Assumes nothing.
use mathlib.Core.Path.{ap, ◌∙◌}
use mathlib.Core.Bool.{Bool}
use Rattle.lists.specs.Choice.{pick}
use Rattle.script.specs.Asking.{asked_replica}
use Rattle.script.proofs.asking.asked.Goals as goal

pub returns : goal.returns
returns c =
    let a = c.args in
    let one = a.one in
    let ok = c.is_done-ok.ensures in
    let shown = c.shown_of.ensures ∙ ap (λ (b : Bool). pick b (asked_replica one.ticketed) one.ticketed.replica) ok in
    λ i. record {
      answer = one.answer;
      ticket = one.ticket;
      kept = record {
        ticketed = one.ticketed;
        stored = a.kept.stored;
        recorded = a.kept.recorded;
        latest = record { ok = ok i; gave = record { frame = a.frame; sent = one.frame; command = a.command; issued = one.command } };
      };
      shown = shown i;
    }
