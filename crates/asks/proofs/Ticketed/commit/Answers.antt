-- `Ticketed::commit` meets its contract. Assumes nothing.
use mathlib.Core.Path.{◌≡◌, refl, sym, ◌∙◌}
use mathlib.Core.Bool.{true}
use Rattle.tickets.specs.Tickets.{after_step}
use Rattle.tickets.proofs.Laws.{step-made}
use Rattle.asks.specs.Asking.{tickets_of}
use Rattle.asks.proofs.CommitLaws.{commit-refuses, commit-makes}
use Rattle.asks.proofs.Ticketed.commit.Goals as goal

pub returns-then-not-commits-clause-answer : goal.returns-then-not-commits-clause-answer
returns-then-not-commits-clause-answer c =
    let a = c.args in
    (commit-refuses a.self a.ticket (sym c.commits.ensures ∙ c.if-not-commits.true)).0

pub returns : goal.returns
returns c =
    let a = c.args in
    let taken = sym c.commits.ensures ∙ c.if-not-commits.false in
    let left : tickets_of c.after_step-tickets.result ≡ after_step (tickets_of a.self.tickets) true = c.after_step-tickets.ensures in
    let r = commit-makes a.self a.ticket c.after_step-tickets.result taken (left ∙ step-made (tickets_of a.self.tickets) true refl) in
    record { answer = r.0; ticketed = r.1 }
