-- `issue` meets its contract. Assumes nothing.
use Rattle.std.proofs.Common.{refl, ap, ◌∙◌, List, ℕ, length}
use Rattle.std.proofs.lemmas.Result.{IfOk-at_ok}
use Rattle.lists.specs.Choice.{pick}
use Rattle.octets.specs.Areas.{over}
use Rattle.frame.specs.Command.{command_bytes}
use Rattle.frame.proofs.Refusals.{command-done}
use Rattle.law.specs.declared.Marked.{Marked}
use Rattle.refusal.proofs.Numbers.{ok-at_zero}
use Rattle.replica.proofs.Accepted.{command-sizes}
use Rattle.replica.proofs.Lent.{refusal-seen, issued-seen}
use Rattle.replica.proofs.Written.{command-is}
use Rattle.replica.proofs.output.issue.Goals as goal

pub returns-then-not-issues : goal.returns-then-not-issues
unfolding pick
returns-then-not-issues c = rw c.if-not-issues.true (refl, refl)

pub issued-marked-requires : goal.issued-marked-requires
issued-marked-requires c = refusal-seen c.args.settings.now.law c.tables-tables.ensures ∙ c.requires.0

pub unwrap-requires : goal.unwrap-requires
unwrap-requires c =
    let law = c.args.settings.now.law in
    ok-at_zero _ (c.write_command.ensures.answer ∙ command-done law.p c.args.area.now (command-sizes law c.requires.0) c.requires.1)

pub returns : goal.returns
unfolding pick
returns c =
    let a = c.args in
    let law = a.settings.now.law in
    let w = c.write_command.ensures in
    let is = command-is law.p a.held.period _ _ a.area.now (command-sizes law c.requires.0) c.requires.1
    ∙ ap (λ (m : Marked). command_bytes law.p a.held.period m.commands m.limited) (c.issued-marked.ensures ∙ issued-seen law c.tables-tables.ensures _ _) in
    rw c.if-not-issues.false (IfOk-at_ok _ c.unwrap.ensures w.count ∙ ap length is, w.bytes ∙ ap (λ (b : List ℕ). over b a.area.now) is)
