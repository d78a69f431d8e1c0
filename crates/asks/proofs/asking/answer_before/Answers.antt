-- `asking::answer_before` meets its contract. Assumes nothing.
use Rattle.std.proofs.Common.{sym, ap, ◌∙◌}
use borrow.Author.Tests.{eq-eqb, ne_eqb}
use Rattle.refusal.proofs.Numbers.{number-not-0}
use Rattle.scram.specs.Answers.{Refused}
use Rattle.asks.proofs.AskLaws.{before-spent, before-refused, before-done}
use Rattle.asks.proofs.asking.answer_before.Goals as goal

pub returns-then-is_spent : goal.returns-then-is_spent
returns-then-is_spent c =
    let a = c.args in
    sym (before-spent a.ticketed a.area (sym c.is_spent.ensures ∙ c.if-is_spent.true))

pub returns-in-Ok : goal.returns-in-Ok
returns-in-Ok c =
    let a = c.args in
    sym (before-done a.ticketed a.area (sym c.is_spent.ensures ∙ c.if-is_spent.false) (eq-eqb _ _ (sym c.in-Ok.ensures)))

pub returns-in-Err : goal.returns-in-Err
returns-in-Err c =
    let a = c.args in
    let f = c.in-Err.ensures in
    ap Refused f
    ∙ sym (before-refused a.ticketed a.area (sym c.is_spent.ensures ∙ c.if-is_spent.false) (ne_eqb _ _ (λ z. number-not-0 _ (f ∙ z))))
