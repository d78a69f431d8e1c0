-- `asking::commit` meets its contract. Assumes nothing.
use Rattle.std.proofs.Common.{◌≡◌, sym, ap, ◌∙◌}
use Rattle.std.proofs.lemmas.Result.{IfOk-at_ok}
use Rattle.lists.proofs.Choice.{pick_true, pick-false}
use Rattle.refusal.specs.Numbers.{number}
use Rattle.scram.specs.Answers.{Done, Refused, answered_of}
use Rattle.records.specs.Reading.{is_done}
use Rattle.asks.specs.Asking.{commit_answer, committed}
use Rattle.asks.proofs.CommitLaws.{commit-refuses}
use Rattle.script.specs.Boxes.{with_ticketed}
use Rattle.script.proofs.AskLaws.{commits-done}
use Rattle.script.proofs.asking.commit.Goals as goal

pub returns-in-Ok : goal.returns-in-Ok
returns-in-Ok c =
    let a = c.args in
    let b = a.kept in
    let one = c.commit.ensures in
    let done : Done ≡ commit_answer b.ticketed a.ticket = ap answered_of (sym c.in-Ok.is) ∙ one.answer in
    let commits = sym (commits-done b a.ticket) ∙ ap is_done (sym done) in
    let same = IfOk-at_ok (λ x. x ≡ committed b.ticketed a.ticket) c.in-Ok.is one.ticketed in
    record { answer = done; gave = sym (pick_true _ _ _ commits); kept = c.with_ticketed.ensures ∙ ap (with_ticketed b) same }

pub returns-in-Err : goal.returns-in-Err
returns-in-Err c =
    let a = c.args in
    let b = a.kept in
    let refused : Refused (number c.in-Err.refusal) ≡ commit_answer b.ticketed a.ticket = ap answered_of (sym c.in-Err.is) ∙ c.commit.ensures.answer in
    let commits = sym (commits-done b a.ticket) ∙ ap is_done (sym refused) in
    let q = c.quiet.ensures in
    record {
      answer = q.answer ∙ refused;
      gave = q.gave ∙ sym (pick-false _ _ _ commits);
      kept = q.kept ∙ ap (with_ticketed b) (commit-refuses b.ticketed a.ticket commits).1;
    }
