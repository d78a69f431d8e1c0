-- `boxes::come_back` meets its contract. Assumes nothing.
use Rattle.std.proofs.Common.{◌≡◌, sym, ap, ◌∙◌}
use Rattle.std.proofs.lemmas.Result.{IfOk-at_ok}
use Rattle.lists.specs.Choice.{pick}
use Rattle.refusal.specs.Numbers.{number}
use Rattle.scram.specs.Answers.{Done, Refused, answered_of}
use Rattle.records.specs.Returning.{stay_answer, stayed}
use Rattle.script.specs.Play.{returned_as, back_from}
use Rattle.script.proofs.boxes.come_back.Goals as goal

pub returns-in-Ok : goal.returns-in-Ok
unfolding back_from pick
returns-in-Ok c =
    let a = c.args in
    let b = a.kept in
    let up = c.stay_up.ensures in
    let done : Done ≡ stay_answer a.missed b.recorded = ap answered_of (sym c.in-Ok.is) ∙ up.answer in
    let same = IfOk-at_ok (λ r. r ≡ stayed a.missed b.recorded) c.in-Ok.is up.replica in
    let q = c.quiet.ensures in
    record { answer = q.answer ∙ done; kept = q.kept ∙ c.returned.ensures ∙ rw (sym done) (ap (returned_as b) same); gave = q.gave }

pub returns-in-Err : goal.returns-in-Err
unfolding back_from pick
returns-in-Err c =
    let a = c.args in
    let refused : Refused (number c.in-Err.refusal) ≡ stay_answer a.missed a.kept.recorded = ap answered_of (sym c.in-Err.is) ∙ c.stay_up.ensures.answer in
    let q = c.quiet-in-Err.ensures in
    record { answer = q.answer ∙ refused; kept = q.kept ∙ rw (sym refused); gave = q.gave }
