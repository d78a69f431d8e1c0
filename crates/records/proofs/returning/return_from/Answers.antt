-- `returning::return_from` meets its contract. Assumes nothing.
use Rattle.std.proofs.Common.{◌≡◌, sym, ap, ◌∙◌, false, rules}
use Rattle.refusal.specs.Numbers.{number}
use Rattle.scram.specs.Answers.{Refused, answered_of}
use Rattle.records.specs.Reading.{is_done, is_record}
use Rattle.records.proofs.IsRecord.{read-refused, read_done, read-is-done}
use Rattle.records.proofs.ReturningLaws.{return-15, returns-up}
use Rattle.records.proofs.returning.return_from.Goals as goal

pub returns-in_err-replica-clause-answer : goal.returns-in_err-replica-clause-answer
returns-in_err-replica-clause-answer c =
    let b = c.args.bytes.now in
    let a : answered_of c.from_residual.result ≡ Refused (number c.in_err-replica.field-0.0) = search rules in
    let e = c.in_err-replica.ensures.answer in
    let no : is_record b ≡ false = sym (read-is-done b) ∙ ap is_done (sym e) in
    a ∙ e ∙ (read-refused b no).0 ∙ sym (return-15 c.args.missed b no).0

pub returns : goal.returns
returns c =
    let b = c.args.bytes.now in
    let f = c.in_ok-replica.ensures in
    let known = sym (read-is-done b) ∙ ap is_done (sym f.answer) in
    let r = returns-up c.args.missed b c.in_ok-replica.replica known (f.replica ∙ (read_done b known).1) c.stay_up.result
    c.stay_up.ensures.answer c.stay_up.ensures.replica in
    record { answer = r.0; replica = r.1 }
