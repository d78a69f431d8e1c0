-- `winder_return` meets its contract. Assumes nothing.
use Rattle.std.proofs.Common.{◌≡◌, sym, ap, ◌∙◌, true, false, ℕ, List, length}
use borrow.Author.Tests.{not-true, not-false, lt-ltb, le-ltb}
use Rattle.octets.specs.Areas.{over}
use Rattle.replica.specs.declared.Replica.{Replica}
use Rattle.records.specs.Recording.{record_answer, recorded}
use Rattle.records.specs.Reading.{is_done, is_record, replica_in}
use Rattle.records.specs.Returning.{stayed_up, misses_too_many}
use Rattle.records.proofs.IsRecord.{read-refused, read_done, read-is-done, record-stands}
use Rattle.records.proofs.ReturningLaws.{stays, stays-not, stay-done}
use Rattle.winder.specs.Answers.{number_of}
use Rattle.winder.proofs.Recordings.{returning-15, returning-5, returning-16, returning-done}
use Rattle.winder.proofs.record_calls.winder_return.Goals as goal

pub returns-in-Err : goal.returns-in-Err
returns-in-Err c =
    let a = c.args in
    let b = a.stored.now in
    let e = c.in-Err.ensures.answer in
    let no : is_record b ≡ false = sym (read-is-done b) ∙ ap is_done (sym e) in
    let m = returning-15 a.missed b (length a.replica.now) no in
    record {
      answer = c.refusal_number.ensures ∙ ap number_of (e ∙ (read-refused b no).0) ∙ sym m.0;
      replica = ap (λ (w : List ℕ). over w a.replica.now) (sym m.1);
    }

pub returns-then-replica-lt-RECORD : goal.returns-then-replica-lt-RECORD
returns-then-replica-lt-RECORD c =
    let a = c.args in
    let known : is_record a.stored.now ≡ true = sym (read-is-done a.stored.now) ∙ ap is_done (sym c.in-Ok.ensures.answer) in
    let m = returning-5 a.missed a.stored.now (length a.replica.now) known (lt-ltb _ _ c.if-replica-lt-RECORD.true) in
    record { answer = c.refusal_number-then-replica-lt-RECORD.ensures ∙ sym m.0; replica = ap (λ (w : List ℕ). over w a.replica.now) (sym m.1) }

pub returns-in-Err-stay_up : goal.returns-in-Err-stay_up
returns-in-Err-stay_up c =
    let a = c.args in
    let b = a.stored.now in
    let r = c.in-Ok.parsed in
    let known : is_record b ≡ true = sym (read-is-done b) ∙ ap is_done (sym c.in-Ok.ensures.answer) in
    let x : r ≡ replica_in b = c.in-Ok.ensures.replica ∙ (read_done b known).1 in
    let s = c.in-Err-stay_up.ensures.answer in
    let many : misses_too_many a.missed r ≡ true = not-false _ (sym (stay-done a.missed r) ∙ ap is_done (sym s)) in
    let m = returning-16 a.missed b (length a.replica.now) known (le-ltb _ _ c.if-replica-lt-RECORD.false) (ap (misses_too_many a.missed) (sym x) ∙ many) in
    record {
      answer = c.refusal_number-in-Err-stay_up.ensures ∙ ap number_of (s ∙ (stays-not a.missed r many).0) ∙ sym m.0;
      replica = ap (λ (w : List ℕ). over w a.replica.now) (sym m.1);
    }

pub returns-in-Ok-stay_up : goal.returns-in-Ok-stay_up
returns-in-Ok-stay_up c =
    let a = c.args in
    let b = a.stored.now in
    let r = c.in-Ok.parsed in
    let known : is_record b ≡ true = sym (read-is-done b) ∙ ap is_done (sym c.in-Ok.ensures.answer) in
    let x : r ≡ replica_in b = c.in-Ok.ensures.replica ∙ (read_done b known).1 in
    let s = c.in-Ok-stay_up.ensures in
    let few : misses_too_many a.missed r ≡ false = not-true _ (sym (stay-done a.missed r) ∙ ap is_done (sym s.answer)) in
    let m = returning-done a.missed b (length a.replica.now) known (le-ltb _ _ c.if-replica-lt-RECORD.false) (ap (misses_too_many a.missed) (sym x) ∙ few)
    (record-stands b known) in
    let u : c.in-Ok-stay_up.up ≡ stayed_up a.missed (replica_in b) = s.replica ∙ (stays a.missed r few).1 ∙ ap (stayed_up a.missed) x in
    let w = c.write.ensures in
    record {
      answer = c.result_number.ensures ∙ ap number_of (w.answer ∙ ap (λ (y : Replica). record_answer y.settings (length a.replica.now)) u) ∙ m.0;
      replica = w.area ∙ ap (λ (y : Replica). over (recorded y (length a.replica.now)) a.replica.now) u ∙ ap (λ (v : List ℕ). over v a.replica.now) m.1;
    }
