-- `winder_record` meets its contract. Assumes nothing.
use Rattle.std.proofs.Common.{◌≡◌, sym, ap, ◌∙◌, true, false, ℕ, List, length, arith, rules}
use borrow.Author.Tests.{lt-ltb, le-ltb}
use Rattle.octets.specs.Words.{AllBytes}
use Rattle.octets.specs.Areas.{over}
use Rattle.records.specs.Reading.{is_done, is_record}
use Rattle.records.proofs.IsRecord.{read-refused, read-is-done}
use Rattle.winder.specs.Answers.{number_of}
use Rattle.winder.proofs.Recordings.{recording-15, recording-5, recording-done}
use Rattle.winder.proofs.Stepped.{record-length}
use Rattle.winder.proofs.record_calls.winder_record.Goals as goal

pub returns-in-Err : goal.returns-in-Err
returns-in-Err c =
    let a = c.args in
    let b = a.replica.now in
    let e = c.in-Err.ensures.answer in
    let no : is_record b ≡ false = sym (read-is-done b) ∙ ap is_done (sym e) in
    let m = recording-15 b (length a.area.now) no in
    record {
      answer = c.refusal_number.ensures ∙ ap number_of (e ∙ (read-refused b no).0) ∙ sym m.0;
      area = ap (λ (w : List ℕ). over w a.area.now) (sym m.1);
    }

pub returns-then-area-lt-RECORD : goal.returns-then-area-lt-RECORD
returns-then-area-lt-RECORD c =
    let a = c.args in
    let known : is_record a.replica.now ≡ true = sym (read-is-done a.replica.now) ∙ ap is_done (sym c.in_default.ensures.answer) in
    let m = recording-5 a.replica.now (length a.area.now) known (lt-ltb _ _ c.if-area-lt-RECORD.true) in
    record { answer = c.refusal_number-then-area-lt-RECORD.ensures ∙ sym m.0; area = ap (λ (w : List ℕ). over w a.area.now) (sym m.1) }

pub copy-requires : goal.copy-requires
copy-requires c =
    let a = c.args in
    let known : is_record a.replica.now ≡ true = sym (read-is-done a.replica.now) ∙ ap is_done (sym c.in_default.ensures.answer) in
    (record-length _ known, omega (arith, c.if-area-lt-RECORD.false))

pub returns : goal.returns
unfolding AllBytes
returns c =
    let a = c.args in
    let known : is_record a.replica.now ≡ true = sym (read-is-done a.replica.now) ∙ ap is_done (sym c.in_default.ensures.answer) in
    let bytes : AllBytes a.replica.now = search rules in
    let m = recording-done a.replica.now (length a.area.now) known bytes (le-ltb _ _ c.if-area-lt-RECORD.false) in
    record { answer = sym m.0; area = c.copy.ensures ∙ ap (λ (w : List ℕ). over w a.area.now) (sym m.1) }
