-- `ticketed::making::with_tickets` meets its contract. Assumes nothing.
use Rattle.std.proofs.Common.{◌≡◌, sym, ap, ◌∙◌, false, true, arith, rules}
use borrow.Author.Tests.{lt-ltb, le-ltb}
use Rattle.refusal.specs.Numbers.{number}
use Rattle.scram.specs.Answers.{Refused, answered_of}
use Rattle.records.specs.Reading.{is_done, is_record}
use Rattle.records.proofs.IsRecord.{read-refused, read-is-done}
use Rattle.ticketed.proofs.MakeLaws.{tickets-15, tickets-5, tickets-done}
use Rattle.ticketed.proofs.Judged.{record-length}
use Rattle.ticketed.proofs.making.with_tickets.Goals as goal

pub returns-in_err-read : goal.returns-in_err-read
returns-in_err-read c =
    let b = c.args.stored.now in
    let e = c.in_err-read.ensures.answer in
    let a : answered_of c.from_residual.result ≡ Refused (number c.in_err-read.field-0.0) = search rules in
    let no : is_record b ≡ false = sym (read-is-done b) ∙ ap is_done (sym e) in
    let d = tickets-15 b c.args.area.now no in
    record { answer = a ∙ e ∙ (read-refused b no).0 ∙ d.0; area = d.1 }

pub returns-then-area-lt-TICKETED : goal.returns-then-area-lt-TICKETED
returns-then-area-lt-TICKETED c =
    let b = c.args.stored.now in
    let known : is_record b ≡ true = sym (read-is-done b) ∙ ap is_done (sym c.in_ok-read.ensures.answer) in
    let d = tickets-5 b c.args.area.now known (lt-ltb _ _ c.if-area-lt-TICKETED.true) in
    record { answer = d.0; area = d.1 }

pub copy-requires : goal.copy-requires
copy-requires c =
    let b = c.args.stored.now in
    let known : is_record b ≡ true = sym (read-is-done b) ∙ ap is_done (sym c.in_ok-read.ensures.answer) in
    (record-length _ known, omega (arith, c.if-area-lt-TICKETED.false))

pub returns : goal.returns
returns c =
    let b = c.args.stored.now in
    let known : is_record b ≡ true = sym (read-is-done b) ∙ ap is_done (sym c.in_ok-read.ensures.answer) in
    let d = tickets-done b c.args.area.now known _ _ (record-length _ known) (le-ltb _ _ c.if-area-lt-TICKETED.false)
    c.copy.ensures c.put_fresh.ensures in
    record { answer = d.0; area = d.1 }
