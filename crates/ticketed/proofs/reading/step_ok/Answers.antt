-- `ticketed::reading::step_ok` meets its contract. Assumes nothing.
use mathlib.Core.Path.{sym, ap, ◌∙◌}
use mathlib.Core.List.{List}
use Prim.Native.Nat.{ℕ}
use lib.Dec.{eqb}
use borrow.Author.Tests.{eq-eqb, ne_eqb}
use Rattle.records.specs.Reading.{is_done, read_answer}
use Rattle.records.proofs.Results.{done-ok}
use Rattle.records.proofs.IsRecord.{read-is-done}
use Rattle.ticketed.specs.TicketsPart.{tickets_at}
use Rattle.ticketed.specs.Reading.{step_record}
use Rattle.ticketed.proofs.Judged.{none-waits, zero-waits, step-judged}
use Rattle.ticketed.proofs.reading.step_ok.Goals as goal

pub returns-then-area-ne1 : goal.returns-then-area-ne1
unfolding tickets_at
returns-then-area-ne1 c = none-waits c.args.area.now (ne_eqb _ _ c.if-area-ne1.true)

pub returns-then-u64_at-eq0 : goal.returns-then-u64_at-eq0
unfolding tickets_at
returns-then-u64_at-eq0 c =
    zero-waits c.args.area.now (eq-eqb _ _ c.if-area-ne1.false)
    (ap (λ (x : ℕ). eqb x 0) (sym c.u64_at.ensures) ∙ eq-eqb _ _ c.if-u64_at-eq0.true)

pub returns : goal.returns
unfolding tickets_at
returns c =
    let b = c.args.area.now in
    c.is_ok.ensures.value
    ∙ sym (done-ok c.read.result)
    ∙ ap is_done c.read.ensures.answer
    ∙ ap (λ (l : List ℕ). is_done (read_answer l)) c.step_record-bytes.ensures
    ∙ read-is-done (step_record b)
    ∙ step-judged b (eq-eqb _ _ c.if-area-ne1.false) (ap (λ (x : ℕ). eqb x 0) (sym c.u64_at.ensures) ∙ ne_eqb _ _ c.if-u64_at-eq0.false)
