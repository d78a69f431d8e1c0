-- `events::row_in` meets its contract. Assumes nothing.
use Rattle.std.proofs.Common.{sym, ap, ◌∙◌, arith, ◌≡◌, ◌+◌, length, List, ℕ, Some}
use Rattle.std.proofs.Common.{Bool, ◌||◌, eqb, set}
use lib.Seq.{set_out}
use Rattle.lists.specs.Choice.{pick}
use Rattle.transmitters.specs.declared.Reading.{Reading}
use Rattle.line.specs.Events.{letter_of, reading_in, is_given, is_reading, row_of}
use Rattle.line.proofs.RowLaws.{row-none, row-length, readings-none, row_more, readings-more, not_all}
use Rattle.line.proofs.events.row_in.Goals.{then-j-lt4, else-j-lt4}
use Rattle.line.proofs.events.row_in.Goals as goal

pub loop-j-init : goal.loop-j-init
loop-j-init c = record { readings = row-none _ _; all = readings-none _ _ }

same : (of_rig : Bool) (word word' : List ℕ) (r : Reading) → word ≡ word' → r ≡ reading_in of_rig word
    → (is_given r || eqb (letter_of word) 45) ≡ is_reading of_rig word'
unfolding is_reading
same of_rig word word' r e f = rw (f, e)

pub returns-then-not-is_reading : goal.returns-then-not-is_reading
unfolding pick
returns-then-not-is_reading c =
    let a = c.args in
    let e = sym (same a.of_rig _ _ _ c.field-word.ensures c.reading_in-reading.ensures) ∙ sym c.is_reading.ensures ∙ c.if-not-is_reading.true in
    rw (not_all a.of_rig a.line.now a.m c.loop-j.j c.loop-j-test.true e)

pub loop-j-preserved : goal.loop-j-preserved
loop-j-preserved c =
    let a = c.args in
    let l = c.loop-j in
    let four : length l.row ≡ 4 = row-length a.of_rig a.line.now l.row l.j l.invariant.readings in
    let r = c.reading_in-reading.ensures ∙ ap (reading_in a.of_rig) c.field-word.ensures in
    let e = sym (same a.of_rig _ _ _ c.field-word.ensures c.reading_in-reading.ensures) ∙ sym c.is_reading.ensures ∙ c.if-not-is_reading.false in
    let put : set l.row l.j c.reading_in-reading.result ≡ row_of a.of_rig (l.j + 1) a.line.now =
    ap (set l.row l.j) r ∙ row_more a.of_rig a.line.now l.row l.j l.invariant.readings in
    record {
      readings = elim c.if-j-lt4.branch [
        | then-j-lt4 w ↦ w.row-is ∙ put
        | else-j-lt4 w ↦ w.row-is ∙ sym (set_out l.row l.j c.reading_in-reading.result (omega (arith, four, w.if-j-lt4.false))) ∙ put
      ];
      all = readings-more a.of_rig a.line.now l.j l.invariant.all e;
    }

pub returns : goal.returns
unfolding pick
returns c =
    let l = c.loop-j in
    let e : l.j ≡ c.args.m = omega arith in
    rw (sym (rw e at l.invariant.all)) (ap Some (rw e at l.invariant.readings))
