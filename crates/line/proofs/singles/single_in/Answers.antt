-- `singles::single_in` meets its contract. Assumes nothing.
use Rattle.std.proofs.Common.{sym, ap, ◌∙◌}
use Rattle.lists.proofs.Parts.{to_the_end}
use Rattle.transmitters.specs.declared.Reading.TheVariants.{Newtons}
use Rattle.line.proofs.SingleLaws.{not_nine, not_f, single-given, single-missing}
use Rattle.line.proofs.singles.single_in.Goals.{then-word-ne-SINGLE-via-then-word-ne-SINGLE, then-word-ne-SINGLE-via-else-word-ne-SINGLE+then-word-ne102}
use Rattle.line.proofs.singles.single_in.Goals as goal

pub returns-then-word-ne-SINGLE : goal.returns-then-word-ne-SINGLE
returns-then-word-ne-SINGLE c =
    sym (elim c.then-word-ne-SINGLE.branch [
      | then-word-ne-SINGLE-via-then-word-ne-SINGLE w ↦ not_nine c.args.word.now w.if-word-ne-SINGLE.true
      | then-word-ne-SINGLE-via-else-word-ne-SINGLE+then-word-ne102 w ↦ not_f c.args.word.now w.if-word-ne102.true
    ])

pub returns-in-Some : goal.returns-in-Some
returns-in-Some c =
    let word = c.args.word.now in
    let e = sym (rw (to_the_end word 1) at c.bits_in.ensures) ∙ c.in-Some.is in
    ap Newtons c.single_of.ensures ∙ single-given word _ c.if-word-ne-SINGLE.false c.if-word-ne102.false e

pub returns-in-None : goal.returns-in-None
returns-in-None c =
    let word = c.args.word.now in
    let e = sym (rw (to_the_end word 1) at c.bits_in.ensures) ∙ c.in-None.is in
    single-missing word c.if-word-ne-SINGLE.false c.if-word-ne102.false e
