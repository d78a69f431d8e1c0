-- `numbers::spell` meets its contract. Assumes nothing.
use Rattle.std.proofs.Common.{sym, ◌∙◌, arith}
use Rattle.text.proofs.NumberLaws.{spelled-stops, spelled-more, spelled-ends}
use Rattle.text.proofs.numbers.spell.Goals as goal

pub returns-in_err-n : goal.returns-in_err-n
returns-in_err-n c =
    let l = c.loop-b in
    c.from_residual.ensures ∙ sym (l.invariant ∙ spelled-stops _ _ _ l.b-index (omega arith) (sym c.with_digit.ensures ∙ c.in_err-n.was))

pub loop-b-preserved : goal.loop-b-preserved
loop-b-preserved c =
    let l = c.loop-b in
    l.invariant ∙ spelled-more _ _ _ l.b-index _ (omega arith) (sym c.with_digit.ensures ∙ c.in_ok-n.was)

pub returns : goal.returns
returns c = let l = c.loop-b in sym (l.invariant ∙ spelled-ends _ _ _ l.b-index (omega arith))
