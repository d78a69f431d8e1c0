-- `numbers::read_unsigned` meets its contract. Assumes nothing.
use Rattle.std.proofs.Common.{sym, ◌∙◌, arith}
use Rattle.lists.specs.Choice.{pick}
use Rattle.text.specs.Numbers.{unsigned}
use Rattle.text.proofs.NumberLaws.{spelled-within}
use Rattle.text.proofs.numbers.read_unsigned.Goals as goal

pub returns-then-well_begun-clause-number : goal.returns-then-well_begun-clause-number
unfolding unsigned pick
returns-then-well_begun-clause-number c = rw (sym c.well_begun.ensures ∙ c.if-well_begun.true) c.spell.ensures

pub returns-then-well_begun-clause-within : goal.returns-then-well_begun-clause-within
returns-then-well_begun-clause-within c = rw c.spell.ensures (spelled-within c.args.largest 0 c.args.digits.now (omega arith))

pub returns-clause-number : goal.returns-clause-number
unfolding unsigned pick
returns-clause-number c = rw (sym c.well_begun.ensures ∙ c.if-well_begun.false)
