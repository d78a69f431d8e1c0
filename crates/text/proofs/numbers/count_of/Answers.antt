-- `numbers::count_of` meets its contract. Assumes nothing.
use Rattle.std.proofs.Common.{◌∙◌}
use Rattle.std.proofs.Common.{FitsSigned, w32}
use Rattle.std.proofs.lemmas.Int.{to_z-of_z}
use Rattle.text.proofs.NumberLaws.{counted-from}
use Rattle.text.proofs.numbers.count_of.Goals as goal

pub returns : goal.returns
returns c =
    let s : FitsSigned w32 c.unwrap_or.result = record { sfits = c.unwrap_or.type_inv } in
    c.unwrap_or-2.ensures
    ∙ counted-from c.args.n c.try_from.result (rw (to_z-of_z w32 c.unwrap_or.result s, c.unwrap_or.ensures) at c.try_from.ensures) (rw c.unwrap_or.ensures at s)
