-- `printing::put_list` meets its contract. Assumes nothing.
use Rattle.std.proofs.Common.{rules, ap, arith}
use Rattle.std.proofs.Common.{w32, FitsSigned}
use Rattle.std.proofs.lemmas.Int.{to_z-of_z}
use Rattle.lists.specs.Places.{entry}
use Rattle.lists.proofs.Parts.{to_the_end}
use Rattle.text.specs.Printing.{after_commas}
use Rattle.text.proofs.PrintingLaws.{then-puts, puts-same, put-nothing, listed-none, listed-some}
use Rattle.text.proofs.printing.put_list.Goals as goal

pub returns-in-empty : goal.returns-in-empty
returns-in-empty c = puts-same (listed-none c.args.values.now (omega arith)) (put-nothing _ _ _ c.min.ensures)

pub returns-in-len1-up : goal.returns-in-len1-up
returns-in-len1-up c =
    let values = c.args.values.now in
    let fits : FitsSigned w32 (entry values 0) = record { sfits = search rules } in
    puts-same (listed-some values (omega arith))
    (then-puts (rw (to_z-of_z w32 (entry values 0) fits) at c.put_signed-at.ensures)
    (puts-same (ap after_commas (to_the_end values 1)) c.put_after_commas.ensures))
