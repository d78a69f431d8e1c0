-- `printing::put_after_commas` meets its contract. Assumes nothing.
use Rattle.std.proofs.Common.{rules, arith, ◌<◌, length}
use Rattle.std.proofs.Common.{w32, FitsSigned}
use Rattle.std.proofs.lemmas.Int.{to_z-of_z}
use Rattle.lists.specs.Places.{entry}
use Rattle.text.specs.Printing.{after_commas}
use Rattle.text.proofs.PrintingLaws.{then-puts, put-nothing, commas-more}
use Rattle.text.proofs.printing.put_after_commas.Goals as goal

pub loop-z-init : goal.loop-z-init
unfolding after_commas
loop-z-init c = put-nothing _ _ _ c.min-end.ensures

pub loop-z-preserved : goal.loop-z-preserved
loop-z-preserved c =
    let l = c.loop-z in
    let values = c.args.values.now in
    let h : l.z-index < length values = omega arith in
    let fits : FitsSigned w32 (entry values l.z-index) = record { sfits = search rules } in
    rw (commas-more values l.z-index h) (then-puts l.invariant (rw (to_z-of_z w32 (entry values l.z-index) fits) at c.put_next-end.ensures))
