-- `columns::put_spaces` meets its contract. The loop's invariant: so many spaces were put. Assumes nothing.
use mathlib.Core.Path.{◌≡◌}
use lib.ListN.{replicate-append-replicate}
use native.Mathlib.Omega.{arith}
use Rattle.text.proofs.PrintingLaws.{then-puts, put-nothing, puts-same}
use Rattle.pages.proofs.columns.put_spaces.Goals as goal

pub loop-init : goal.loop-init
loop-init c = put-nothing _ _ _ c.min-end.ensures

pub loop-preserved : goal.loop-preserved
loop-preserved c =
    let l = c.loop in
    puts-same (replicate-append-replicate l.counter 1 32) (then-puts l.invariant c.put_byte-end.ensures)

pub returns : goal.returns
returns c =
    let l = c.loop in
    let e : l.counter ≡ c.args.n = omega arith in
    rw e at l.invariant
