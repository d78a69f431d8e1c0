-- `printing::put_word` meets its contract. Assumes nothing.
use Rattle.std.proofs.Common.{arith, ◌<◌, length}
use Rattle.std.proofs.Common.{add-one}
use lib.Seq.{take-suc}
use Rattle.text.proofs.PrintingLaws.{then-puts, put-nothing}
use Rattle.text.proofs.printing.put_word.Goals as goal

pub loop-b-init : goal.loop-b-init
loop-b-init c = put-nothing _ _ _ c.min-end.ensures

pub loop-b-preserved : goal.loop-b-preserved
loop-b-preserved c =
    let l = c.loop-b in
    let h : l.b-index < length c.args.word.now = omega arith in
    rw (add-one, take-suc c.args.word.now l.b-index 0 h) (then-puts l.invariant c.put_byte-end.ensures)
