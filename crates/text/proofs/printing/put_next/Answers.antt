-- `printing::put_next` meets its contract. Assumes nothing.
use mir.Syntax.{w32}
use mir.ValLaws.{to_z-of_z}
use Rattle.text.proofs.PrintingLaws.{then-puts}
use Rattle.text.proofs.printing.put_next.Goals as goal

pub returns : goal.returns
returns c =
    let back = to_z-of_z w32 c.args.z
    c.ranges.z in
    then-puts c.put_byte-at.ensures (rw back at c.put_signed.ensures)
