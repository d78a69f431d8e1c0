-- `printing::put_byte` meets its contract. Assumes nothing.
use Rattle.text.proofs.PrintingLaws.{put-room, put_full}
use Rattle.text.proofs.printing.put_byte.Goals as goal

pub returns-then-at-text : goal.returns-then-at-text
returns-then-at-text c = put-room _ _ _ c.if-at-text.true

pub returns : goal.returns
returns c = put_full _ _ _ c.if-at-text.false
