-- `ticketed::committing::make_step` meets its contract. Assumes nothing.
use Rattle.ticketed.proofs.CommitLaws.{step-made}
use Rattle.ticketed.proofs.committing.make_step.Goals as goal

pub returns : goal.returns
returns c =
    step-made c.args.area.now _ _ _ c.requires c.copy.ensures c.copy-2.ensures c.put_bytes.ensures
