-- `ticketed::reading::step_record` meets its contract: the two parts are copied one after the other. Assumes nothing.
use Rattle.ticketed.proofs.Judged.{step-copied}
use Rattle.ticketed.proofs.reading.step_record.Goals as goal

pub returns : goal.returns
returns c =
    step-copied c.args.area.now _ _ c.requires c.copy.ensures c.copy-2.ensures
