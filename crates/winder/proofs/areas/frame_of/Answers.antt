-- `frame_of` meets its contract. Assumes nothing.
use Rattle.winder.proofs.areas.frame_of.Goals as goal

pub returns : goal.returns
returns c = rw c.readings_of.ensures
