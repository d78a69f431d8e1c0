-- `adopting` meets its contract. Assumes nothing.
use Rattle.replica.proofs.moves.adopting.Goals as goal

pub returns : goal.returns
returns c = λ law. rw (c.no_best.ensures law)
