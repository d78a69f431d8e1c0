-- `proposing` meets its contract. Assumes nothing.
use Rattle.replica.proofs.moves.proposing.Goals as goal

pub returns : goal.returns
returns c = λ law. rw (c.adopting.ensures law, c.only-acknowledged.ensures)
