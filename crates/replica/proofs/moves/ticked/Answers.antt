-- `ticked` meets its contract. Assumes nothing.
use Rattle.replica.proofs.moves.ticked.Goals as goal

pub returns : goal.returns
returns c =
    λ law e.
    rw (c.next_estimate.ensures law e, c.normalise-taken.ensures, c.no_best.ensures law)
