-- `fresh` meets its contract. Assumes nothing.
use Rattle.replica.proofs.moves.fresh.Goals as goal

pub returns : goal.returns
returns c =
    let law = c.args.settings.law in
    rw (c.first_values.ensures, c.no_readings.ensures, c.no_best.ensures law)
