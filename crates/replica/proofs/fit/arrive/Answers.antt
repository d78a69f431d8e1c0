-- `fit::arrive` meets its contract. Assumes nothing.
use Rattle.replica.proofs.Accepted.{accepted, fit}
use Rattle.replica.proofs.fit.arrive.Goals as goal

pub arrive_bytes-moved-requires : goal.arrive_bytes-moved-requires
arrive_bytes-moved-requires c = rw c.member.ensures (fit c.args.settings.now c.requires.0, c.requires.1)

pub issue-issued-requires : goal.issue-issued-requires
issue-issued-requires c = ((accepted c.args.settings.now c.requires.0).law, c.requires.2)
