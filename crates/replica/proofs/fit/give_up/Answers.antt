-- `fit::give_up` meets its contract. Assumes nothing.
use Rattle.replica.specs.Settings.{member_of}
use Rattle.replica.specs.Held.{held_in}
use Rattle.replica.proofs.Calls.{give-up-silent}
use Rattle.replica.proofs.Gives.{does-silent}
use Rattle.replica.proofs.fit.give_up.Goals as goal

pub returns : goal.returns
returns c =
    λ law p command.
    rw c.with_command.ensures
    (does-silent (rw c.member.ensures at (c.give_up_view-moved.ensures law))
    (give-up-silent law (member_of c.args.settings.now) (held_in c.args.held)).command command)
