-- `receive_decide` meets its contract. Assumes nothing.
use Rattle.std.proofs.Common.{refl}
use Rattle.lists.specs.Choice.{pick}
use Rattle.scram.specs.Events.{receive}
use Rattle.replica.proofs.arrivals.receive_decide.Goals as goal

pub returns : goal.returns
unfolding receive pick
returns c =
    λ law member. record {
      answer = refl;
      held = c.adopting-next.ensures law;
      frame-length = refl;
      frame-bytes = refl;
      command = rw (c.adopting-next.ensures law) refl;
    }
