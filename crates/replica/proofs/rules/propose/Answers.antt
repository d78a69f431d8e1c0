-- `propose` meets its contract. Assumes nothing.
use Rattle.std.proofs.Common.{refl}
use Rattle.lists.specs.Choice.{pick}
use Rattle.scram.specs.declared.Kind.TheVariants as Kind
use Rattle.replica.proofs.Written.{kind_ok-number}
use Rattle.replica.proofs.rules.propose.Goals as goal

pub send-length-requires : goal.send-length-requires
send-length-requires c = (c.requires.0.sizes, kind_ok-number Kind.Propose, c.requires.1)

pub returns : goal.returns
unfolding pick
returns c =
    λ law. record {
      answer = refl;
      held = c.proposing-next.ensures law;
      frame-length = c.send-length.ensures.0;
      frame-bytes = c.send-length.ensures.1;
      command = refl;
    }
