-- `receive_propose` meets its contract. Assumes nothing.
use Rattle.std.proofs.Common.{refl, ap, ◌∙◌, List, ℕ, length}
use Rattle.lists.specs.Choice.{pick}
use Rattle.octets.specs.Areas.{over}
use Rattle.estimate.specs.declared.Estimate.{Estimate}
use Rattle.frame.specs.Kinds as Kinds
use Rattle.frame.specs.Format.{frame_bytes}
use Rattle.scram.specs.declared.Kind.TheVariants as Kind
use Rattle.scram.specs.Events.{receive}
use Rattle.replica.specs.declared.Member.{Member}
use Rattle.replica.specs.Frames.{as_carried}
use Rattle.replica.proofs.Written.{kind_ok-number}
use Rattle.replica.proofs.arrivals.receive_propose.Goals as goal

-- the bytes of the Ack that goes back, with this estimate
abbrev ack : Member → ℕ → ℕ → Estimate → List ℕ
ack member period view e = frame_bytes member.n member.m (as_carried member.m (record {
  kind = (Kinds.ack).number;
  sender = member.own;
  period = period;
  view = view;
  base_view = 0;
  base_period = 0;
  estimate = e;
}))

pub send-length-requires : goal.send-length-requires
send-length-requires c = (c.requires.0.sizes, kind_ok-number Kind.Ack, c.requires.1)

pub returns : goal.returns
unfolding receive pick
returns c =
    λ law.
    let e = c.no_estimate.ensures in
    let bytes = ack c.args.member c.args.held.period c.args.f.view in record {
      answer = refl;
      held = c.adopting-next.ensures law;
      frame-length = c.send-length.ensures.0 ∙ ap (λ y. length (bytes y)) e;
      frame-bytes = c.send-length.ensures.1 ∙ ap (λ y. over (bytes y) c.args.frame.now) e;
      command = refl;
    }
