-- `send` meets its contract. Assumes nothing.
use Rattle.std.proofs.Common.{ap, ◌∙◌, ℕ, List, length}
use Rattle.std.proofs.lemmas.Result.{IfOk-at_ok}
use Rattle.readings.specs.declared.Readings.{Readings}
use Rattle.octets.specs.Areas.{over}
use Rattle.refusal.proofs.Numbers.{ok-at_zero}
use Rattle.frame.specs.declared.Frame.{Frame}
use Rattle.frame.specs.Writing.{write_refusal, written}
use Rattle.replica.proofs.Written.{frame_taken, frame_is}
use Rattle.replica.proofs.output.send.Goals as goal

-- a frame with these readings
abbrev with : Frame → Readings → Frame
with f y = record {
  kind = f.kind;
  sender = f.sender;
  period = f.period;
  view = f.view;
  base_view = f.base_view;
  base_period = f.base_period;
  estimate = record { state = f.estimate.state; readings = y };
}

pub unwrap-requires : goal.unwrap-requires
unwrap-requires c =
    let a = c.args in
    ok-at_zero _
    (c.write.ensures.answer
    ∙ ap (λ (y : Readings). write_refusal a.n a.m (with a.f y) a.area.now) c.normalise-readings.ensures
    ∙ frame_taken a.n a.m a.f a.area.now c.requires.0 c.requires.1 c.requires.2)

pub returns : goal.returns
returns c =
    let a = c.args in
    let w = c.write.ensures in
    let is = ap (λ (y : Readings). written a.n a.m (with a.f y) a.area.now) c.normalise-readings.ensures
    ∙ frame_is a.n a.m a.f a.area.now c.requires.0 c.requires.1 c.requires.2 in
    (IfOk-at_ok _ c.unwrap.ensures w.count ∙ ap length is, w.bytes ∙ ap (λ (b : List ℕ). over b a.area.now) is)
