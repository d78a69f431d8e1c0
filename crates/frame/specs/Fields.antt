-- The fields of a frame: what their types say of them, and which of them a frame's bytes carry.
use Rattle.std.specs.Prelude.{ℕ, ◌<◌, ◌^◌}
use Rattle.lists.specs.Choice.{pick}
use Rattle.estimate.specs.declared.Estimate.{Estimate}
use Rattle.estimate.specs.Fields.{TypedEstimate, no_estimate, carried_estimate}
use Rattle.frame.specs.Kinds.{has_parts}
use Rattle.frame.specs.declared.Frame.{Frame}

-- what the types of a frame's fields say
pub record Typed (f : Frame) : Type 0 where
  pub kind : f.kind < 256
  pub sender : f.sender < 256
  pub period : f.period < 2 ^ 32
  pub view : f.view < 2 ^ 32
  pub base-view : f.base_view < 2 ^ 32
  pub base-period : f.base_period < 2 ^ 32
  pub estimate : TypedEstimate f.estimate

-- what stands for the frame of a refused call, which gives none
abbrev pub blank : Frame
blank = record { kind = 0; sender = 0; period = 0; view = 0; base_view = 0; base_period = 0; estimate = no_estimate }

-- a frame's header fields, with an estimate
abbrev pub with_estimate : Frame → Estimate → Frame
with_estimate f e =
    record {
      kind = f.kind;
      sender = f.sender;
      period = f.period;
      view = f.view;
      base_view = f.base_view;
      base_period = f.base_period;
      estimate = e;
    }

-- what the bytes of a frame carry of it: n states and m readings, nothing where the kind has no parts
unfoldable pub carried : ℕ → ℕ → Frame → Frame
carried n m f = with_estimate f (pick (has_parts f.kind) (carried_estimate n m f.estimate) no_estimate)
