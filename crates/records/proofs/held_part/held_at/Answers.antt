-- `records::held_part::held_at` meets its contract: each field is read at its offset. Assumes nothing.
use Rattle.records.specs.HeldPart.{held_at}
use Rattle.records.proofs.held_part.held_at.Goals as goal

pub returns : goal.returns
unfolding held_at
returns c =
    λ i. record {
      period = c.u32_at.ensures i;
      view = c.u32_at-2.ensures i;
      base_view = c.u32_at-3.ensures i;
      view_change = c.mark_at.ensures i;
      decided = c.mark_at-2.ensures i;
      estimate = c.estimate_at-estimate.ensures i;
      base_period = c.u32_at-4.ensures i;
      heard = c.heard_at-heard.ensures i;
      best = c.best_at-best.ensures i;
    }
