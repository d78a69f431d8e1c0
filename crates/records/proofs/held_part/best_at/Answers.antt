-- `records::held_part::best_at` meets its contract: each field is read at its offset. Assumes nothing.
use Prim.Native.Nat.{◌+◌}
use lib.ListN.{get_or}
use Rattle.records.specs.HeldPart.{best_at}
use Rattle.records.proofs.held_part.best_at.Goals as goal

pub returns : goal.returns
unfolding best_at
returns c =
    let s = c.args in
    λ i. record {
      any = c.mark_at-any.ensures i;
      box_number = get_or s.bytes.now (s.at + 1) 0;
      base_view = c.u32_at.ensures i;
      base_period = c.u32_at-2.ensures i;
      estimate = c.estimate_at-estimate.ensures i;
    }
