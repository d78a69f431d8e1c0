-- `records::conditions::zero_at` meets its contract. Assumes nothing.
use mathlib.Core.Path.{sym, ◌∙◌}
use Prim.Native.Nat.{◌+◌}
use lib.ListN.{get_or}
use Rattle.records.specs.Reading.{zero_at}
use Rattle.records.proofs.Joined.{below_one, all_same}
use Rattle.records.proofs.conditions.zero_at.Goals as goal

pub returns : goal.returns
unfolding zero_at
returns c =
    let s = c.args in
    sym (below_one c.joined.result) ∙ c.joined.ensures 0 ∙ all_same s.count _ _ (λ i. below_one (get_or s.bytes.now (s.at + i) 0))
