-- `records::conditions::marks_at` meets its contract. Assumes nothing.
use mathlib.Core.Path.{sym, ◌∙◌}
use Prim.Native.Nat.{◌+◌}
use lib.ListN.{get_or}
use Rattle.records.proofs.Joined.{below_two, all_same}
use Rattle.records.proofs.conditions.marks_at.Goals as goal

pub returns : goal.returns
returns c =
    let s = c.args in
    sym (below_two c.joined.result) ∙ c.joined.ensures 1 ∙ all_same s.count _ _ (λ i. below_two (get_or s.bytes.now (s.at + i) 0))
