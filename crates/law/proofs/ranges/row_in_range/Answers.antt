-- `law::ranges::row_in_range` meets its contract. Assumes nothing.
use Rattle.std.proofs.Common.{◌≡◌, ◌+◌, ◌∙◌, rules, tests}
use Rattle.std.specs.List.{list_all, slice_range}
use Rattle.std.proofs.lemmas.Iterator.{YieldsList-from_slice}
use Rattle.std.proofs.lemmas.Iterator.Search.{all_from_yields_List}
use Rattle.law.specs.Settings.{in_range}
use Rattle.law.proofs.Listed.{all-listed}
use Rattle.law.proofs.ranges.row_in_range.Goals as goal

pub returns : goal.returns
returns c =
    let x = c.args in
    let part = slice_range x.table.now x.at (x.at + x.n) in
    let listed : c.all.result ≡ list_all in_range part =
    all_from_yields_List in_range _ _ c.all.result c.all.ensures.ran (YieldsList-from_slice part cc) (λ z b q k. search (rules, tests)) in
    listed ∙ all-listed in_range x.table.now x.at x.n c.requires
