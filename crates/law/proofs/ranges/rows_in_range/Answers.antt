-- `law::ranges::rows_in_range` meets its contract. Assumes nothing.
use Rattle.std.proofs.Common.{◌≡◌, ◌∙◌, refl, arith, rules, tests}
use Rattle.std.specs.List.{list_all, range_with_len}
use Rattle.std.proofs.lemmas.Iterator.{YieldsList-from_range}
use Rattle.std.proofs.lemmas.Iterator.Search.{all_from_yields_List}
use Rattle.lists.specs.Below.{all_below}
use Rattle.law.specs.Settings.{cell, in_range, table_in_range}
use Rattle.law.proofs.Listed.{all-counted}
use Rattle.law.proofs.ranges.rows_in_range.Goals as goal

pub returns : goal.returns
unfolding table_in_range
returns c =
    let x = c.args in
    let counted : c.all.result ≡ list_all (λ i. all_below x.columns (λ j. in_range (cell x.table.now x.stride i j))) (range_with_len 0 x.rows) =
    all_from_yields_List _ _ _ c.all.result c.all.ensures.ran (YieldsList-from_range 0 x.rows x.rows refl (omega arith)) (λ i b q k. search (rules, tests)) in
    counted ∙ all-counted _ x.rows
