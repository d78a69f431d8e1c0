-- `readings::has_mark_beyond` meets its contract: the marks that are not skipped are those from m on. Assumes nothing.
use Rattle.std.proofs.Common.{◌∙◌, drop, rules}
use borrow.Author.Tests.{tests}
use Rattle.std.proofs.lemmas.Iterator.{YieldsList-from_slice}
use Rattle.std.proofs.lemmas.Iterator.Adapters.{YieldsList-from_skip}
use Rattle.std.proofs.lemmas.Iterator.Search.{any_from_yields_List}
use Rattle.readings.specs.Readings.{mark_beyond}
use Rattle.readings.proofs.Marks.{any-listed}
use Rattle.readings.proofs.has_mark_beyond.Goals as goal

pub returns : goal.returns
unfolding mark_beyond
returns c =
    any_from_yields_List (λ mark. mark) _ _ _ c.any.ensures.ran
    (YieldsList-from_skip c.args.m (YieldsList-from_slice c.args.y.present cc) cc)
    (λ x b q k. search (rules, tests))
    ∙ any-listed (drop c.args.m c.args.y.present)
