-- `reading::rises` meets its contract. Assumes nothing.
use Rattle.std.proofs.Common.{rules}
use Rattle.std.proofs.lemmas.Fn.{always_returns_same}
use lib.Dec.{ltb}
use Rattle.pages.proofs.ReadingLaws.{rises-adjacent}
use Rattle.pages.proofs.reading.rises.Goals as goal

pub returns : goal.returns
returns c = rises-adjacent _ _ (c.is_sorted_by.ensures.cases (λ a b. ltb a.period b.period) (always_returns_same _ _ _ (λ a r f k. search rules)))
