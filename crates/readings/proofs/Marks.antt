-- A law of `any_mark`: it is the library's test of a list. Assumes nothing.
use Rattle.std.proofs.Common.{◌≡◌, refl, ap, Bool, ◌||◌, List, [], ◌∷◌}
use Rattle.std.specs.List.{list_any}
use Rattle.readings.specs.Readings.{any_mark}

pub any-listed : (marks : List Bool) → list_any (λ mark. mark) marks ≡ any_mark marks
unfolding any_mark
any-listed [] = refl
any-listed (mark ∷ marks) = ap (λ rest. mark || rest) (any-listed marks)
