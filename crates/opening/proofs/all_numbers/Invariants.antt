-- `opening::all_numbers` meets its contract. The loop's invariant: the first j fields that are looked at are numbers.
use Rattle.std.proofs.Common.{◌≡◌, true, ◌+◌}
use Rattle.lists.specs.Below.{all_below}
use Rattle.text.specs.Numbers.{number_of, is_whole}
use Rattle.line.specs.Fields.{field}
use Rattle.opening.proofs.all_numbers.Given as goal

abbrev pub invariant-loop-j : goal.invariant-loop-j
invariant-loop-j l = all_below l.j (λ i. is_whole (number_of (field (i + 5) l.line))) ≡ true
