-- `records::conditions::heard_ok` meets its contract. The loop's invariant: it does so for the first j places. Assumes nothing.
use mathlib.Core.Path.{◌≡◌}
use mathlib.Core.Bool.{Bool, not, ◌||◌}
use mathlib.Core.List.{List}
use Prim.Native.Nat.{ℕ}
use lib.Dec.{eqb}
use Rattle.lists.specs.Below.{all_below}
use Rattle.scram.specs.Quorum.{among}
use Rattle.records.specs.HeldPart.{heard_at}
use Rattle.records.specs.Reading.{is_box}
use Rattle.records.proofs.conditions.heard_ok.Given as goal

abbrev pub test : ℕ → List ℕ → ℕ → Bool
test boxes b j = not (among (heard_at b 514) j) || is_box boxes j

abbrev pub invariant-loop-j : goal.invariant-loop-j
invariant-loop-j l = eqb l.bits 0 ≡ all_below l.j (test l.boxes l.bytes)
