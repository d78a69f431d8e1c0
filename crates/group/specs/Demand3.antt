-- DEMAND 3 for the replica: for any group whose settings making accepts and any history of document 01, one run of a single controller
-- serves all decided periods, and each command written is its command, byte for byte. The rows of that run are those that boxes were handed, and
-- "In the run of demand 3 a reading means its converted value." (`row` of `group`).
use Rattle.std.specs.Prelude.{ℕ, ◌≡◌, List}
use Rattle.lists.specs.I32.{AllI32}
use Rattle.scram.specs.History.{Entry}
use Rattle.scram.specs.Demand3.{Demand3}
use Rattle.quorums.specs.declared.Quorums.{Quorums}
use Rattle.law.specs.declared.Settings as Law
use Rattle.replica.specs.Settings.{settings_refusal, law_of}
use Rattle.group.specs.Group.{Handed, Areas, settings_of, group}

-- N boxes, any a and b, a law whose starting state has i32 values as its type says, settings that making accepts ("demand 3 holds for all allowed pairs, shown for a
-- and b as unknowns"), any history
abbrev pub DemandThree : Type 0
DemandThree =
    (N : ℕ) (q : Quorums) (law : Law.Settings) → AllI32 law.start → settings_refusal (settings_of N q law 1) ≡ 0
    → (h : List (Entry Handed Areas)) → Demand3 (group N q law) (law_of law) h
