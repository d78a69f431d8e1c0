-- What recording and returning add to a group of replicas: "A box's replica is written as a record of fixed layout", and "Returning takes a record and a
-- count of missed periods".
use Rattle.std.specs.Prelude.{ℕ, List, eqb}
use Rattle.std.proofs.Math.Option.{none, some}
use Rattle.lists.specs.Choice.{pick}
use Rattle.quorums.specs.declared.Quorums.{Quorums}
use Rattle.law.specs.declared.Settings as Law
use Rattle.records.specs.Lengths.{record_length}
use Rattle.records.specs.Recording.{recorded}
use Rattle.records.specs.Reading.{replica_in}
use Rattle.records.specs.Returning.{return_refusal, stayed_up}
use Rattle.group.specs.Group.{group}
use Rattle.power.specs.Demand3.{Storage}

-- A record is the bytes that recording writes to an area of a record's length; none where it is refused, as at a box that is not of the group. Returning
-- gives "the replica that a box would be which stayed up, was handed no reading in those periods and lost every frame", or is refused by 15 or 16.
abbrev pub storage : (N : ℕ) (q : Quorums) (law : Law.Settings) → Storage (group N q law)
storage N q law = record {
  Record = List ℕ;
  recorded = λ r. recorded r record_length;
  back = λ b k. pick (eqb (return_refusal k b) 0) (some (stayed_up k (replica_in b))) none;
}
