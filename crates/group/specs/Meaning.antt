-- What the history calls a result is what the call leaves in its caller's hands: the replica, the answer, and the bytes at the start of
-- each lent area.
use Rattle.std.specs.Prelude.{ℕ, ◌≡◌, List, length, take}
use Rattle.octets.specs.Areas.{over}
use Rattle.scram.specs.Answers.{answered}
use Rattle.scram.specs.Held.{Input}
use Rattle.scram.specs.History.{Result}
use Rattle.scram.specs.Shown.{is_refused}
use Rattle.quorums.specs.declared.Quorums.{Quorums}
use Rattle.law.specs.declared.Settings as Law
use Rattle.replica.specs.declared.Replica.{Replica}
use Rattle.replica.specs.declared.Stepped.{Stepped}
use Rattle.replica.specs.Calls.{Gives}
use Rattle.group.specs.Group.{Handed, Areas, outcome_of, group}

-- An area that was `area` and is `area'` has these bytes at its start, and is as it was after them. "A step gives the length written to each
-- area; where that is 0 the whole area keeps what it held."
pub record Written (bytes : List ℕ) (count : ℕ) (area area' : List ℕ) : Type 0 where
  pub number : count ≡ length bytes
  pub first : take count area' ≡ bytes
  pub whole : area' ≡ over bytes area

-- the step of a call is the history's result
pub record Leaves (w : Result Replica) (s : Stepped) (frame frame' command command' : List ℕ) : Type 0 where
  pub replica : s.replica ≡ w.box
  pub refused : is_refused (answered s.answer) ≡ w.refused
  pub frame-written : Written w.frame s.frame frame frame'
  pub command-written : Written w.command s.command command command'

-- for a tick, an arriving frame and a view given up: any replica, any lent areas, and any step that keeps the contract of its call
abbrev pub Meaning : Type 0
Meaning =
    (N : ℕ) (q : Quorums) (law : Law.Settings) (r : Replica) (x : Input Handed (List ℕ)) (a : Areas) (s : Stepped) (frame' command' : List ℕ)
    → Gives r.settings (outcome_of r x a) s a.frame frame' a.command command'
    → Leaves ((group N q law).call r x a) s a.frame frame' a.command command'
