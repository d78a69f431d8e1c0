-- What a step answers, in document 01's words: "what was called for, an event ignored, or one of the numbered refusals".
use Rattle.std.specs.Prelude.{ℕ, Result, Ok, Err}
use Rattle.refusal.specs.declared.Refusal.{Refusal}
use Rattle.refusal.specs.Numbers.{number}
use Rattle.scram.specs.declared.Answer.{Answer}

pub data Answered : Type 0 where
  Done : Answered
  Ignored : Answered
  Refused : ℕ → Answered

-- what each case of the code's enum stands for; "A refusal returns its number", of the table "Where each refusal is made"
abbrev pub answered : Answer → Answered
answered Answer.Done = Done
answered Answer.Ignored = Ignored
answered (Answer.Refused refusal) = Refused (number refusal)

-- what a call answers that either gives what was called for or is refused
abbrev pub answered_of : {A : Type 0} → Result A Refusal → Answered
answered_of (Ok _) = Done
answered_of (Err refusal) = Refused (number refusal)
