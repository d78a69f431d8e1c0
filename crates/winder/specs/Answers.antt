-- Answers as numbers, for C.
use Rattle.std.specs.Prelude.{ℕ}
use Rattle.scram.specs.Answers.{Answered, Done, Ignored, Refused}

-- "A refusal returns its number"; done is 0, and ignored is above every byte
abbrev pub number_of : Answered → ℕ
number_of Done = 0
number_of Ignored = 256
number_of (Refused number) = number
