-- What reading the bytes of a command finds. Document 01 has no words for such a call: a command is read as strictly as a frame, and is refused by
-- the same numbers.
use Rattle.std.specs.Prelude.{ℕ, ◌<◌, ◌^◌, ◌≡◌, Bool, false, not, ◌&&◌, List, [], ◌∷◌, length, get_or, drop, replicate, pos, eqb, leb}
use Rattle.lists.specs.Choice.{pick}
use Rattle.lists.specs.Places.{entry, filled}
use Rattle.lists.specs.I32.{AllI32}
use Rattle.lists.specs.Refusals.{refusal, first_of}
use Rattle.octets.specs.Words.{value_at}
use Rattle.frame.specs.Sizes.{commands_ok}
use Rattle.frame.specs.Lengths.{command_start, command_length}
use Rattle.frame.specs.Command.{command_period}
use Rattle.frame.specs.declared.CommandFields.{CommandFields}

-- whether bytes are a command of p values: "byte 0 is 5, byte 1 is p", byte 2 is 1 or 0, byte 3 zero, and no byte after the values
unfoldable pub is_command : ℕ → List ℕ → Bool
is_command p b =
    eqb (length b) (command_length p) && (eqb (get_or b 0 0) 5 && (eqb (get_or b 1 0) p && (leb (get_or b 2 0) 1 && eqb (get_or b 3 0) 0)))

-- the command in such bytes: "period at 4, p i32 values from 8", 0 in the places beyond p, and whether byte 2 is 1
unfoldable pub command_in : ℕ → List ℕ → CommandFields
command_in p b = record { period = command_period b; values = filled (pos 0) 4 p (value_at (drop command_start b)); limited = eqb (get_or b 2 0) 1 }

-- the number of the refusal, or 0: 2 for p, then 8 for the bytes
unfoldable pub read_command_refusal : ℕ → List ℕ → ℕ
read_command_refusal p b = first_of (refusal 2 (not (commands_ok p)) ∷ refusal 8 (not (is_command p b)) ∷ [])

-- what stands for the command of a refused call, which gives none
abbrev pub no_command : CommandFields
no_command = record { period = 0; values = replicate 4 (pos 0); limited = false }

-- the command that is read
unfoldable pub read_command : ℕ → List ℕ → CommandFields
read_command p b = pick (eqb (read_command_refusal p b) 0) (command_in p b) no_command

-- what the types of a command's fields say
pub record TypedCommand (c : CommandFields) : Type 0 where
  pub period : c.period < 2 ^ 32
  pub places : length c.values ≡ 4
  pub values : AllI32 c.values

-- what the bytes of a command of p values carry of it
unfoldable pub carried_command : ℕ → CommandFields → CommandFields
carried_command p c = record { period = c.period; values = filled (pos 0) 4 p (entry c.values); limited = c.limited }

-- reading bytes refuses nothing and gives the command c
pub record ReadAsCommand (p : ℕ) (b : List ℕ) (c : CommandFields) : Type 0 where
  pub done : read_command_refusal p b ≡ 0
  pub command : read_command p b ≡ c
