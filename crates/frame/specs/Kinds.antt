-- The kinds of frames, one row each, and what is asked of them.
use Rattle.std.specs.Prelude.{ℕ, Bool, false, ◌||◌, List, [], ◌∷◌, eqb, ltb}
use Rattle.lists.specs.Choice.{pick}

-- a kind's number in byte 0, and its number of parts
pub record Kind : Type 0 where
  pub number : ℕ
  pub parts : ℕ

-- "1 Propose"; "number of parts (Ack 0, others 2)"
abbrev pub propose : Kind
propose = record { number = 1; parts = 2 }

-- "2 Ack"
abbrev pub ack : Kind
ack = record { number = 2; parts = 0 }

-- "3 Decide"
abbrev pub decide : Kind
decide = record { number = 3; parts = 2 }

-- "4 Estimate"
abbrev pub estimate : Kind
estimate = record { number = 4; parts = 2 }

-- the table
abbrev pub kinds : List Kind
kinds = propose ∷ ack ∷ decide ∷ estimate ∷ []

-- whether a row has the number
unfoldable pub any_of : List Kind → ℕ → Bool
any_of [] number = false
any_of (kind ∷ rows) number = eqb number kind.number || any_of rows number

-- the parts of the row with that number, 0 where there is none
unfoldable pub parts_of : List Kind → ℕ → ℕ
parts_of [] number = 0
parts_of (kind ∷ rows) number = pick (eqb number kind.number) kind.parts (parts_of rows number)

-- whether there is such a kind
unfoldable pub kind_ok : ℕ → Bool
kind_ok number = any_of kinds number

-- its number of parts
unfoldable pub part_count : ℕ → ℕ
part_count number = parts_of kinds number

-- whether its frames carry an estimate
unfoldable pub has_parts : ℕ → Bool
has_parts number = ltb 0 (part_count number)
