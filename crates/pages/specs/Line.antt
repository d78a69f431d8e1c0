-- A line of the page: "lines of exactly 72 bytes plus a line feed". 10 is a line feed, 32 a space, 45 a hyphen.
use Rattle.std.specs.Prelude.{ℕ, ◌-◌, List, [], ◌∷◌, ◌++◌, length, take, replicate, Option, None, Some, ℤ}
use Rattle.text.specs.Printing.{decimal, signed}
use Rattle.pages.specs.declared.entries.Entry.{Entry}

-- so many spaces
abbrev pub spaces : ℕ → List ℕ
spaces n = replicate n 32

-- "right-aligned in" so many columns
unfoldable pub right : ℕ → List ℕ → List ℕ
right columns bytes = spaces (columns - length bytes) ++ bytes

-- "the commands in 12 columns each, right-aligned"
unfoldable pub command_columns : List ℤ → List ℕ
command_columns [] = []
command_columns (z ∷ zs) = right 12 (signed z) ++ command_columns zs

-- "a period without a command shows a hyphen in the last column of the first command"
unfoldable pub hyphen : List ℕ
hyphen = right 12 (45 ∷ [])

-- the first p values of a command, or the hyphen where there is none
unfoldable pub command_shown : ℕ → Option (List ℤ) → List ℕ
command_shown p None = hyphen
command_shown p (Some values) = command_columns (take p values)

-- the same of an entry
unfoldable pub commands_shown : ℕ → Entry → List ℕ
commands_shown p e = command_shown p e.command

-- "period right-aligned in 10 columns, a space, view in 10, a space, then the commands"
unfoldable pub line_text : ℕ → Entry → List ℕ
line_text p e = right 10 (decimal e.period) ++ ((32 ∷ right 10 (decimal e.view)) ++ (32 ∷ commands_shown p e))

-- "and spaces to the end"
unfoldable pub to_the_end : List ℕ → List ℕ
to_the_end text = text ++ spaces (72 - length text)

-- the line of an entry on a page of p commands
unfoldable pub line_bytes : ℕ → Entry → List ℕ
line_bytes p e = to_the_end (line_text p e) ++ (10 ∷ [])

-- its length
abbrev pub line_length : ℕ
line_length = 73
