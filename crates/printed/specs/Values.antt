-- Numbers within i32 with commas between them, as states and commands are printed. 44 is a comma.
use Rattle.std.specs.Prelude.{ℕ, zero, suc, Bool, false, not, ◌&&◌, ◌||◌, List, length, ℤ, pos, ltb}
use Rattle.lists.specs.Choice.{pick}
use Rattle.lists.specs.Places.{filled}
use Rattle.text.specs.Numbers.{number_of, value_in, is_whole}
use Rattle.text.specs.Lines.{up_to, after}
use Rattle.printed.specs.declared.values.Values.{Values}

-- a comma stands in it
unfoldable pub has_comma : List ℕ → Bool
has_comma bytes = ltb (length (up_to 44 bytes)) (length bytes)

-- it is at most k numbers with commas between them
unfoldable pub is_list : ℕ → List ℕ → Bool
is_list zero bytes = false
is_list (suc k) bytes = is_whole (number_of (up_to 44 bytes)) && (not (has_comma bytes) || is_list k (after 44 bytes))

-- how many they are, at most k
unfoldable pub how_many : ℕ → List ℕ → ℕ
how_many zero bytes = 0
how_many (suc k) bytes = suc (pick (has_comma bytes) (how_many k (after 44 bytes)) 0)

-- number j of them
unfoldable pub value_at : List ℕ → ℕ → ℤ
value_at bytes zero = value_in (number_of (up_to 44 bytes))
value_at bytes (suc j) = value_at (after 44 bytes) j

-- the values of a list of at most k numbers, in six places
unfoldable pub values_of : ℕ → List ℕ → Values
values_of k bytes = record { count = how_many k bytes; values = filled (pos 0) 6 (how_many k bytes) (value_at bytes) }
