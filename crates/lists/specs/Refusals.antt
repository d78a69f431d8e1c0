-- Refusals of one place, in their order.
use Rattle.std.specs.Prelude.{ℕ, Bool, List, [], ◌∷◌}
use Rattle.lists.specs.Choice.{pick}

-- a row of the table "Where each refusal is made": its number, and whether its condition holds
pub record Refusal : Type 0 where
  pub number : ℕ
  pub holds : Bool

-- such a row
abbrev pub refusal : ℕ → Bool → Refusal
refusal number holds = record { number = number; holds = holds }

-- "Within a place the lowest number comes first": the number of the first whose condition holds, in a list that rises; 0 where none does
unfoldable pub first_of : List Refusal → ℕ
first_of [] = 0
first_of (r ∷ rs) = pick r.holds r.number (first_of rs)
