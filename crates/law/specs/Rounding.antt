-- What `divided` means, and what it gives around zero, at ties of both signs and at both ends of i64.
use Rattle.std.specs.Prelude.{◌≡◌, refl, List, [], ◌∷◌, map, ◌%◌, ◌≤◌, ℤ, pos, nat_abs, ◌-ℤ◌, ◌*ℤ◌}
use Rattle.lists.specs.Choice.{pick}
use Rattle.law.specs.Fixed.{minus, divided}

-- q is z / 65536 brought "to the nearest whole number, ties to the even one": z is no further than half of 65536 from 65536 × q, and q is even where it
-- is exactly that far. `divided` has it of every number, and no other q has it: `divided-nearest` and `nearest-alone` of proofs/Nearest.antt
pub record IsNearest (q z : ℤ) : Type 0 where
  pub half : nat_abs (z -ℤ pos 65536 *ℤ q) ≤ 32768
  pub even : nat_abs (z -ℤ pos 65536 *ℤ q) ≡ 32768 → nat_abs q % 2 ≡ 0

-- what is divided by 65536, and the quotient
record Division : Type 0 where
  dividend : ℤ
  quotient : ℤ

abbrev division : ℤ → ℤ → Division
division z q = record { dividend = z; quotient = q }

abbrev divisions : List Division
divisions =
    division (pos 0) (pos 0)
    ∷ division (pos 1) (pos 0)
    ∷ division (minus 1) (pos 0)
    ∷ division (pos 32767) (pos 0)
    ∷ division (pos 32768) (pos 0)
    ∷ division (pos 32769) (pos 1)
    ∷ division (minus 32767) (pos 0)
    ∷ division (minus 32768) (pos 0)
    ∷ division (minus 32769) (minus 1)
    ∷ division (pos 65536) (pos 1)
    ∷ division (minus 65536) (minus 1)
    ∷ division (pos 98303) (pos 1)
    ∷ division (pos 98304) (pos 2)
    ∷ division (minus 98303) (minus 1)
    ∷ division (minus 98304) (minus 2)
    ∷ division (pos 163840) (pos 2)
    ∷ division (pos 163841) (pos 3)
    ∷ division (minus 163840) (minus 2)
    ∷ division (minus 163841) (minus 3)
    ∷ division (minus 9223372036854775808) (minus 140737488355328)
    ∷ division (minus 9223372036854743040) (minus 140737488355328)
    ∷ division (minus 9223372036854743039) (minus 140737488355327)
    ∷ division (pos 9223372036854743039) (pos 140737488355327)
    ∷ division (pos 9223372036854743040) (pos 140737488355328)
    ∷ division (pos 9223372036854775807) (pos 140737488355328)
    ∷ []

divisions-hold : map (λ (d : Division). divided d.dividend) divisions ≡ map (λ (d : Division). d.quotient) divisions
unfolding divided pick
divisions-hold = refl
