-- Readings as numbers: a kind and 32 bits.
use Rattle.std.specs.Prelude.{ℕ, List, [], ◌∷◌, get_or, eqb}
use Rattle.std.specs.Float.{binary32}
use Rattle.std.specs.Float.Ieee.{of_bits}
use Rattle.lists.specs.Choice.{pick}
use Rattle.octets.specs.Words.{from_twos_complement}
use Rattle.transmitters.specs.declared.Reading.{Reading}
use Rattle.transmitters.specs.declared.Reading.TheVariants.{Count, Newtons, Missing}

-- kind 1 is a count, in two's complement, and kind 2 a single; any other is missing
unfoldable pub reading_of : ℕ → ℕ → Reading
reading_of kind bits = pick (eqb kind 1) (Count (from_twos_complement bits)) (pick (eqb kind 2) (Newtons (of_bits binary32 bits)) Missing)

-- four of them
abbrev pub readings_of : List ℕ → List ℕ → List Reading
readings_of kinds bits = at 0 ∷ at 1 ∷ at 2 ∷ at 3 ∷ []
  where
    at : ℕ → Reading
    at j = reading_of (get_or kinds j 0) (get_or bits j 0)
