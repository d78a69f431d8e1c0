-- Laws of `reading_of`, one for each kind. Assumes nothing.
use Rattle.std.proofs.Common.{ℕ, ◌≡◌, ◌≢◌, ap, ne_eqb, w32}
use Rattle.std.specs.Float.{binary32}
use Rattle.std.specs.Float.Ieee.{of_bits}
use Rattle.std.specs.Int.{cast_signed}
use Rattle.std.proofs.lemmas.Int.{to_z-of_z}
use Rattle.lists.specs.Choice.{pick}
use Rattle.octets.proofs.TwosComplement.{as-to_z}
use Rattle.transmitters.specs.declared.Reading.TheVariants.{Count, Newtons, Missing}
use Rattle.transmitters.specs.Numbers.{reading_of}

module _ (kind bits : ℕ) where
  pub of_count : kind ≡ 1 → reading_of kind bits ≡ Count (cast_signed w32 bits)
  unfolding reading_of pick
  of_count e = rw e (ap Count (as-to_z bits))

  pub of_newtons : kind ≡ 2 → reading_of kind bits ≡ Newtons (of_bits binary32 bits)
  unfolding reading_of pick
  of_newtons e = rw e

  pub of_others : kind ≢ 1 → kind ≢ 2 → reading_of kind bits ≡ Missing
  unfolding reading_of pick
  of_others n m = simp (ne_eqb kind 1 n, ne_eqb kind 2 m)

-- for the function of that name
pub ruleset by_kind = (of_count, of_newtons, of_others, to_z-of_z)
