-- Singles as the lines of `rig` write them: "`f` and eight digits of 0 to 9 and a to f: the bits of a single, the highest digit first". The bytes 48 to 57
-- are the digits 0 to 9, and 97 to 102 the digits a to f; the `f` in front is 102 too.
use Rattle.std.specs.Prelude.{ℕ, ◌+◌, ◌*◌, ◌-◌, Bool, true, ◌&&◌, ◌||◌, List, [], ◌∷◌, length, get_or, drop, eqb, leb}
use Rattle.std.specs.Float.{binary32}
use Rattle.std.specs.Float.Ieee.{of_bits}
use Rattle.lists.specs.Choice.{pick}
use Rattle.text.specs.Numbers.{is_digit}
use Rattle.transmitters.specs.declared.Reading.{Reading}
use Rattle.transmitters.specs.declared.Reading.TheVariants.{Newtons, Missing}

-- a hexadecimal digit, of "0 to 9 and a to f"
unfoldable pub is_hex : ℕ → Bool
is_hex b = is_digit b || (leb 97 b && leb b 102)

-- its value: a to f are 10 to 15
unfoldable pub hex_digit : ℕ → ℕ
hex_digit b = pick (is_digit b) (b - 48) (b - 87)

-- every byte is a hexadecimal digit
unfoldable pub all_hex : List ℕ → Bool
all_hex [] = true
all_hex (b ∷ bs) = is_hex b && all_hex bs

-- the number that digits spell after digits that spell `high`, "the highest digit first"
unfoldable pub hex_from : ℕ → List ℕ → ℕ
hex_from high [] = high
hex_from high (b ∷ bs) = hex_from (high * 16 + hex_digit b) bs

-- a field is a single: "`f` and eight digits"
unfoldable pub is_single : List ℕ → Bool
is_single word = eqb (length word) 9 && (eqb (get_or word 0 0) 102 && all_hex (drop 1 word))

-- "the bits of a single"
unfoldable pub bits_of : List ℕ → ℕ
bits_of word = hex_from 0 (drop 1 word)

-- the single that a field is, as the transmitters send it; missing where it is none
unfoldable pub single_in : List ℕ → Reading
single_in word = pick (is_single word) (Newtons (of_bits binary32 (bits_of word))) Missing
