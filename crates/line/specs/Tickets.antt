-- The tickets of `C` lines: "`C r t`: box r commits ticket t (decimal, 0 to 18446744073709551615)". A field is a list of bytes: 48 to 57 are the digits 0 to 9.
use Rattle.std.specs.Prelude.{ℕ, Bool, List, Option, is_some}
use Rattle.std.specs.Option.{unwrap_or}
use Rattle.text.specs.Numbers.{unsigned}

-- the largest number of 64 bits
abbrev pub largest : ℕ
largest = 18446744073709551615

-- the number of 64 bits that a field spells, without a sign or "needless zeros"
unfoldable pub ticket_of : List ℕ → Option ℕ
ticket_of word = unsigned largest word

-- there is a ticket
abbrev pub is_ticket : Option ℕ → Bool
is_ticket ticket = is_some ticket

-- its number, and 0 where there is none
abbrev pub number_in : Option ℕ → ℕ
number_in ticket = unwrap_or ticket 0
