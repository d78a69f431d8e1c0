-- Numbers as the lines write them: "Decimal without needless zeros or a plus sign, zero without a minus, .. y within i32". A field is a list
-- of bytes: 48 to 57 are the digits 0 to 9, and 45 is a minus.
use Rattle.std.specs.Prelude.{ℕ, zero, suc, ◌+◌, ◌*◌, ◌-◌, Bool, not, ◌&&◌, ◌||◌, List, [], ◌∷◌, length, get_or, drop, eqb, leb, ltb, ℤ, pos, negsuc, Option, Some, None, is_some}
use Rattle.std.specs.Option.{unwrap_or}
use Rattle.lists.specs.Choice.{pick}

-- a decimal digit
unfoldable pub is_digit : ℕ → Bool
is_digit b = leb 48 b && leb b 57

-- b is a digit, and after digits that spell n it spells no more than `largest`
unfoldable pub goes_on : (largest n b : ℕ) → Bool
goes_on largest n b = is_digit b && leb (10 * n + (b - 48)) largest

-- the number of at most `largest` that digits spell after digits that spell n
unfoldable pub spelled : (largest n : ℕ) → List ℕ → Option ℕ
spelled largest n [] = Some n
spelled largest n (b ∷ bs) = pick (goes_on largest n b) (spelled largest (10 * n + (b - 48)) bs) None

-- "without needless zeros": there is a first digit, and it is 0 only where it stands alone
unfoldable pub well_begun : List ℕ → Bool
well_begun digits = ltb 0 (length digits) && (not (eqb (get_or digits 0 0) 48) || eqb (length digits) 1)

-- the number of at most `largest` that a field without a sign spells
unfoldable pub unsigned : (largest : ℕ) → List ℕ → Option ℕ
unsigned largest digits = pick (well_begun digits) (spelled largest 0 digits) None

-- the number of 32 bits that a field without a sign spells: 4294967295 is the largest
unfoldable pub magnitude : List ℕ → Option ℕ
magnitude digits = unsigned 4294967295 digits

-- a minus stands first
unfoldable pub is_minus : List ℕ → Bool
is_minus field = ltb 0 (length field) && eqb (get_or field 0 0) 45

-- the number after a minus: "zero without a minus", and from -2147483648 on
unfoldable pub negative : Option ℕ → Option ℤ
negative (Some zero) = None
negative (Some (suc k)) = pick (leb (suc k) 2147483648) (Some (negsuc k)) None
negative None = None

-- the number without a minus: up to 2147483647
unfoldable pub positive : Option ℕ → Option ℤ
positive (Some n) = pick (ltb n 2147483648) (Some (pos n)) None
positive None = None

-- the number that a field holds
unfoldable pub number_of : List ℕ → Option ℤ
number_of field = pick (is_minus field) (negative (magnitude (drop 1 field))) (positive (magnitude field))

-- what a field spelled, and 0 where it spelled no number
abbrev pub size_in : Option ℕ → ℕ
size_in m = unwrap_or m 0

-- it spelled a number
abbrev pub is_size : Option ℕ → Bool
is_size m = is_some m

-- a number that is not negative, and 0 for any other
unfoldable pub counted : Option ℤ → ℕ
counted (Some (pos n)) = n
counted (Some (negsuc n)) = 0
counted None = 0

-- a number, and 0 where there is none
abbrev pub value_in : Option ℤ → ℤ
value_in n = unwrap_or n (pos 0)

-- there is a number
abbrev pub is_whole : Option ℤ → Bool
is_whole n = is_some n
