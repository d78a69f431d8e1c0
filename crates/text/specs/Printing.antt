-- Text that is printed, as a list of bytes, and decimals in it.
use Rattle.std.specs.Prelude.{ℕ, zero, suc, ◌+◌, ◌/◌, ◌%◌, ◌≡◌, List, [], ◌∷◌, ◌++◌, length, take, drop, ltb, ℤ, pos, negsuc}
use Rattle.lists.specs.Choice.{pick}

-- what was put so far: the first n bytes of the area
abbrev pub shown : List ℕ → ℕ → List ℕ
shown area n = take n area

-- what was put before and, as far as there is room, what is put after it
unfoldable pub with : ℕ → List ℕ → List ℕ → List ℕ
with room before more = take room (before ++ more)

-- what a call does that puts `more` after the first `at` bytes of an area. It tells how many bytes stand there then; those behind them keep
-- what they held
pub record Puts (area : List ℕ) (at : ℕ) (more : List ℕ) (r : ℕ) (area' : List ℕ) : Type 0 where
  pub count : r ≡ length (with (length area) (shown area at) more)
  pub bytes : area' ≡ with (length area) (shown area at) more ++ drop r area

-- the digits of n before those that stand already, at most k of them
unfoldable pub digits_before : ℕ → ℕ → List ℕ → List ℕ
digits_before zero n tail = tail
digits_before (suc k) n tail = pick (ltb n 10) ((48 + n % 10) ∷ tail) (digits_before k (n / 10) ((48 + n % 10) ∷ tail))

-- a number of 32 bits in decimal, which has at most ten digits
unfoldable pub decimal : ℕ → List ℕ
decimal n = digits_before 10 n []

-- a number with a minus where it is negative; `negsuc k` is −(k + 1), and 45 is the minus
unfoldable pub signed : ℤ → List ℕ
signed (pos n) = decimal n
signed (negsuc k) = 45 ∷ decimal (suc k)

-- numbers, each after a comma, which is 44
unfoldable pub after_commas : List ℤ → List ℕ
after_commas [] = []
after_commas (z ∷ zs) = (44 ∷ signed z) ++ after_commas zs

-- numbers with commas between them
unfoldable pub listed : List ℤ → List ℕ
listed [] = []
listed (z ∷ zs) = signed z ++ after_commas zs
