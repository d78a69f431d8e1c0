-- The settings of the law: the tables under document 01's names, the ranges, and refusals 2 to 4. Rows, columns and places are counted from 0.
use Rattle.std.specs.Prelude.{ℕ, ◌+◌, ◌*◌, Bool, not, ◌&&◌, List, [], ◌∷◌, leb, eqb, ℤ, pos, replicate}
use Rattle.std.specs.Int.Signed.{le_z}
use Rattle.lists.specs.Below.{all_below}
use Rattle.lists.specs.Places.{entry}
use Rattle.lists.specs.Refusals.{Refusal, refusal as row, first_of}
use Rattle.law.specs.declared.Settings.{Settings}
use Rattle.law.specs.declared.Tables.{Tables}
use Rattle.law.specs.Fixed.{minus}

-- settings whose tables a caller has by themselves, each laid out as the field of its name. The law's calls do not look at the starting state: it
-- holds 0 in each place
abbrev pub settings_of : (n m p : ℕ) (a l c k low high : List ℤ) → Settings
settings_of n m p a l c k low high =
    record { n = n; m = m; p = p; a = a; l = l; c = c; k = k; low = low; high = high; start = replicate 6 (pos 0) }

-- the settings whose tables are lent
abbrev pub settings_in : Tables → Settings
settings_in t = settings_of t.n t.m t.p t.a.now t.l.now t.c.now t.k.now t.low.now t.high.now

-- settings as the law's calls see them when their tables are lent
abbrev pub lent : Settings → Settings
lent s = settings_of s.n s.m s.p s.a s.l s.c s.k s.low s.high

-- row i, column j of a table that is kept as one list, a row at every `stride` places
abbrev pub cell : List ℤ → ℕ → ℕ → ℕ → ℤ
cell table stride i j = entry table (i * stride + j)

-- A(i,j) of "A (n by n)"
abbrev pub A : Settings → ℕ → ℕ → ℤ
A s = cell s.a 6

-- L(i,j) of "L (n by m)"
abbrev pub L : Settings → ℕ → ℕ → ℤ
L s = cell s.l 4

-- C(j,i) of "C (m by n)"
abbrev pub C : Settings → ℕ → ℕ → ℤ
C s = cell s.c 6

-- K(j,i) of "K (p by n)"
abbrev pub K : Settings → ℕ → ℕ → ℤ
K s = cell s.k 6

-- "A lower .. limit for each command": that of command j
abbrev pub lower : Settings → ℕ → ℤ
lower s = entry s.low

-- "and an upper limit for each command": that of command j
abbrev pub upper : Settings → ℕ → ℤ
upper s = entry s.high

-- whether a size is from 1 to the most that it may be
abbrev pub one_to : ℕ → ℕ → Bool
one_to most size = leb 1 size && leb size most

-- "n states (1 to 6), m readings and p commands (each 1 to 4)"
unfoldable pub sizes_in_range : ℕ → ℕ → ℕ → Bool
sizes_in_range n m p = one_to 6 n && one_to 4 m && one_to 4 p

-- "whole numbers in units of 1/65536, from −16,777,216 to 16,777,216"
unfoldable pub in_range : ℤ → Bool
in_range z = le_z (minus 16777216) z && le_z z (pos 16777216)

-- whether the coefficients in the first rows and columns of a table are in their range
unfoldable pub table_in_range : (ℕ → ℕ → ℤ) → ℕ → ℕ → Bool
table_in_range table rows columns = all_below rows (λ i. all_below columns (λ j. in_range (table i j)))

-- the same for the four tables: "A (n by n), L (n by m), C (m by n), K (p by n)"
unfoldable pub coefficients_in_range : (A L C K : ℕ → ℕ → ℤ) → ℕ → ℕ → ℕ → Bool
coefficients_in_range A L C K n m p = table_in_range A n n && table_in_range L n m && table_in_range C m n && table_in_range K p n

-- whether no lower limit of the first p commands is above its upper
unfoldable pub limits_in_order : (lower upper : ℕ → ℤ) → ℕ → Bool
limits_in_order lower upper p = all_below p (λ j. le_z (lower j) (upper j))

-- "The law's own calls refuse settings by 2 to 4 and refuse nothing else":
-- 2 "n, m or p outside its range", 3 "a coefficient outside its range", 4 "a lower limit above its upper"
unfoldable pub refusals : Settings → List Refusal
refusals s =
    row 2 (not (sizes_in_range s.n s.m s.p))
    ∷ row 3 (not (coefficients_in_range (A s) (L s) (C s) (K s) s.n s.m s.p))
    ∷ row 4 (not (limits_in_order (lower s) (upper s) s.p))
    ∷ []

-- "the lowest number comes first"; 0 where nothing is refused
unfoldable pub refusal : Settings → ℕ
refusal s = first_of (refusals s)

-- whether nothing is refused
abbrev pub stands : Settings → Bool
stands s = eqb (refusal s) 0
