-- The first line of `rig`: `rig N n m p`, the numbers of A, L, C and K row by row, the lower limits, the upper limits and the start, and perhaps
-- ` quorums a b`. Field 5 is the first number of A.
use Rattle.std.specs.Prelude.{ℕ, ◌+◌, ◌*◌, ◌/◌, ◌%◌, Bool, not, ◌&&◌, ◌||◌, List, codes, eqb, leb, ltb, ℤ, pos, negsuc, Option, Some, None, Result, Ok, Err}
use Rattle.std.specs.Str.{bytes_eq}
use Rattle.lists.specs.Choice.{pick}
use Rattle.lists.specs.Places.{filled}
use Rattle.lists.specs.Below.{all_below}
use Rattle.law.specs.declared.Settings as Law
use Rattle.quorums.specs.declared.Quorums.{Quorums}
use Rattle.quorums.specs.Quorums.{majorities}
use Rattle.refusal.specs.declared.Refusal.{Refusal}
use Rattle.refusal.specs.declared.Refusal.TheVariants as Ground
use Rattle.replica.specs.declared.Settings.{Settings}
use Rattle.opening.specs.declared.Sizes.{Sizes}
use Rattle.opening.specs.declared.Starts.{Starts}
use Rattle.opening.specs.declared.Unopened.{Unopened}
use Rattle.opening.specs.declared.Unopened.TheVariants.{Bad, Refused}
use Rattle.text.specs.Numbers.{number_of, value_in, is_whole}
use Rattle.line.specs.Fields.{spaces, field}

-- "N, n, m and p are 0 to 255"; 256 for anything else
unfoldable pub size_in : Option ℤ → ℕ
size_in (Some (pos n)) = pick (leb n 255) n 256
size_in (Some (negsuc n)) = 256
size_in None = 256

-- N, n, m and p
unfoldable pub sizes_in : List ℕ → Sizes
sizes_in line = record {
  boxes = size_in (number_of (field 1 line));
  n = size_in (number_of (field 2 line));
  m = size_in (number_of (field 3 line));
  p = size_in (number_of (field 4 line));
}

-- the word `rig`
unfoldable pub is_rig : List ℕ → Bool
is_rig word = bytes_eq word (codes "rig")

-- the line begins with `rig` and four numbers from 0 to 255
unfoldable pub begun : List ℕ → Sizes → Bool
begun word s = is_rig word && (leb s.boxes 255 && (leb s.n 255 && (leb s.m 255 && leb s.p 255)))

-- a size from 1 on
unfoldable pub from_one : ℕ → ℕ → Bool
from_one size most = not (eqb size 0) && leb size most

-- the refusal of N by 1, or of n, m or p by 2
unfoldable pub sizes_refusal : Sizes → Option Refusal
sizes_refusal s =
    pick (ltb s.boxes 3 || ltb 9 s.boxes) (Some Ground.Group)
    (pick (from_one s.n 6 && (from_one s.m 4 && from_one s.p 4)) None (Some Ground.Sizes))

-- the fields at which A, L, C, K, the limits and the start begin, and how many numbers there are
unfoldable pub starts_of : ℕ → ℕ → ℕ → Starts
starts_of n m p = record {
  l = 5 + n * n;
  c = 5 + n * n + n * m;
  k = 5 + n * n + n * m + m * n;
  low = 5 + n * n + n * m + m * n + p * n;
  high = 5 + n * n + n * m + m * n + p * n + p;
  start = 5 + n * n + n * m + m * n + p * n + p + p;
  count = n * n + n * m + m * n + p * n + p + p + n;
}

-- so many fields from field 5 on are numbers
unfoldable pub all_numbers : ℕ → List ℕ → Bool
all_numbers count line = all_below count (λ j. is_whole (number_of (field (j + 5) line)))

-- the word `quorums`
unfoldable pub is_quorums : List ℕ → Bool
is_quorums word = bytes_eq word (codes "quorums")

-- a and b, behind so many numbers and the word `quorums`
abbrev pub quorums_at : ℕ → List ℕ → Quorums
quorums_at count line = record {
  to_decide = size_in (number_of (field (count + 6) line));
  to_propose = size_in (number_of (field (count + 7) line));
}

-- behind so many numbers stands nothing, or "` quorums a b` (each 0 to 255)"
unfoldable pub ended : ℕ → List ℕ → Bool
ended count line =
    pick (is_quorums (field (count + 5) line))
    (eqb (spaces line) (count + 7) && (leb (quorums_at count line).to_decide 255 && leb (quorums_at count line).to_propose 255))
    (eqb (spaces line) (count + 4))

-- so many numbers stand after the sizes, and nothing else but a and b
unfoldable pub numbered : ℕ → List ℕ → Bool
numbered count line = ended count line && all_numbers count line

-- "the first line may end with ` quorums a b` ..; without it both are the majority"
unfoldable pub quorums_in : ℕ → List ℕ → ℕ → Quorums
quorums_in count line N = pick (is_quorums (field (count + 5) line)) (quorums_at count line) (majorities N)

-- place k of a table with rows of `stride` places: the entry of row k / stride and column k % stride, and 0 where there is none
unfoldable pub entry_of : List ℕ → ℕ → ℕ → ℕ → ℕ → ℕ → ℤ
entry_of line from rows columns stride k =
    pick (ltb (k / stride) rows && ltb (k % stride) columns) (value_in (number_of (field (from + (k / stride) * columns + k % stride) line))) (pos 0)

-- a table with so many places
unfoldable pub table_of : ℕ → List ℕ → ℕ → ℕ → ℕ → ℕ → List ℤ
table_of width line from rows columns stride = filled (pos 0) width width (entry_of line from rows columns stride)

-- the settings of the law
unfoldable pub law_in : List ℕ → ℕ → ℕ → ℕ → Starts → Law.Settings
law_in line n m p at = record {
  n = n;
  m = m;
  p = p;
  a = table_of 36 line 5 n n 6;
  l = table_of 24 line at.l n m 4;
  c = table_of 24 line at.c m n 6;
  k = table_of 24 line at.k p n 6;
  low = table_of 4 line at.low 1 p 4;
  high = table_of 4 line at.high 1 p 4;
  start = table_of 6 line at.start 1 n 6;
}

-- a group of this size, with the settings of its box 1
abbrev pub opened_as : Sizes → Quorums → Law.Settings → Result Settings Unopened
opened_as s quorums law = Ok (record { boxes = s.boxes; own = 1; quorums = quorums; law = law })

-- the group of a line whose sizes are in range
unfoldable pub opened_with : List ℕ → Sizes → Starts → Result Settings Unopened
opened_with line s at =
    pick (numbered at.count line)
    (opened_as s (quorums_in at.count line s.boxes) (law_in line s.n s.m s.p at))
    (Err Bad)

-- the group of a line whose sizes have this refusal
unfoldable pub opened_unless : Option Refusal → List ℕ → Sizes → Result Settings Unopened
opened_unless (Some refusal) line s = Err (Refused refusal)
opened_unless None line s = opened_with line s (starts_of s.n s.m s.p)

-- "Where refusal 1 or 2 would refuse N, n, m or p, it prints `r1` or `r2` alone, whatever follows on that line; else a line not of this form
-- prints `bad` alone"
unfoldable pub opened_by : List ℕ → Sizes → Result Settings Unopened
opened_by line s = pick (begun (field 0 line) s) (opened_unless (sizes_refusal s) line s) (Err Bad)
