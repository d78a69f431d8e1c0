-- What reading a page back finds.
use Rattle.std.specs.Prelude.{ℕ, zero, suc, ◌+◌, ◌*◌, ◌/◌, ◌≡◌, Bool, true, false, not, ◌&&◌, List, [], ◌∷◌, length, get_or, drop, None, Some, ℤ, pos, eqb, leb}
use Rattle.lists.specs.Choice.{pick}
use Rattle.lists.specs.Places.{filled}
use Rattle.lists.specs.Refusals.{refusal, first_of}
use Rattle.octets.specs.Words.{part}
use Rattle.text.specs.Numbers.{magnitude, size_in, number_of, value_in}
use Rattle.pages.specs.declared.entries.Entry.{Entry}
use Rattle.pages.specs.declared.lines.Page.{Page}
use Rattle.pages.specs.Entries.{commands_ok, blank}
use Rattle.pages.specs.Line.{line_length}
use Rattle.pages.specs.Page.{rises, page_bytes, most_lines}

-- what stands in columns behind the spaces on their left
unfoldable pub unspaced : List ℕ → List ℕ
unspaced [] = []
unspaced (b ∷ bs) = pick (eqb b 32) (unspaced bs) (b ∷ bs)

-- the number in ten columns of a line from one on, 0 where there is none
unfoldable pub count_at : List ℕ → ℕ → ℕ
count_at line column = size_in (magnitude (unspaced (part line column 10)))

-- command j of a line, 0 where there is no number: "the commands in 12 columns each" begin behind the 22 of period, view and spaces
unfoldable pub value_at : List ℕ → ℕ → ℤ
value_at line j = value_in (number_of (unspaced (part line (22 + 12 * j) 12)))

-- there is a command where no hyphen stands in the last column of the first one
unfoldable pub decided_in : List ℕ → Bool
decided_in line = not (eqb (get_or line 33 0) 45)

-- the entry that a line shows, whatever else stands in it
unfoldable pub entry_in : ℕ → List ℕ → Entry
entry_in p line =
    record {
      period = count_at line 0;
      view = count_at line 11;
      command = pick (decided_in line) (Some (filled (pos 0) 4 p (value_at line))) None;
    }

-- the entries that the first n lines show
unfoldable pub lines_in : ℕ → ℕ → List ℕ → List Entry
lines_in p zero bytes = []
lines_in p (suc n) bytes = entry_in p (part bytes 0 line_length) ∷ lines_in p n (drop line_length bytes)

-- the number of whole lines
unfoldable pub lines_number : List ℕ → ℕ
lines_number bytes = length bytes / line_length

-- the entries that a page shows
unfoldable pub entries_in : ℕ → List ℕ → List Entry
entries_in p bytes = lines_in p (lines_number bytes) bytes

-- the same bytes
unfoldable pub same : List ℕ → List ℕ → Bool
same [] [] = true
same [] (y ∷ ys) = false
same (x ∷ xs) [] = false
same (x ∷ xs) (y ∷ ys) = eqb x y && same xs ys

-- whether bytes are a page, else they are "a page that no writing gives": at most 60 lines, in rising order, and not a byte that differs from the
-- lines of the entries that they show
unfoldable pub is_page : ℕ → List ℕ → Bool
is_page p bytes = leb (lines_number bytes) most_lines && (rises (entries_in p bytes) && same bytes (page_bytes p (entries_in p bytes)))

-- the number of the refusal, or 0: 2 for p, then 14
unfoldable pub read_refusal : ℕ → List ℕ → ℕ
read_refusal p bytes = first_of (refusal 2 (not (commands_ok p)) ∷ refusal 14 (not (is_page p bytes)) ∷ [])

-- the entries that are read; a refused call has none
unfoldable pub read_entries : ℕ → List ℕ → List Entry
read_entries p bytes = pick (eqb (read_refusal p bytes) 0) (entries_in p bytes) []

-- reading bytes refuses nothing and gives these entries
pub record ReadAs (p : ℕ) (bytes : List ℕ) (shown : List Entry) : Type 0 where
  pub done : read_refusal p bytes ≡ 0
  pub entries : read_entries p bytes ≡ shown

-- a page by value that shows these entries, blank in the places beyond them
unfoldable pub page_of : List Entry → Page
page_of entries = record { lines = filled blank most_lines (length entries) (λ i. get_or entries i blank); count = length entries }
