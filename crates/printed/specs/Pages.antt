-- What program `page` prints of the text on its standard input. Quoted is docs/PAGE.md.
use Rattle.std.specs.Prelude.{ℕ, zero, suc, ◌≡◌, Bool, true, false, not, ◌||◌, List, [], ◌∷◌, ◌++◌, map, length, take, drop, Option, None, Some, eqb, ltb}
use Rattle.lists.specs.Choice.{pick}
use Rattle.octets.specs.Areas.{over}
use Rattle.text.specs.Lines.{lines_of}
use Rattle.pages.specs.declared.entries.Entry.{Entry}
use Rattle.pages.specs.Page.{on_page, page_bytes, most_lines}
use Rattle.printed.specs.declared.lines.Printed.{Printed}
use Rattle.printed.specs.declared.lines.Printed.TheVariants.{Step, Foreign, Other}
use Rattle.printed.specs.declared.output.Paged.{Paged}
use Rattle.printed.specs.Lines.{printed_as}

-- ---- lines

-- so many lines are looked at: the header, and the 500 lines of a script
abbrev pub most : ℕ
most = 501

-- the lines of a text, each for what it is
unfoldable pub printed_in : List ℕ → List Printed
printed_in text = map printed_as (lines_of most text)

-- ---- entries

-- how many values the command of a line has, 0 where there is none
abbrev pub commands : Printed → ℕ
commands (Step entry n) = n
commands Foreign = 0
commands Other = 0

-- "p is the number of values of the first command, 1 where there is none"
unfoldable pub first_commands : List Printed → ℕ
first_commands [] = 1
first_commands (l ∷ ls) = pick (eqb (commands l) 0) (first_commands ls) (commands l)

-- a command has p values, or there is none
abbrev pub suits : ℕ → ℕ → Bool
suits p n = eqb n 0 || eqb n p

-- "an entry of each line whose answer is `ok`", where its command suits
unfoldable pub entry_on : ℕ → Printed → Option Entry
entry_on p (Step entry n) = pick (suits p n) (Some entry) None
entry_on p Foreign = None
entry_on p Other = None

-- "A line that neither program prints is passed over, and so is an `ok` line whose command has another number of values than p"
unfoldable pub is_passed : ℕ → Printed → Bool
is_passed p (Step entry n) = not (suits p n)
is_passed p Foreign = true
is_passed p Other = false

-- an entry before others, where there is one
abbrev pub with_entry : Option Entry → List Entry → List Entry
with_entry (Some entry) es = entry ∷ es
with_entry None es = es

-- the entries of lines
unfoldable pub entries_in : ℕ → List Printed → List Entry
entries_in p [] = []
entries_in p (l ∷ ls) = with_entry (entry_on p l) (entries_in p ls)

-- how many lines are passed over
unfoldable pub passed_in : ℕ → List Printed → ℕ
passed_in p [] = 0
passed_in p (l ∷ ls) = pick (is_passed p l) (suc (passed_in p ls)) (passed_in p ls)

-- ---- pages

-- the lines of at most k pages, of entries that rise: "More than 60 periods go on several pages, 60 lines each, the lowest periods first. Between two
-- pages stands a line with a form feed alone"; 12 is a form feed
unfoldable pub paged : ℕ → ℕ → List Entry → List ℕ
paged p zero es = []
paged p (suc k) es = page_bytes p (take most_lines es) ++ pick (ltb most_lines (length es)) (12 ∷ 10 ∷ paged p k (drop most_lines es)) []

-- 501 entries have room on nine pages
abbrev pub most_pages : ℕ
most_pages = 9

-- what is printed of a text
unfoldable pub pages_output : List ℕ → List ℕ
pages_output text = let ls = printed_in text in paged (first_commands ls) most_pages (on_page (entries_in (first_commands ls) ls))

-- how many of its lines are passed over
unfoldable pub passed_over : List ℕ → ℕ
passed_over text = let ls = printed_in text in passed_in (first_commands ls) ls

-- no text has longer pages: nine of 60 lines, and what stands between them
abbrev pub output_room : ℕ
output_room = 39436

-- what a call prints of a text to the start of an area, and how many lines it passes over; bytes behind keep what they held
pub record Pages (text : List ℕ) (r : Paged) (area area' : List ℕ) : Type 0 where
  pub count : r.length ≡ length (pages_output text)
  pub passed : r.passed ≡ passed_over text
  pub bytes : area' ≡ over (pages_output text) area
