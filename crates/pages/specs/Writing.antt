-- What writing a page answers, and what it writes.
use Rattle.std.specs.Prelude.{ℕ, Bool, not, List, [], ◌∷◌, length, leb, eqb}
use Rattle.lists.specs.Choice.{pick}
use Rattle.lists.specs.Refusals.{refusal, first_of}
use Rattle.pages.specs.declared.entries.Entry.{Entry}
use Rattle.pages.specs.Entries.{commands_ok}
use Rattle.pages.specs.Page.{on_page, page_bytes, most_lines, page_length}

-- "area under 4,380 bytes", whatever the page has
unfoldable pub page_room : List ℕ → Bool
page_room area = leb page_length (length area)

-- "more than 60 distinct periods"
unfoldable pub few_periods : List Entry → Bool
few_periods entries = leb (length (on_page entries)) most_lines

-- the number of the refusal, or 0: "p is .. refused by 2 first", "page area checked before entries: 13 .. 14"
unfoldable pub write_refusal : ℕ → List Entry → List ℕ → ℕ
write_refusal p entries area =
    first_of (refusal 2 (not (commands_ok p)) ∷ refusal 13 (not (page_room area)) ∷ refusal 14 (not (few_periods entries)) ∷ [])

-- what is written: nothing where the call is refused
unfoldable pub written : ℕ → List Entry → List ℕ → List ℕ
written p entries area = pick (eqb (write_refusal p entries area) 0) (page_bytes p (on_page entries)) []
