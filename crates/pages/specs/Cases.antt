-- A worked page: three entries of two periods, with one command each line.
use Rattle.std.specs.Prelude.{List, [], ◌∷◌, ◌++◌, ℕ}
use Rattle.pages.specs.declared.entries.Entry.{Entry}
use Rattle.pages.specs.Entries.{entries_of}
use Rattle.pages.specs.Line.{spaces}

-- as a caller's words: period 8 in view 2 without a command, whatever stands in its words for one, then period 7 without one, then period 8 in view 10
-- with the command −50, which the first gives way to
unfoldable pub given_entries : List Entry
given_entries = entries_of (
    8 ∷ 2 ∷ 0 ∷ 4 ∷ 4 ∷ 4 ∷ 4
    ∷ 7 ∷ 0 ∷ 0 ∷ 0 ∷ 0 ∷ 0 ∷ 0
    ∷ 8 ∷ 10 ∷ 1 ∷ 4294967246 ∷ 9 ∷ 9 ∷ 9
    ∷ [])

-- `7`, `0` and `-`; then `8`, `10` and `-50`
unfoldable pub given_page : List ℕ
given_page =
    (spaces 9 ++ (55 ∷ []) ++ spaces 10 ++ (48 ∷ []) ++ spaces 12 ++ (45 ∷ []) ++ spaces 38 ++ (10 ∷ []))
    ++ (spaces 9 ++ (56 ∷ []) ++ spaces 9 ++ (49 ∷ 48 ∷ []) ++ spaces 10 ++ (45 ∷ 53 ∷ 48 ∷ []) ++ spaces 38 ++ (10 ∷ []))
