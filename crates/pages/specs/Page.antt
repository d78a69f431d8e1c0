-- The lines of a page: which entries stand on it, in which order, and their bytes.
use Rattle.std.specs.Prelude.{ℕ, ◌*◌, Bool, true, not, ◌&&◌, List, [], ◌∷◌, ◌++◌, eqb, ltb}
use Rattle.lists.specs.Choice.{pick}
use Rattle.pages.specs.declared.entries.Entry.{Entry}
use Rattle.pages.specs.Entries.{decided}
use Rattle.pages.specs.Line.{line_bytes, line_length}

-- which of two entries of one period stands on the page, e given before q: "the first given; one without a command gives way to one with it"
unfoldable pub standing : Entry → Entry → Entry
standing e q = pick (not (decided e) && decided q) q e

-- an entry among those that stand already, which were given after it: "Equal periods appear as one line", the others "in rising order"
unfoldable pub placed : Entry → List Entry → List Entry
placed e [] = e ∷ []
placed e (q ∷ qs) =
    pick (ltb e.period q.period)
    (e ∷ q ∷ qs)
    (pick (eqb e.period q.period) (standing e q ∷ qs) (q ∷ placed e qs))

-- the entries that stand on the page, of those given
unfoldable pub on_page : List Entry → List Entry
on_page [] = []
on_page (e ∷ es) = placed e (on_page es)

-- "in rising order"
unfoldable pub rises : List Entry → Bool
rises [] = true
rises (e ∷ []) = true
rises (e ∷ q ∷ qs) = ltb e.period q.period && rises (q ∷ qs)

-- their lines, one after the other
unfoldable pub page_bytes : ℕ → List Entry → List ℕ
page_bytes p [] = []
page_bytes p (e ∷ es) = line_bytes p e ++ page_bytes p es

-- "At most 60 periods stand on a page"
abbrev pub most_lines : ℕ
most_lines = 60

-- the longest page, which a page's area must have room for
abbrev pub page_length : ℕ
page_length = most_lines * line_length
