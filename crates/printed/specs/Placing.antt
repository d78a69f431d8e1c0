-- How the entries of a text are divided among pages while they are placed.
use Rattle.std.specs.Prelude.{ℕ, List, [], ◌∷◌, ltb}
use Rattle.lists.specs.Choice.{pick}
use Rattle.pages.specs.declared.entries.Entry.{Entry}

-- those from a period on
unfoldable pub entries_from : ℕ → List Entry → List Entry
entries_from from [] = []
entries_from from (e ∷ es) = pick (ltb e.period from) (entries_from from es) (e ∷ entries_from from es)
