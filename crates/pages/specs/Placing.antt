-- What is held of the entries that stand on a page while they are placed.
use Rattle.std.specs.Prelude.{◌≤◌, ◌≡◌, Bool, ◌||◌, List, length, take, ltb}
use Rattle.pages.specs.declared.entries.Entry.{Entry}
use Rattle.pages.specs.declared.placing.Placed.{Placed}
use Rattle.pages.specs.Page.{most_lines}

-- the first 60 of these entries, and whether there are more of them or were before
pub record Holds (r : Placed) (entries : List Entry) (before : Bool) : Type 0 where
  pub few : r.page.count ≤ most_lines
  pub lines : take r.page.count r.page.lines ≡ take most_lines entries
  pub more : r.more ≡ (before || ltb most_lines (length entries))
