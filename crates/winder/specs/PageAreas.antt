-- What a caller has after writing a page.
use Rattle.std.specs.Prelude.{ℕ, List, length}
use Rattle.pages.specs.declared.entries.Entry.{Entry}
use Rattle.pages.specs.Writing.{write_refusal, written}
use Rattle.winder.specs.Areas.{unless_refused}

-- the length that a caller has after a call
abbrev pub length_after : (p : ℕ) → List Entry → (area : List ℕ) → (held : ℕ) → ℕ
length_after p entries area held = unless_refused (write_refusal p entries area) (length (written p entries area)) held
