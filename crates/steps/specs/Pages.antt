-- A page that is read, line by line as words.
use Rattle.std.specs.Prelude.{ℕ, ◌≡◌, List, [], ◌∷◌, length, get_or}
use Rattle.lists.specs.Places.{entry}
use Rattle.octets.specs.Words.{twos_complement}
use Rattle.estimate.specs.Marks.{bit}
use Rattle.pages.specs.declared.entries.Entry.{Entry}
use Rattle.pages.specs.Entries.{decided, values_of, blank}
use Rattle.pages.specs.Reading.{read_refusal, read_entries}
use Rattle.winder.specs.Areas.{unless_refused}

-- the seven words of an entry, as it is handed to writing
unfoldable pub words_of : Entry → List ℕ
words_of e =
    e.period
    ∷ e.view
    ∷ bit (decided e)
    ∷ twos_complement (entry (values_of e) 0)
    ∷ twos_complement (entry (values_of e) 1)
    ∷ twos_complement (entry (values_of e) 2)
    ∷ twos_complement (entry (values_of e) 3)
    ∷ []

-- what reading leaves: the answer, the number of lines, and the words of one of them, 0 where there is none
pub record ReadsPage (p : ℕ) (bytes : List ℕ) (line r count count' : ℕ) (words words' : List ℕ) : Type 0 where
  pub answer : r ≡ read_refusal p bytes
  pub lines : count' ≡ unless_refused (read_refusal p bytes) (length (read_entries p bytes)) count
  pub entry : words' ≡ unless_refused (read_refusal p bytes) (words_of (get_or (read_entries p bytes) line blank)) words
