-- Laws of a page that is read. Assumes nothing.
use mathlib.Core.Path.{◌≡◌, ap, sym, ◌∙◌}
use mathlib.Core.List.{List}
use Prim.Native.Nat.{ℕ, ◌≤◌}
use native.Mathlib.Omega.{arith}
use native.Mathlib.Decide.{dec_le}
use lib.ListN.{length, get_or, get_or-eq_default}
use Rattle.lists.proofs.Places.{filled_at, filled-beyond}
use Rattle.pages.specs.declared.entries.Entry.{Entry}
use Rattle.pages.specs.declared.lines.Page.{Page}
use Rattle.pages.specs.Entries.{blank}
use Rattle.pages.specs.Page.{most_lines}
use Rattle.pages.specs.Reading.{read_refusal, read_entries, page_of}
use Rattle.pages.proofs.ReadingLaws.{few-entries, page-count, entries-read, accepted}

-- a page of these entries has them on its lines, and blanks behind them
page-line : (es : List Entry) (line : ℕ) → length es ≤ most_lines → get_or (page_of es).lines line blank ≡ get_or es line blank
unfolding page_of
page-line es line few = by (dec_le (length es) line)
  where
    by : Dec (length es ≤ line) → get_or (page_of es).lines line blank ≡ get_or es line blank
    by (yes h) = filled-beyond blank most_lines (length es) line (λ i. get_or es i blank) h ∙ sym (get_or-eq_default es blank h)
    by (no h) = filled_at blank most_lines (length es) line (λ i. get_or es i blank) (omega (arith, h)) (omega (arith, h))

module _ (p : ℕ) (bytes : List ℕ) (done : read_refusal p bytes ≡ 0) (page : Page) (shows : page ≡ page_of (read_entries p bytes)) where
  -- no more entries are read than a page has lines
  few-read : length (read_entries p bytes) ≤ most_lines
  few-read = omega (arith, few-entries p bytes (accepted p bytes done).few, ap length (entries-read p bytes done))

  -- the page that shows them has as many lines in use
  pub count-read : page.count ≡ length (read_entries p bytes)
  count-read = ap (λ (q : Page). q.count) shows ∙ page-count (read_entries p bytes)

  -- and has them there
  pub line_read : (line : ℕ) → get_or page.lines line blank ≡ get_or (read_entries p bytes) line blank
  line_read line = ap (λ (q : Page). get_or q.lines line blank) shows ∙ page-line (read_entries p bytes) line few-read
