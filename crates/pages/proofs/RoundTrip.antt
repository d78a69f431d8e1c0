-- The laws of writing a page and reading it back. Assumes nothing.
use mathlib.Core.Path.{◌≡◌, sym, ap, ◌∙◌, subst}
use mathlib.Core.List.{List, map}
use Prim.Native.Nat.{ℕ, ◌*◌, ◌/◌, ◌≤◌, ◌<◌, ◌^◌}
use native.Mathlib.Omega.{arith}
use lib.ListN.{length, get_or}
use borrow.Author.Tests.{le-ltb}
use Rattle.pages.specs.declared.entries.Entry.{Entry}
use Rattle.pages.specs.Entries.{entries_of, AllTyped, shown}
use Rattle.pages.specs.Line.{line_length}
use Rattle.pages.specs.Page.{on_page, rises, page_bytes, most_lines, page_length}
use Rattle.pages.specs.Writing.{write_refusal, written}
use Rattle.pages.specs.Reading.{entries_in, same, read_refusal, read_entries, ReadAs}
use Rattle.pages.proofs.LineLaws.{page-length}
use Rattle.pages.proofs.PlacingLaws.{on-page-rises}
use Rattle.pages.proofs.ReadingLaws.{commands-low, commands-high, entries-of, lines-few, few-entries, read_done, entries-read, is-page, same_self}
use Rattle.pages.proofs.ReadingLaws as Reading
use Rattle.pages.proofs.WritingLaws.{write_done, page-written}
use Rattle.pages.proofs.WritingLaws as Writing
use Rattle.pages.proofs.ShownLaws.{on-page-typed, rising-stay, shown-rises, shown-bytes, lines-read, first-typed}

-- (a) What was written is read back as the periods, views and commands that stand on it.
pub written-reads : (p : ℕ) (entries : List Entry) (area : List ℕ) → AllTyped entries → write_refusal p entries area ≡ 0
    → ReadAs p (written p entries area) (map (shown p) (on_page entries))
written-reads p entries area t e =
    let a = Writing.accepted p entries area e in
    let few = commands-high p a.sized in
    let all : List Entry = on_page entries in
    let typed : AllTyped all = on-page-typed entries t in
    let bytes : List ℕ = page_bytes p all in
    let size : length bytes ≡ line_length * length all = page-length p all few in
    let number : length bytes / line_length ≡ length all = omega arith in
    let read : entries_in p bytes ≡ map (shown p) all = entries-of p bytes (length all) number ∙ lines-read p all (commands-low p a.sized) few typed in
    let done : read_refusal p bytes ≡ 0 =
    read_done p bytes a.sized
    (is-page p bytes (lines-few bytes (length all) number a.few)
    (ap rises read ∙ shown-rises p all (on-page-rises entries))
    (ap (λ (l : List Entry). same bytes (page_bytes p l)) read ∙ ap (same bytes) (shown-bytes p all few typed) ∙ same_self bytes)) in
    subst (λ (b : List ℕ). ReadAs p b (map (shown p) all)) (sym (page-written p entries area e))
    (record { done = done; entries = entries-read p bytes done ∙ read })

-- (b) Whatever reading accepts, writing it gives the very bytes that were read.
pub read-writes : (p : ℕ) (bytes area : List ℕ) → read_refusal p bytes ≡ 0 → page_length ≤ length area
    → (write_refusal p (read_entries p bytes) area ≡ 0) × (written p (read_entries p bytes) area ≡ bytes)
read-writes p bytes area e room =
    let a = Reading.accepted p bytes e in
    let es : List Entry = entries_in p bytes in
    let read : read_entries p bytes ≡ es = entries-read p bytes e in
    let stay : on_page es ≡ es = rising-stay es a.rising in
    let few : length (on_page es) ≤ most_lines = omega (arith, ap length stay, few-entries p bytes a.few) in
    let done : write_refusal p es area ≡ 0 = write_done p es area a.sized room (le-ltb most_lines (length (on_page es)) few) in (
      ap (λ (l : List Entry). write_refusal p l area) read ∙ done,
      ap (λ (l : List Entry). written p l area) read ∙ page-written p es area done ∙ ap (page_bytes p) stay ∙ sym a.lines,
    )

-- (c) What reading refuses by 14 no writing gives.
pub refused-no-page : (p : ℕ) (bytes : List ℕ) → read_refusal p bytes ≡ 14 → (entries : List Entry) (area : List ℕ) → AllTyped entries
    → write_refusal p entries area ≡ 0 → written p entries area ≡ bytes → ⊥
refused-no-page p bytes r entries area t e w =
    let z : ◌≡◌ {A = ℕ} 14 0 = sym r ∙ ap (read_refusal p) (sym w) ∙ (written-reads p entries area t e).done in omega arith

-- The entries in words of 32 bits, as a call is handed them, are within the widths of their types: so (a) and (c) hold of every call.
pub words-typed : (words : List ℕ) → ((i : ℕ) → get_or words i 0 < 2 ^ 32) → AllTyped (entries_of words)
unfolding entries_of
words-typed words h = first-typed (length words / 7) words h
