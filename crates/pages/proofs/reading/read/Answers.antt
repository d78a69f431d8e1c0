-- `reading::read` meets its contract: each test of the code is one of the conditions, in their order. Assumes nothing.
use mathlib.Core.Path.{◌≡◌, sym, ap, ◌∙◌}
use mathlib.Core.Bool.{true}
use mathlib.Core.List.{List}
use Prim.Native.Nat.{ℕ, ◌≤◌}
use native.Mathlib.Omega.{arith}
use lib.ListN.{length, take}
use Rattle.pages.specs.declared.entries.Entry.{Entry}
use Rattle.pages.specs.declared.lines.Page.{Page}
use Rattle.pages.specs.Entries.{commands_ok}
use Rattle.pages.specs.Page.{rises, page_bytes}
use Rattle.pages.specs.Reading.{lines_number, entries_in, same, page_of}
use Rattle.pages.proofs.ReadingLaws.{few-entries, page-shows, page-count, commands-high}
use Rattle.pages.proofs.ReadingLaws.{read-sizes, read-malformed, read_done, entries-read}
use Rattle.pages.proofs.ReadingLaws.{too_long, not-rising, not_written, is-page}
use Rattle.pages.proofs.reading.read.Goals as goal

-- the page shows the entries that the lines show
module _ (p : ℕ) (bytes : List ℕ) (few : lines_number bytes ≤ 60) (page : Page) (is : page ≡ page_of (entries_in p bytes)) where
  few-shown : length (entries_in p bytes) ≤ 60
  few-shown = few-entries p bytes few

  few-in-use : page.count ≤ 60
  few-in-use = omega (arith, ap (λ (q : Page). q.count) is ∙ page-count (entries_in p bytes), few-shown)

  shown : (entries : List Entry) → entries ≡ take page.count page.lines → entries ≡ entries_in p bytes
  shown entries e = e ∙ ap (λ (q : Page). take q.count q.lines) is ∙ page-shows (entries_in p bytes) few-shown

-- ---- what is to be shown

pub returns-then-not-commands_ok : goal.returns-then-not-commands_ok
returns-then-not-commands_ok c =
    let a = c.args in
    record { answer = sym (read-sizes a.p a.bytes.now (sym c.commands_ok.ensures ∙ c.if-not-commands_ok.true)); page = tt }

pub returns-then-n-gt-MOST : goal.returns-then-n-gt-MOST
unfolding lines_number
returns-then-n-gt-MOST c =
    let a = c.args in
    let sized : commands_ok a.p ≡ true = sym c.commands_ok.ensures ∙ c.if-not-commands_ok.false in
    record { answer = sym (read-malformed a.p a.bytes.now sized (too_long a.p a.bytes.now c.if-n-gt-MOST.true)); page = tt }

pub lines_in-page-requires : goal.lines_in-page-requires
lines_in-page-requires c =
    let sized : commands_ok c.args.p ≡ true = sym c.commands_ok.ensures ∙ c.if-not-commands_ok.false in
    (omega arith, c.if-n-gt-MOST.false, commands-high _ sized)

pub entries-requires : goal.entries-requires
unfolding entries_in lines_number
entries-requires c = few-in-use c.args.p c.args.bytes.now c.if-n-gt-MOST.false c.lines_in-page.result c.lines_in-page.ensures

pub returns-then-not-rises : goal.returns-then-not-rises
unfolding entries_in lines_number
returns-then-not-rises c =
    let a = c.args in
    let sized : commands_ok a.p ≡ true = sym c.commands_ok.ensures ∙ c.if-not-commands_ok.false in
    let are-shown = shown a.p a.bytes.now c.if-n-gt-MOST.false c.lines_in-page.result c.lines_in-page.ensures _ c.entries.ensures in
    let bad = sym (c.rises.ensures ∙ ap rises are-shown) ∙ c.if-not-rises.true in
    record { answer = sym (read-malformed a.p a.bytes.now sized (not-rising a.p a.bytes.now bad)); page = tt }

pub entries-requires-2 : goal.entries-requires-2
unfolding entries_in lines_number
entries-requires-2 c = few-in-use c.args.p c.args.bytes.now c.if-n-gt-MOST.false c.lines_in-page.result c.lines_in-page.ensures

pub is_written-requires : goal.is_written-requires
unfolding entries_in lines_number
is_written-requires c =
    let a = c.args in
    let sized : commands_ok a.p ≡ true = sym c.commands_ok.ensures ∙ c.if-not-commands_ok.false in
    let few : lines_number a.bytes.now ≤ 60 = c.if-n-gt-MOST.false in
    let are-shown = shown a.p a.bytes.now few c.lines_in-page.result c.lines_in-page.ensures _ c.entries-2.ensures in
    (omega (arith, ap length are-shown, few-entries a.p a.bytes.now few), commands-high _ sized)

pub returns-then-not-is_written : goal.returns-then-not-is_written
unfolding entries_in lines_number
returns-then-not-is_written c =
    let a = c.args in
    let sized : commands_ok a.p ≡ true = sym c.commands_ok.ensures ∙ c.if-not-commands_ok.false in
    let are-shown = shown a.p a.bytes.now c.if-n-gt-MOST.false c.lines_in-page.result c.lines_in-page.ensures _ c.entries-2.ensures in
    let there = c.is_written.ensures ∙ ap (λ (es : List Entry). same a.bytes.now (page_bytes a.p es)) are-shown in
    let bad = sym there ∙ c.if-not-is_written.true in
    record { answer = sym (read-malformed a.p a.bytes.now sized (not_written a.p a.bytes.now bad)); page = tt }

pub returns : goal.returns
unfolding entries_in lines_number
returns c =
    let a = c.args in
    let sized : commands_ok a.p ≡ true = sym c.commands_ok.ensures ∙ c.if-not-commands_ok.false in
    let few : lines_number a.bytes.now ≤ 60 = c.if-n-gt-MOST.false in
    let page-is : c.lines_in-page.result ≡ page_of (entries_in a.p a.bytes.now) = c.lines_in-page.ensures in
    let first-shown = shown a.p a.bytes.now few c.lines_in-page.result page-is _ c.entries.ensures in
    let are-shown = shown a.p a.bytes.now few c.lines_in-page.result page-is _ c.entries-2.ensures in
    let there = c.is_written.ensures ∙ ap (λ (es : List Entry). same a.bytes.now (page_bytes a.p es)) are-shown in
    let rising = sym (c.rises.ensures ∙ ap rises first-shown) ∙ c.if-not-rises.false in
    let good = is-page a.p a.bytes.now few rising (sym there ∙ c.if-not-is_written.false) in
    let e = read_done a.p a.bytes.now sized good in
    record { answer = sym e; page = page-is ∙ ap page_of (sym (entries-read a.p a.bytes.now e)) }
