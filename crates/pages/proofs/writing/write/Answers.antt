-- `writing::write` meets its contract: each test of the code is a case of the definition, in their order. Assumes nothing.
use mathlib.Core.Path.{◌≡◌, sym, ap, ◌∙◌}
use mathlib.Core.Bool.{true}
use native.Mathlib.Omega.{arith}
use lib.ListN.{length}
use lib.Seq.{take_all}
use borrow.Author.Tests.{ltb-false}
use Rattle.text.proofs.PrintingLaws.{put_whole, puts-same}
use Rattle.pages.specs.Entries.{commands_ok, entries_of}
use Rattle.pages.specs.Page.{on_page, page_bytes}
use Rattle.pages.proofs.LineLaws.{page-length}
use Rattle.pages.proofs.ReadingLaws.{commands-high}
use Rattle.pages.proofs.WritingLaws.{write-sizes, write-area, write-periods, write_done, nothing_written, page-written}
use Rattle.pages.proofs.writing.write.Goals as goal

pub returns-then-not-commands_ok : goal.returns-then-not-commands_ok
returns-then-not-commands_ok c =
    let a = c.args in
    let e = write-sizes a.p (entries_of a.words.now) a.area.now (sym c.commands_ok.ensures ∙ c.if-not-commands_ok.true) in
    let w = nothing_written a.p (entries_of a.words.now) a.area.now 1 e in
    record { answer = sym e; count = tt; bytes = rw w }

pub returns-then-area-lt-PAGE : goal.returns-then-area-lt-PAGE
returns-then-area-lt-PAGE c =
    let ok : commands_ok c.args.p ≡ true = sym c.commands_ok.ensures ∙ c.if-not-commands_ok.false in
    let a = c.args in
    let e = write-area a.p (entries_of a.words.now) a.area.now ok c.if-area-lt-PAGE.true in
    let w = nothing_written a.p (entries_of a.words.now) a.area.now 12 e in
    record { answer = sym e; count = tt; bytes = rw w }

pub returns-then-placed : goal.returns-then-placed
returns-then-placed c =
    let ok : commands_ok c.args.p ≡ true = sym c.commands_ok.ensures ∙ c.if-not-commands_ok.false in
    let a = c.args in
    let e = write-periods a.p (entries_of a.words.now) a.area.now ok c.if-area-lt-PAGE.false
    (sym (c.place_words-placed.ensures).more ∙ c.if-placed.true) in
    let w = nothing_written a.p (entries_of a.words.now) a.area.now 13 e in
    record { answer = sym e; count = tt; bytes = rw w }

pub entries-requires : goal.entries-requires
entries-requires c = c.place_words-placed.ensures.few

pub put_lines-requires : goal.put_lines-requires
put_lines-requires c = commands-high _ (sym c.commands_ok.ensures ∙ c.if-not-commands_ok.false)

pub returns : goal.returns
returns c =
    let a = c.args in
    let all = entries_of a.words.now in
    let h = c.place_words-placed.ensures in
    let few = sym h.more ∙ c.if-placed.false in
    let ok : commands_ok c.args.p ≡ true = sym c.commands_ok.ensures ∙ c.if-not-commands_ok.false in
    let e = write_done a.p all a.area.now ok c.if-area-lt-PAGE.false few in
    let w = page-written a.p all a.area.now e in
    let short = ltb-false 60 (length (on_page all)) few in
    let whole : page_bytes a.p c.entries.result.now ≡ page_bytes a.p (on_page all) =
    ap (page_bytes a.p) (c.entries.ensures ∙ h.lines ∙ take_all 60 (on_page all) short) in
    let put = put_whole (omega (arith, page-length a.p (on_page all) (commands-high _ ok), short, c.if-area-lt-PAGE.false)) (puts-same whole c.put_lines.ensures) in
    record { answer = sym e; count = put.count ∙ rw w; bytes = put.bytes ∙ rw w }
