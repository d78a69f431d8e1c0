-- `output::pages` meets its contract: the area has room for all pages. Assumes nothing.
use mathlib.Core.Path.{◌≡◌, ap, ◌∙◌}
use mathlib.Core.List.{List}
use Prim.Native.Nat.{ℕ, ◌≤◌}
use native.Mathlib.Omega.{arith}
use lib.ListN.{length, take}
use borrow.Author.Rules.{rules}
use Rattle.text.specs.Lines.{lines_of}
use Rattle.text.proofs.PrintingLaws.{put_whole, puts-same}
use Rattle.pages.specs.declared.entries.Entry.{Entry}
use Rattle.pages.specs.Page.{on_page}
use Rattle.printed.specs.Pages.{most, printed_in, paged, output_room, pages_output, entries_in, passed_in, passed_over}
use Rattle.printed.proofs.TextLaws.{first-few}
use Rattle.printed.proofs.PageLaws.{pages-room}
use Rattle.printed.proofs.output.pages.Goals as goal

pub put_pages-length-requires : goal.put_pages-length-requires
unfolding printed_in
put_pages-length-requires c =
    let few : c.first_commands-p.result ≤ 4 = omega (arith, c.first_commands-p.ensures, first-few (lines_of most c.args.text.now)) in
    few

pub entries-requires : goal.entries-requires
entries-requires c = c.take_entries-taken.ensures.0

pub returns : goal.returns
unfolding pages_output passed_over printed_in
returns c =
    let room : length c.args.output.now ≡ output_room = search rules in
    let few : c.first_commands-p.result ≤ 4 = omega (arith, c.first_commands-p.ensures, first-few (lines_of most c.args.text.now)) in
    let taken = c.take_entries-taken in
    let p = c.first_commands-p.result in
    let ls = printed_in c.args.text.now in
    let es = take taken.result.count taken.result.entries in
    let same : paged p 9 (on_page es) ≡ pages_output c.args.text.now =
    ap (λ (t : List Entry). paged p 9 (on_page t)) taken.ensures.1
    ∙ ap (λ (n : ℕ). paged n 9 (on_page (entries_in n ls))) c.first_commands-p.ensures in
    let short = pages-room p taken.result.entries taken.result.count few taken.ensures.0 in
    let put = put_whole (omega (arith, ap length same, room)) (puts-same same (rw c.entries.ensures at c.put_pages-length.ensures)) in
    record {
      count = put.count;
      passed = c.count_passed.ensures ∙ ap (λ (n : ℕ). passed_in n ls) c.first_commands-p.ensures;
      bytes = put.bytes;
    }
