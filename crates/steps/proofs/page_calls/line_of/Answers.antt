-- `page_calls::line_of` meets its contract. Assumes nothing.
use Rattle.std.proofs.Common.{◌≡◌, sym, ◌∙◌, length, arith, rules}
use lib.ListN.{get_or-eq_default}
use Rattle.lists.proofs.Parts.{get_d_any}
use Rattle.pages.specs.Entries.{blank}
use Rattle.pages.proofs.LineLaws.{length-mapped}
use Rattle.steps.proofs.page_calls.line_of.Goals as goal

pub returns-then-line-lt-MOST : goal.returns-then-line-lt-MOST
returns-then-line-lt-MOST c =
    let sixty : length c.args.page.lines ≡ 60 = search (rules, length-mapped) in
    get_d_any c.args.page.lines c.args.line _ blank (omega (arith, sixty))

pub returns-else-line-lt-MOST : goal.returns-else-line-lt-MOST
returns-else-line-lt-MOST c =
    let sixty : length c.args.page.lines ≡ 60 = search (rules, length-mapped) in
    c.blank.ensures ∙ sym (get_or-eq_default c.args.page.lines blank (omega (arith, sixty)))
