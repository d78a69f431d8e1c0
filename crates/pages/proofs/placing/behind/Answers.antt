-- `placing::behind` meets its contract. Assumes nothing.
use mathlib.Core.Path.{◌≡◌}
use mathlib.Core.List.{[], ◌∷◌}
use native.Mathlib.Omega.{arith}
use native.Mathlib.Numerals.{add-one}
use lib.ListN.{length, take, length-append}
use lib.Seq.{take-suc-set, length-take-le}
use borrow.Author.Rules.{rules}
use Rattle.pages.proofs.LineLaws.{length-mapped}
use Rattle.pages.proofs.PlacingLaws.{all_held, none_left}
use Rattle.pages.proofs.placing.behind.Goals as goal

pub returns-then-page-ge-MOST : goal.returns-then-page-ge-MOST
returns-then-page-ge-MOST c =
    let page = c.args.page in
    let sixty : length page.lines ≡ 60 = search (rules, length-mapped) in
    none_left page.lines page.count c.args.entry c.args.more sixty (omega arith)

pub returns : goal.returns
returns c =
    let page = c.args.page in
    let e = c.args.entry in
    let sixty : length page.lines ≡ 60 = search (rules, length-mapped) in
    let room : length (take page.count page.lines) ≡ page.count = length-take-le page.count page.lines (omega arith) in
    all_held _ _ _ (omega arith) (rw add-one (take-suc-set page.lines page.count e (omega arith)))
    (omega (arith, length-append (take page.count page.lines) (e ∷ [])))
