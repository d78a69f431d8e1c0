-- `placing::place` meets its contract. The loop's invariant: of the lines in use the first i are as they shall be, and `moved`, carried through the
-- others, gives them all. Assumes nothing.
use mathlib.Core.Path.{◌≡◌, refl, sym, ap, ◌∙◌, subst}
use mathlib.Core.List.{List}
use native.Mathlib.Omega.{arith}
use lib.ListN.{length, take, set, length-set}
use lib.Seq.{length-take-le}
use borrow.Author.Rules.{rules}
use Rattle.pages.specs.declared.entries.Entry.{Entry}
use Rattle.pages.specs.Placing.{Holds}
use Rattle.pages.proofs.LineLaws.{length-mapped}
use Rattle.pages.proofs.PlacingLaws.{carried-placed, found, turn, last, all_held}
use Rattle.pages.proofs.placing.place.Goals as goal

pub loop-i-init : goal.loop-i-init
loop-i-init c =
    let sixty : length c.args.placed.page.lines ≡ 60 = search (rules, length-mapped) in
    (sixty, refl)

pub returns-then-moved-held : goal.returns-then-moved-held
returns-then-moved-held c =
    let l = c.loop-i in
    let p = c.args.placed in
    let e = found l.lines p.page.count l.i l.moved _ _ (omega arith) (omega arith) l.invariant.1
    c.standing.result c.if-moved-held.true c.standing.ensures in
    let all = e ∙ carried-placed c.args.entry (take p.page.count p.page.lines) c.requires.1 in
    all_held _ _ _ c.requires.0 all (omega (arith, ap length (sym all), length-take-le p.page.count (set l.lines l.i c.standing.result) (rw length-set (omega arith))))

pub loop-i-preserved : goal.loop-i-preserved
loop-i-preserved c =
    let l = c.loop-i in
    let p = c.args.placed in
    let ordered = c.in_order in (
      search rules,
      turn l.lines p.page.count l.i l.moved _ _ (omega arith) (omega arith) l.invariant.1
          ordered.result.0 ordered.result.1 c.if-moved-held.false ordered.ensures.0 ordered.ensures.1,
    )

pub returns : goal.returns
returns c =
    let l = c.loop-i in
    let p = c.args.placed in
    let e : l.i ≡ p.page.count = omega arith in
    let all = last l.lines p.page.count l.moved _ (rw e at l.invariant.1) (omega arith)
    ∙ carried-placed c.args.entry (take p.page.count p.page.lines) c.requires.1 in
    subst (λ (t : List Entry). Holds c.behind.result t p.more) all c.behind.ensures
