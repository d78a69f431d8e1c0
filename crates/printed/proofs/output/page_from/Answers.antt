-- `output::page_from` meets its contract. The loop's invariant: what is held is the page of the entries from number i on. Assumes nothing.
use mathlib.Core.Path.{◌≡◌, sym, subst}
use mathlib.Core.Bool.{false}
use mathlib.Core.List.{List}
use native.Mathlib.Omega.{arith}
use lib.ListN.{length, drop}
use Rattle.pages.specs.declared.entries.Entry.{Entry}
use Rattle.pages.specs.Placing.{Holds}
use Rattle.pages.proofs.PlacingLaws.{held-rises}
use Rattle.printed.specs.Placing.{entries_from}
use Rattle.printed.proofs.PageLaws.{none_from, one-before, holds-from}
use Rattle.printed.proofs.output.page_from.Goals as goal

pub loop-i-init : goal.loop-i-init
loop-i-init c =
    let entries = c.args.entries.now in
    subst (λ (l : List Entry). Holds c.nothing-placed.result l false) (sym (none_from c.args.from entries (length entries) (omega arith)))
    c.nothing-placed.ensures

pub place_from-placed-requires : goal.place_from-placed-requires
place_from-placed-requires c =
    let l = c.loop-i in
    let a = c.args in
    (l.invariant.few, held-rises l.placed (entries_from a.from (drop l.i a.entries.now)) l.invariant)

pub loop-i-preserved : goal.loop-i-preserved
loop-i-preserved c =
    let l = c.loop-i in
    let a = c.args in
    let h = holds-from _ l.placed c.place_from-placed.result _ _ l.invariant c.place_from-placed.ensures in
    let e = one-before a.from a.entries.now l.i _ (omega arith) (omega arith) in
    subst (λ (t : List Entry). Holds c.place_from-placed.result t false) e h

pub returns : goal.returns
returns c =
    let l = c.loop-i in
    let e : l.i ≡ 0 = omega arith in
    rw e at l.invariant
