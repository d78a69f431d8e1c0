-- `output::place_from` meets its contract. Assumes nothing.
use mathlib.Core.Path.{refl, sym, subst}
use mathlib.Core.List.{List}
use Prim.Native.Nat.{◌<◌, ◌≤◌}
use native.Mathlib.Omega.{arith}
use lib.ListN.{take}
use borrow.Author.Tests.{lt-ltb, le-ltb}
use Rattle.lists.proofs.Choice.{pick_true, pick-false}
use Rattle.pages.specs.declared.entries.Entry.{Entry}
use Rattle.pages.specs.Placing.{Holds}
use Rattle.pages.proofs.PlacingLaws.{all_held, take-few}
use Rattle.printed.proofs.output.place_from.Goals as goal

pub returns-then-from : goal.returns-then-from
returns-then-from c =
    let page = c.args.placed.page in
    let low : c.args.entry.period < c.args.from = omega (arith, c.from.ensures, c.if-from.true) in
    subst (λ (t : List Entry). Holds c.args.placed t c.args.placed.more) (sym (pick_true _ _ _ (lt-ltb _ _ low)))
    (all_held page c.args.placed.more (take page.count page.lines) c.requires.0 refl (take-few page.lines page.count c.requires.0))

pub returns : goal.returns
returns c =
    let high : c.args.from ≤ c.args.entry.period = omega (arith, c.from.ensures, c.if-from.false) in
    subst (λ (t : List Entry). Holds c.place.result t c.args.placed.more) (sym (pick-false _ _ _ (le-ltb _ _ high))) c.place.ensures
