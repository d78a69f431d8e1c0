-- `placing::place_words` meets its contract. The loop's invariant: what is held is the page of the entries from number i on. Assumes nothing.
use mathlib.Core.Path.{◌≡◌, refl, sym, ap, ◌∙◌, subst}
use mathlib.Core.Bool.{false}
use mathlib.Core.List.{List}
use Prim.Native.Nat.{◌-◌, ◌*◌, ◌/◌}
use native.Mathlib.Omega.{arith}
use lib.ListN.{length, drop}
use Rattle.pages.specs.declared.entries.Entry.{Entry}
use Rattle.pages.specs.Entries.{first_entries}
use Rattle.pages.specs.Page.{placed as Page·placed}
use Rattle.pages.specs.Placing.{Holds}
use Rattle.pages.proofs.PlacingLaws.{holds-all, held-rises}
use Rattle.pages.proofs.WordLaws.{standing_from, none-behind, all-of-them, one-before}
use Rattle.pages.proofs.placing.place_words.Goals as goal

pub loop-i-init : goal.loop-i-init
loop-i-init c =
    let words = c.args.words.now in
    subst (λ (l : List Entry). Holds c.nothing-placed.result l false) (sym (none-behind words (length words / 7) refl)) c.nothing-placed.ensures

pub place-placed-requires : goal.place-placed-requires
place-placed-requires c =
    let l = c.loop-i in
    let words = c.args.words.now in
    (l.invariant.few, held-rises l.placed (first_entries (length words / 7 - l.i) (drop (7 * l.i) words)) l.invariant)

pub loop-i-preserved : goal.loop-i-preserved
loop-i-preserved c =
    let l = c.loop-i in
    let words = c.args.words.now in
    let h = holds-all l.placed c.place-placed.result c.entry_at.result (standing_from words l.i) l.invariant c.place-placed.ensures in
    let e = ap (λ (q : Entry). Page·placed q (standing_from words l.i)) c.entry_at.ensures
    ∙ sym (one-before words l.i (omega arith) (omega arith)) in
    subst (λ (t : List Entry). Holds c.place-placed.result t false) e h

pub returns : goal.returns
returns c =
    let l = c.loop-i in
    let words = c.args.words.now in
    let e : l.i ≡ 0 = omega arith in
    subst (λ (t : List Entry). Holds l.placed t false) (all-of-them words) (rw e at l.invariant)
