-- `taking::take_entries` meets its contract. The loop's invariant: what was taken so far, and the entries of the lines left, are those of the text.
-- Assumes nothing.
use mathlib.Core.Path.{◌≡◌, sym, ap, ◌∙◌}
use mathlib.Core.List.{List, ◌∷◌, ◌++◌}
use Prim.Native.Nat.{◌+◌}
use native.Mathlib.Omega.{arith}
use lib.ListN.{take}
use Rattle.printed.specs.declared.lines.Printed.{Printed}
use Rattle.printed.specs.Pages.{entries_in}
use Rattle.printed.proofs.TextLaws.{left, all_left, left-next, left_end, left-none, entries-more, entries_none}
use Rattle.printed.proofs.taking.take_entries.Goals as goal

pub loop-init : goal.loop-init
loop-init c = (omega arith, ap (entries_in c.args.p) (all_left c.args.text.now))

pub returns-then-text-at : goal.returns-then-text-at
returns-then-text-at c =
    let l = c.loop in
    let a = c.args in
    (omega (arith, l.invariant.0), sym (entries_none a.p _ _ (left_end a.text.now l.at l.counter c.if-text-at.true)) ∙ l.invariant.1)

pub take_line-requires : goal.take_line-requires
take_line-requires c = omega (arith, c.loop.invariant.0)

pub loop-preserved : goal.loop-preserved
loop-preserved c =
    let l = c.loop in
    let a = c.args in
    let text = a.text.now in
    let stop = c.line_end-stop in
    let line = c.line_in in
    let next : left text l.at l.counter ≡ line.result ∷ left text (stop.result + 1) (l.counter + 1) =
    left-next text l.at l.counter stop.result line.result (omega arith) (omega (arith, c.if-text-at.false)) stop.ensures.2 stop.ensures.3 line.ensures in
    let so_far = take l.taken.count l.taken.entries in (
      omega (arith, l.invariant.0, c.take_line.ensures.0),
      entries-more a.p so_far _ line.result _ c.take_line.ensures.1
          ∙ ap (λ (t : List Printed). so_far ++ entries_in a.p t) (sym next)
          ∙ l.invariant.1,
    )

pub returns : goal.returns
returns c =
    let l = c.loop in
    let a = c.args in
    (omega (arith, l.invariant.0), sym (entries_none a.p _ _ (left-none a.text.now l.at l.counter (omega arith))) ∙ l.invariant.1)
