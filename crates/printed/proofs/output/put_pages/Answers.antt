-- `output::put_pages` meets its contract. The loop's invariant: so many pages were put, and the entries from `from` on are those of the pages left.
-- Assumes nothing.
use native.Mathlib.Omega.{arith}
use Rattle.printed.proofs.PageLaws.{no-page, pages-done, page-last, page-next}
use Rattle.printed.proofs.output.put_pages.Goals as goal

pub loop-init : goal.loop-init
loop-init c = no-page c.args.p c.args.text.now c.args.entries.now

pub entries-requires : goal.entries-requires
entries-requires c = c.page_from-placed.ensures.few

pub returns-then-not-placed : goal.returns-then-not-placed
returns-then-not-placed c =
    let l = c.loop in
    let a = c.args in
    let placed = c.page_from-placed in
    page-last a.p _ a.entries.now _ l.end l.from l.counter l.invariant placed.result _ _
    (omega arith) placed.ensures (rw c.entries.ensures at c.put_lines-end.ensures) c.if-not-placed.true

pub loop-preserved : goal.loop-preserved
loop-preserved c =
    let l = c.loop in
    let a = c.args in
    let placed = c.page_from-placed in
    page-next a.p _ a.entries.now _ l.end l.from l.counter l.invariant placed.result _ _
    (omega arith) placed.ensures (rw c.entries.ensures at c.put_lines-end.ensures) _ _ _ _
    c.if-not-placed.false c.put_form_feed-end.ensures c.period_behind-from.ensures

pub returns : goal.returns
returns c =
    let l = c.loop in
    let a = c.args in
    pages-done a.p _ a.entries.now _ l.end l.from l.counter l.invariant (omega arith)
