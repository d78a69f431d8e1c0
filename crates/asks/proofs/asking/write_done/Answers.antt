-- `asking::write_done` meets its contract. Assumes nothing.
use mathlib.Core.Path.{sym, ap, ◌∙◌}
use mathlib.Core.List.{[]}
use lib.ListN.{length}
use Rattle.lists.proofs.Choice.{pick_true, pick-false}
use Rattle.octets.specs.Areas.{over}
use Rattle.records.specs.Recording.{recorded}
use Rattle.asks.proofs.asking.write_done.Goals as goal

pub returns-then-is_done : goal.returns-then-is_done
returns-then-is_done c =
    let a = c.args in
    let done = sym c.is_done.ensures ∙ c.if-is_done.true in
    c.write.ensures.area ∙ ap (λ b. over b a.area.now) (sym (pick_true _ (recorded a.replica (length a.area.now)) [] done))

pub returns-else-is_done : goal.returns-else-is_done
returns-else-is_done c =
    let a = c.args in
    let left = sym c.is_done.ensures ∙ c.if-is_done.false in
    ap (λ b. over b a.area.now) (sym (pick-false _ (recorded a.replica (length a.area.now)) [] left))
