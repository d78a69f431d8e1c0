-- `ticketed::stepping::leave` meets its contract. Assumes nothing.
use mathlib.Core.Path.{sym, ap, ◌∙◌}
use mathlib.Core.List.{List, [], ◌∷◌}
use Prim.Native.Nat.{ℕ}
use Rattle.lists.proofs.Choice.{pick_true, pick-false}
use Rattle.octets.specs.Areas.{put}
use Rattle.ticketed.proofs.stepping.leave.Goals as goal

pub returns-then-is_done : goal.returns-then-is_done
returns-then-is_done c =
    c.put_bytes.ensures
    ∙ ap (λ (l : List ℕ). put l 618 (0 ∷ [])) c.write.ensures.area
    ∙ sym (pick_true _ _ _ (sym c.is_done.ensures ∙ c.if-is_done.true))

pub returns-else-is_done : goal.returns-else-is_done
returns-else-is_done c = sym (pick-false _ _ _ (sym c.is_done.ensures ∙ c.if-is_done.false))
