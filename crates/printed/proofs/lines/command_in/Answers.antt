-- `lines::command_in` meets its contract. Assumes nothing.
use mathlib.Core.Path.{sym, ap, ◌∙◌}
use mathlib.Core.List.{List}
use Prim.Native.Nat.{ℕ}
use Rattle.std.specs.Prelude.{None, Some}
use Rattle.lists.specs.Choice.{pick}
use Rattle.lists.proofs.Choice.{pick_true, pick-false}
use Rattle.printed.specs.Values.{is_list, values_of}
use Rattle.printed.proofs.lines.command_in.Goals as goal

pub returns-then-is_none : goal.returns-then-is_none
returns-then-is_none c = sym (pick_true _ _ _ (sym c.is_none.ensures ∙ c.if-is_none.true))

pub returns : goal.returns
returns c =
    let none = sym c.is_none.ensures ∙ c.if-is_none.false in
    let list = rw none at c.requires in
    c.values_in.ensures
    ∙ ap (λ (l : List ℕ). pick (is_list 4 l) (Some (values_of 4 l)) None) c.unstarred.ensures
    ∙ pick_true _ _ _ list
    ∙ sym (pick-false _ _ _ none)
