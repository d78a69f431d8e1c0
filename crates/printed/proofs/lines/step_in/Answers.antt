-- `lines::step_in` meets its contract. Assumes nothing.
use mathlib.Core.Path.{◌≡◌, sym, ap, ◌∙◌}
use mathlib.Core.List.{List}
use Prim.Native.Nat.{ℕ}
use native.Mathlib.Omega.{arith}
use lib.IntN.{pos}
use lib.ListN.{take}
use Rattle.std.specs.Prelude.{None, Some}
use Rattle.lists.specs.Choice.{pick}
use Rattle.lists.specs.Places.{filled}
use Rattle.lists.proofs.Choice.{pick_true, pick-false}
use Rattle.line.specs.Fields.{field}
use Rattle.text.specs.Numbers.{magnitude, size_in}
use Rattle.printed.specs.declared.values.Values.{Values}
use Rattle.printed.specs.declared.lines.Printed.TheVariants.{Step}
use Rattle.printed.specs.Values.{how_many, value_at, values_of}
use Rattle.printed.specs.Lines.{is_none, unstarred, commands_in, entry_in}
use Rattle.printed.proofs.LineLaws.{step-command, many-most, fewer-filled, none-is, some-is}
use Rattle.printed.proofs.lines.step_in.Goals as goal

pub command_in-requires : goal.command_in-requires
command_in-requires c = rw c.field-3.ensures (step-command _ c.requires)

pub returns-in-None : goal.returns-in-None
unfolding entry_in commands_in
returns-in-None c =
    let last = field 9 c.args.line.now in
    let period = c.unwrap_or-period.ensures ∙ ap size_in (c.read_magnitude.ensures ∙ ap magnitude c.field.ensures) in
    let view = c.unwrap_or-view.ensures ∙ ap size_in (c.read_magnitude-2.ensures ∙ ap magnitude c.field-2.ensures) in
    let found : c.command_in.result ≡ pick (is_none last) None (Some (values_of 4 (unstarred last))) =
    c.command_in.ensures ∙ ap (λ (l : List ℕ). pick (is_none l) None (Some (values_of 4 (unstarred l)))) c.field-3.ensures in
    let none = none-is _ _ (sym found ∙ c.in-None.is) in
    let command = sym (pick_true _ None (Some (filled (pos 0) 4 (commands_in c.args.line.now) (value_at (unstarred last)))) none) in
    let n : 0 ≡ commands_in c.args.line.now = sym (pick_true _ _ _ none) in
    λ i. Step (record { period = period i; view = view i; command = command i }) (n i)

pub returns-in-Some : goal.returns-in-Some
unfolding entry_in commands_in values_of
returns-in-Some c =
    let last = field 9 c.args.line.now in
    let u = unstarred last in
    let period = c.unwrap_or-period.ensures ∙ ap size_in (c.read_magnitude.ensures ∙ ap magnitude c.field.ensures) in
    let view = c.unwrap_or-view.ensures ∙ ap size_in (c.read_magnitude-2.ensures ∙ ap magnitude c.field-2.ensures) in
    let found : c.command_in.result ≡ pick (is_none last) None (Some (values_of 4 u)) =
    c.command_in.ensures ∙ ap (λ (l : List ℕ). pick (is_none l) None (Some (values_of 4 (unstarred l)))) c.field-3.ensures in
    let some = some-is _ _ _ (sym found ∙ c.in-Some.is) in
    let many : commands_in c.args.line.now ≡ how_many 4 u = pick-false _ _ _ some.0 in
    let n : c.in-Some.found.count ≡ commands_in c.args.line.now = ap (λ (v : Values). v.count) (sym some.1) ∙ sym many in
    let four = c.first_four.ensures
    ∙ ap (λ (v : Values). take 4 v.values) (sym some.1)
    ∙ fewer-filled 4 6 (how_many 4 u) (value_at u) (many-most 4 u) (omega arith)
    ∙ ap (λ (k : ℕ). filled (pos 0) 4 k (value_at u)) (sym many) in
    let command = ap Some four ∙ sym (pick-false _ None (Some (filled (pos 0) 4 (commands_in c.args.line.now) (value_at u))) some.0) in
    λ i. Step (record { period = period i; view = view i; command = command i }) (n i)
