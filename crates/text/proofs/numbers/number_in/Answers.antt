-- `numbers::number_in` meets its contract. Assumes nothing.
use Rattle.std.proofs.Common.{rules, ap, ◌∙◌, arith, ◌≡◌, ◌<◌, length, List, ℕ}
use Rattle.std.proofs.Common.{get_or, false}
use borrow.Author.Tests.{lt-ltb, le-ltb, eq-eqb, ne_eqb}
use Rattle.lists.specs.Choice.{pick}
use Rattle.lists.proofs.Parts.{to_the_end}
use Rattle.text.specs.Numbers.{number_of, is_minus, negative, positive, magnitude}
use Rattle.lists.proofs.Booleans.{second-fails}
use Rattle.text.proofs.numbers.number_in.Goals.{in_default-via-then-field-lt1, in_default-via-else-field-lt1+in_default-1}
use Rattle.text.proofs.numbers.number_in.Goals as goal

empty-plain : (field : List ℕ) → length field < 1 → is_minus field ≡ false
unfolding is_minus
empty-plain field h = rw (le-ltb 0 (length field) (omega arith))

other-plain : (field : List ℕ) → (get_or field 0 0 ≡ 45 → ⊥) → is_minus field ≡ false
unfolding is_minus
other-plain field n = second-fails _ _ (ne_eqb _ _ n)

pub returns-in-45 : goal.returns-in-45
unfolding number_of is_minus pick
returns-in-45 c =
    let field = c.args.field.now in
    let minus : get_or field 0 0 ≡ 45 = search rules in
    rw (lt-ltb 0 (length field) (omega arith), eq-eqb _ _ minus)
    (c.below_zero.ensures ∙ ap negative (c.read_magnitude.ensures ∙ ap magnitude (to_the_end field 1)))

pub returns-in_default : goal.returns-in_default
unfolding number_of pick
returns-in_default c =
    let field = c.args.field.now in
    let plain : is_minus field ≡ false =
    elim c.in_default.branch [
      | in_default-via-then-field-lt1 w ↦ empty-plain field (search rules)
      | in_default-via-else-field-lt1+in_default-1 w ↦ other-plain field (search rules)
    ] in
    rw plain (c.from_zero.ensures ∙ ap positive c.read_magnitude-in_default.ensures)
