-- `lines::line_in` meets its contract. Assumes nothing.
use mathlib.Core.Path.{sym, ap, ◌∙◌}
use mathlib.Core.Bool.{Bool, not}
use Rattle.lists.specs.Choice.{pick}
use Rattle.printed.specs.Lines.{is_ok, no_step, printed_as}
use Rattle.printed.proofs.lines.line_in.Goals as goal

pub returns-then-not-is_step : goal.returns-then-not-is_step
unfolding printed_as pick
returns-then-not-is_step c =
    let none = sym c.is_step.ensures ∙ c.if-not-is_step.true in
    rw none (c.no_step.ensures ∙ ap (λ (b : Bool). no_step (not b)) c.is_other.ensures)

pub returns-then-not-is_ok : goal.returns-then-not-is_ok
unfolding printed_as pick
returns-then-not-is_ok c =
    let step = sym c.is_step.ensures ∙ c.if-not-is_step.false in
    let ok = sym (c.is_ok.ensures ∙ ap is_ok c.field.ensures) ∙ c.if-not-is_ok.true in
    rw (step, ok) c.no_step-then-not-is_ok.ensures

pub step_in-requires : goal.step_in-requires
step_in-requires c = sym c.is_step.ensures ∙ c.if-not-is_step.false

pub returns : goal.returns
unfolding printed_as pick
returns c =
    let step = sym c.is_step.ensures ∙ c.if-not-is_step.false in
    let ok = sym (c.is_ok.ensures ∙ ap is_ok c.field.ensures) ∙ c.if-not-is_ok.false in
    rw (step, ok) c.step_in.ensures
