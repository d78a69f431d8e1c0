-- `check_step` meets its contract. Assumes nothing.
use Rattle.std.proofs.Common.{◌≡◌, sym, ◌∙◌, rules, eq-eqb, ne_eqb}
use Rattle.lists.specs.Choice.{pick}
use Rattle.refusal.specs.Numbers.{number_of}
use Rattle.refusal.proofs.Numbers.{number-not-0}
use Rattle.replica.specs.Settings.{settings_refusal}
use Rattle.replica.specs.Calls.{step_refusal}
use Rattle.replica.proofs.refusals.check_step.Goals as goal

pub returns-in_err-check_settings : goal.returns-in_err-check_settings
unfolding step_refusal pick
returns-in_err-check_settings c =
    let s = c.args.settings.now in
    let e : number_of c.from_residual.result ≡ settings_refusal s = search rules in
    e ∙ simp (ne_eqb (settings_refusal s) 0 (λ z. number-not-0 _ (c.in_err-check_settings.ensures ∙ z)))

pub returns-then-short_area : goal.returns-then-short_area
unfolding step_refusal pick
returns-then-short_area c = simp (eq-eqb _ 0 (sym c.in_ok-check_settings.ensures), sym c.short_area.ensures ∙ c.if-short_area.true)

pub returns : goal.returns
unfolding step_refusal pick
returns c = simp (eq-eqb _ 0 (sym c.in_ok-check_settings.ensures), sym c.short_area.ensures ∙ c.if-short_area.false)
