-- `law::Tables::check` meets its contract. Assumes nothing.
use Rattle.std.proofs.Common.{sym, ◌∙◌}
use Rattle.lists.specs.Choice.{pick}
use Rattle.lists.specs.Refusals.{first_of}
use Rattle.law.specs.Settings.{refusals, refusal}
use Rattle.law.proofs.Accepted.{sizes}
use Rattle.law.proofs.Tables.check.Goals as goal

pub returns-then-not-sizes_in_range : goal.returns-then-not-sizes_in_range
unfolding refusal refusals first_of pick
returns-then-not-sizes_in_range c = simp (sym c.sizes_in_range.ensures ∙ c.if-not-sizes_in_range.true)

pub returns-then-not-coefficients_in_range : goal.returns-then-not-coefficients_in_range
unfolding refusal refusals first_of pick
returns-then-not-coefficients_in_range c =
    simp (sym c.sizes_in_range.ensures ∙ c.if-not-sizes_in_range.false, sym c.coefficients_in_range.ensures ∙ c.if-not-coefficients_in_range.true)

pub limits_in_order-requires : goal.limits_in_order-requires
limits_in_order-requires c = (sizes _ _ _ (sym c.sizes_in_range.ensures ∙ c.if-not-sizes_in_range.false)).p4

pub returns-then-not-limits_in_order : goal.returns-then-not-limits_in_order
unfolding refusal refusals first_of pick
returns-then-not-limits_in_order c =
    simp (
      sym c.sizes_in_range.ensures ∙ c.if-not-sizes_in_range.false,
      sym c.coefficients_in_range.ensures ∙ c.if-not-coefficients_in_range.false,
      sym c.limits_in_order.ensures ∙ c.if-not-limits_in_order.true,
    )

pub returns : goal.returns
unfolding refusal refusals first_of pick
returns c =
    simp (
      sym c.sizes_in_range.ensures ∙ c.if-not-sizes_in_range.false,
      sym c.coefficients_in_range.ensures ∙ c.if-not-coefficients_in_range.false,
      sym c.limits_in_order.ensures ∙ c.if-not-limits_in_order.false,
    )
