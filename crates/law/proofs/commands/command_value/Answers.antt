-- `law::commands::command_value` meets its contract. Assumes nothing.
use Rattle.std.proofs.Common.{ℤ, ap, ◌∙◌, arith, w32, w64, rules, FitsSigned}
use Rattle.std.proofs.Math.Facts.{to_z-of_z}
use Rattle.lists.specs.Places.{entry}
use Rattle.law.specs.Fixed.{divided, limited, limits_change}
use Rattle.law.specs.Settings.{K, settings_in}
use Rattle.law.specs.Law.{command, command_changed}
use Rattle.law.proofs.Accepted.{accepted}
use Rattle.law.proofs.Sums.{row-holds}
use Rattle.law.proofs.commands.command_value.Goals as goal

pub overflow_mul-j : goal.overflow_mul-j
overflow_mul-j c = let k = accepted (settings_in c.args.standing.tables) c.args.standing.stands in omega (arith, k.sizes.p4, c.requires)

pub sum_of_products-requires : goal.sum_of_products-requires
sum_of_products-requires c =
    let s = settings_in c.args.standing.tables in
    let k = accepted s c.args.standing.stands in
    (k.sizes.n6, omega (arith, k.sizes.p4, k.sizes.n6, c.requires), omega (arith, k.sizes.n6), row-holds (K s) s.p s.n c.args.j c.requires k.k)

pub offset_bounds-low-j : goal.offset_bounds-low-j
offset_bounds-low-j c = let k = accepted (settings_in c.args.standing.tables) c.args.standing.stands in omega (arith, k.sizes.p4, c.requires)

pub bounds-low-j : goal.bounds-low-j
bounds-low-j c = let k = accepted (settings_in c.args.standing.tables) c.args.standing.stands in omega (arith, k.sizes.p4, c.requires)

pub offset_bounds-high-j : goal.offset_bounds-high-j
offset_bounds-high-j c = let k = accepted (settings_in c.args.standing.tables) c.args.standing.stands in omega (arith, k.sizes.p4, c.requires)

pub bounds-high-j : goal.bounds-high-j
bounds-high-j c = let k = accepted (settings_in c.args.standing.tables) c.args.standing.stands in omega (arith, k.sizes.p4, c.requires)

pub returns : goal.returns
unfolding command command_changed
returns c =
    let low = entry c.args.standing.tables.low.now c.args.j in
    let high = entry c.args.standing.tables.high.now c.args.j in
    let low_fits : FitsSigned w32 low = search rules in
    let high_fits : FitsSigned w32 high = search rules in
    let sum_fits : FitsSigned w64 c.sum_of_products.result = record { sfits = c.sum_of_products.type_inv } in
    let quotient_fits : FitsSigned w64 c.divide-value.result = record { sfits = c.divide-value.type_inv } in
    let given = simp (to_z-of_z, low_fits, high_fits, quotient_fits) at c.limit.ensures in
    let quotient = (simp (to_z-of_z, sum_fits) at c.divide-value.ensures) ∙ ap divided c.sum_of_products.ensures.value in
    (given.0 ∙ ap (λ (z : ℤ). limited low high z) quotient, given.1 ∙ ap (λ (z : ℤ). limits_change low high z) quotient)
