-- `law::state::innovation` meets its contract. Assumes nothing.
use Rattle.std.proofs.Common.{◌*◌, ◌≤◌, ℤ, ◌-ℤ◌, ap, ◌∙◌, arith, rules, w32, w64, FitsSigned}
use Rattle.std.proofs.Math.IntN.{nat_abs}
use Rattle.std.proofs.Math.Facts.{to_z-of_z}
use Rattle.lists.specs.Choice.{pick}
use Rattle.lists.specs.Places.{entry}
use Rattle.law.specs.Fixed.{divided, clamp, clamp_changes, largest_product}
use Rattle.law.specs.Settings.{C, settings_in}
use Rattle.law.specs.Law.{e, e_changed}
use Rattle.law.proofs.Integers.{wide, difference-fits}
use Rattle.law.proofs.Division.{divided-size}
use Rattle.law.proofs.Accepted.{accepted}
use Rattle.law.proofs.Sums.{row-holds}
use Rattle.law.proofs.state.innovation.Goals as goal

pub bounds-readings-j : goal.bounds-readings-j
bounds-readings-j c = omega (arith, c.requires, (accepted (settings_in c.args.standing.tables) c.args.standing.stands).sizes.m4)

pub returns-then-not-readings-j : goal.returns-then-not-readings-j
unfolding e e_changed pick
returns-then-not-readings-j c =
    let absent = c.if-not-readings-j.true in
    (simp absent, simp absent)

pub sum_of_products-requires : goal.sum_of_products-requires
sum_of_products-requires c =
    let s = settings_in c.args.standing.tables in
    let k = accepted s c.args.standing.stands in
    (k.sizes.n6, omega (arith, k.sizes.m4, k.sizes.n6, c.requires), omega (arith, k.sizes.n6), row-holds (C s) s.m s.n c.args.j c.requires k.c)

pub overflow_sub-readings : goal.overflow_sub-readings
overflow_sub-readings c =
    let y = entry c.args.readings.values c.args.j in
    let few = (accepted (settings_in c.args.standing.tables) c.args.standing.stands).sizes.n6 in
    let y-fits : FitsSigned w32 y = search rules in
    let sum_fits : FitsSigned w64 c.sum_of_products.result = record { sfits = c.sum_of_products.type_inv } in
    let predicted_fits : FitsSigned w64 c.divide-predicted.result = record { sfits = c.divide-predicted.type_inv } in
    let predicted = simp (to_z-of_z, sum_fits) at c.divide-predicted.ensures in
    let size : nat_abs c.divide-predicted.result ≤ 6 * largest_product =
    rw predicted (omega (arith, divided-size c.sum_of_products.result, c.sum_of_products.ensures.size, few)) in
    simp (to_z-of_z, y-fits, wide y-fits, predicted_fits) (difference-fits y c.divide-predicted.result y-fits size)

pub returns : goal.returns
unfolding e e_changed pick
returns c =
    let y = entry c.args.readings.values c.args.j in
    let few = (accepted (settings_in c.args.standing.tables) c.args.standing.stands).sizes.n6 in
    let y-fits : FitsSigned w32 y = search rules in
    let sum_fits : FitsSigned w64 c.sum_of_products.result = record { sfits = c.sum_of_products.type_inv } in
    let predicted_fits : FitsSigned w64 c.divide-predicted.result = record { sfits = c.divide-predicted.type_inv } in
    let predicted = simp (to_z-of_z, sum_fits) at c.divide-predicted.ensures in
    let size : nat_abs c.divide-predicted.result ≤ 6 * largest_product =
    rw predicted (omega (arith, divided-size c.sum_of_products.result, c.sum_of_products.ensures.size, few)) in
    let fits = difference-fits y c.divide-predicted.result y-fits size in
    let there = c.if-not-readings-j.false in
    let given = simp (to_z-of_z, y-fits, wide y-fits, predicted_fits, fits) at c.clamp_i32.ensures in
    let quotient = predicted ∙ ap divided c.sum_of_products.ensures.value in
    (given.0 ∙ ap (λ (z : ℤ). clamp (y -ℤ z)) quotient ∙ simp there, given.1 ∙ ap (λ (z : ℤ). clamp_changes (y -ℤ z)) quotient ∙ simp there)
