-- `law::state::next_value` meets its contract. Assumes nothing.
use Rattle.std.proofs.Common.{ℤ, ◌+ℤ◌, ap, ◌∙◌, arith, w64, FitsSigned}
use Rattle.std.proofs.Math.Path.{ap₂}
use Rattle.std.proofs.Math.Facts.{to_z-of_z}
use Rattle.law.specs.Fixed.{divided, clamp, clamp_changes}
use Rattle.law.specs.Settings.{A, L, settings_in}
use Rattle.law.specs.Law.{next, next_changed}
use Rattle.law.proofs.Accepted.{accepted}
use Rattle.law.proofs.Integers.{small-fits, sum-size}
use Rattle.law.proofs.Sums.{row-holds}
use Rattle.law.proofs.state.next_value.Goals as goal

pub overflow_mul-i : goal.overflow_mul-i
overflow_mul-i c = omega (arith, c.requires, (accepted (settings_in c.args.standing.tables) c.args.standing.stands).sizes.n6)

pub sum_of_products-of_state-requires : goal.sum_of_products-of_state-requires
sum_of_products-of_state-requires c =
    let s = settings_in c.args.standing.tables in
    let k = accepted s c.args.standing.stands in
    (k.sizes.n6, omega (arith, k.sizes.n6, c.requires), omega (arith, k.sizes.n6), row-holds (A s) s.n s.n c.args.i c.requires k.a)

pub overflow_mul-i-2 : goal.overflow_mul-i-2
overflow_mul-i-2 c = omega (arith, c.requires, (accepted (settings_in c.args.standing.tables) c.args.standing.stands).sizes.n6)

pub sum_of_products-of_readings-requires : goal.sum_of_products-of_readings-requires
sum_of_products-of_readings-requires c =
    let s = settings_in c.args.standing.tables in
    let k = accepted s c.args.standing.stands in
    (omega (arith, k.sizes.m4), omega (arith, k.sizes.n6, k.sizes.m4, c.requires), omega (arith, k.sizes.m4), row-holds (L s) s.n s.m c.args.i c.requires k.l)

pub overflow_add-of_state : goal.overflow_add-of_state
overflow_add-of_state c =
    let x = c.sum_of_products-of_state in
    let e = c.sum_of_products-of_readings in
    let k = accepted (settings_in c.args.standing.tables) c.args.standing.stands in
    let x-fits : FitsSigned w64 x.result = record { sfits = x.type_inv } in
    let e-fits : FitsSigned w64 e.result = record { sfits = e.type_inv } in
    simp (to_z-of_z, x-fits, e-fits) (small-fits w64 (x.result +ℤ e.result) (omega (arith, sum-size x.result e.result, x.ensures.size, e.ensures.size, k.sizes.n6, k.sizes.m4)))

pub returns : goal.returns
unfolding next next_changed
returns c =
    let x = c.sum_of_products-of_state in
    let e = c.sum_of_products-of_readings in
    let k = accepted (settings_in c.args.standing.tables) c.args.standing.stands in
    let x-fits : FitsSigned w64 x.result = record { sfits = x.type_inv } in
    let e-fits : FitsSigned w64 e.result = record { sfits = e.type_inv } in
    let both-fit = small-fits w64 (x.result +ℤ e.result) (omega (arith, sum-size x.result e.result, x.ensures.size, e.ensures.size, k.sizes.n6, k.sizes.m4)) in
    let quotient_fits : FitsSigned w64 c.divide.result = record { sfits = c.divide.type_inv } in
    let given = simp (to_z-of_z, quotient_fits) at c.clamp_i32.ensures in
    let quotient = (simp (to_z-of_z, x-fits, e-fits, both-fit) at c.divide.ensures)
    ∙ ap divided (ap₂ (λ (a b : ℤ). a +ℤ b) x.ensures.value e.ensures.value) in
    (given.0 ∙ ap clamp quotient, given.1 ∙ ap clamp_changes quotient)
