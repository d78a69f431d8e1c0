-- `opening::law_in` meets its contract. Assumes nothing.
use Rattle.opening.specs.Opening.{law_in}
use Rattle.opening.proofs.law_in.Goals as goal

pub returns : goal.returns
unfolding law_in
returns c =
    let s = c.args in
    let a = c.fill.ensures in
    let l = c.fill-2.ensures in
    let d = c.fill-3.ensures in
    let k = c.fill-4.ensures in
    let low = c.fill-5.ensures in
    let high = c.fill-6.ensures in
    let start = c.fill-7.ensures in
    λ i. record { n = s.n; m = s.m; p = s.p; a = a i; l = l i; c = d i; k = k i; low = low i; high = high i; start = start i }
