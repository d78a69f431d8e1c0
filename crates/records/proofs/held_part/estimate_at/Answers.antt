-- `records::held_part::estimate_at` meets its contract: the two parts that are lent are those of an estimate. Assumes nothing.
use mathlib.Core.Path.{◌≡◌, ap, ◌∙◌}
use Prim.Native.Nat.{ℕ, ◌+◌, ◌-◌}
use native.Mathlib.Omega.{arith}
use lib.ListN.{take, drop}
use Rattle.estimate.specs.Reading.{state_in, readings_in, estimate_at}
use Rattle.records.proofs.held_part.estimate_at.Goals as goal

pub returns : goal.returns
unfolding estimate_at
returns c =
    let s = c.args in
    let b = s.bytes.now in
    let at = s.at in
    let first : at + 24 - at ≡ 24 = omega arith in
    let second : at + 41 - (at + 24) ≡ 17 = omega arith in
    let state = c.read_state-state.ensures ∙ ap (λ (k : ℕ). state_in 6 (take k (drop at b))) first in
    let readings = c.read_readings-readings.ensures ∙ ap (λ (k : ℕ). readings_in 4 (take k (drop (at + 24) b))) second in
    λ i. record { state = state i; readings = readings i }
