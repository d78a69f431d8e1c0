-- The laws of an estimate's codec, at any offset of the bytes that it stands in. Assumes nothing.
use mathlib.Core.Path.{◌≡◌, sym, ap, ◌∙◌}
use mathlib.Core.Bool.{true}
use mathlib.Core.List.{List, ◌++◌}
use Prim.Native.Nat.{ℕ, ◌+◌, ◌≤◌}
use native.Mathlib.Omega.{arith}
use lib.ListN.{length, take, drop}
use lib.Seq.{take-add, take_at, drop_at, drop-drop}
use Rattle.readings.specs.Readings.{normalised}
use Rattle.octets.specs.Words.{AllBytes, part}
use Rattle.octets.proofs.Numbers.{bytes-part, length_part}
use Rattle.estimate.specs.declared.Estimate.{Estimate}
use Rattle.estimate.specs.Fields.{TypedEstimate, first_states, carried_estimate}
use Rattle.estimate.specs.Lengths.{state_length, readings_length, estimate_length}
use Rattle.estimate.specs.Format.{state_bytes, readings_bytes, estimate_bytes, writable}
use Rattle.estimate.specs.Reading.{state_in, readings_in, readings_ok, state_part, readings_part, estimate_at, estimate_ok}
use Rattle.estimate.proofs.Lengths.{length-state}
use Rattle.estimate.proofs.EachPart.{state-forth, readings-forth, readings-good, state-back, readings-back, readings-writable}

-- bytes that have both parts at an offset have the one after the other
both-parts : (n m : ℕ) (b : List ℕ) (at : ℕ) → part b at (estimate_length n m) ≡ state_part n b at ++ readings_part n m b at
both-parts n m b at =
    take-add (state_length n) (readings_length m) (drop at b)
    ∙ ap (λ (t : List ℕ). state_part n b at ++ take (readings_length m) t) (drop-drop (state_length n) at b)

-- an estimate with 0 in the places beyond n, and readings as the law reads them, is all that its bytes carry
pub carried-whole : (n m : ℕ) (e : Estimate) → first_states n e.state ≡ e.state → normalised m e.readings ≡ e.readings → carried_estimate n m e ≡ e
unfolding carried_estimate
carried-whole n m e x y = λ i. record { state = x i; readings = y i }

-- (a) Reading the bytes of an estimate that can be written gives all that they carry of it.
module _ (n m : ℕ) (e : Estimate) (t : TypedEstimate e) (n≤6 : n ≤ 6) (m≤4 : m ≤ 4) (good : writable m e.readings ≡ true)
    (b : List ℕ) (at : ℕ) (room : at + estimate_length n m ≤ length b) (there : part b at (estimate_length n m) ≡ estimate_bytes n m e) where
  n≤ : n ≤ length e.state
  n≤ = omega (arith, t.state-length)

  m≤ : m ≤ length e.readings.values
  m≤ = omega (arith, t.values_length)

  side_by_side : state_part n b at ++ readings_part n m b at ≡ state_bytes n e.state ++ readings_bytes m e.readings
  unfolding estimate_bytes
  side_by_side = sym (both-parts n m b at) ∙ there

  first-length : length (state_part n b at) ≡ state_length n
  first-length = length_part b at (state_length n) (omega arith)

  first_part : state_part n b at ≡ state_bytes n e.state
  first_part =
      sym (take_at (state_part n b at) _ (state_length n) first-length)
      ∙ ap (take (state_length n)) side_by_side
      ∙ take_at (state_bytes n e.state) _ (state_length n) (length-state n e.state n≤)

  second-part : readings_part n m b at ≡ readings_bytes m e.readings
  second-part =
      sym (drop_at (state_part n b at) _ (state_length n) first-length)
      ∙ ap (drop (state_length n)) side_by_side
      ∙ drop_at (state_bytes n e.state) _ (state_length n) (length-state n e.state n≤)

  pub estimate-read : estimate_at n m b at ≡ carried_estimate n m e
  unfolding estimate_at carried_estimate
  estimate-read =
      let state = ap (state_in n) first_part ∙ state-forth n e.state n≤ t.state in
      let readings = ap (readings_in m) second-part ∙ readings-forth m e.readings t.marks-length good m≤ t.values in
      λ i. record { state = state i; readings = readings i }

  pub estimate-good : 1 ≤ m → estimate_ok n m b at ≡ true
  unfolding estimate_ok
  estimate-good low = ap (readings_ok m) second-part ∙ readings-good m e.readings t.marks-length good m≤ t.values low m≤4

-- (b) Whatever estimate reading finds, writing it gives the very bytes that it was read from; and it can be written.
module _ (n m : ℕ) (b : List ℕ) (at : ℕ) (n≤6 : n ≤ 6) (m≤4 : m ≤ 4) (good : estimate_ok n m b at ≡ true) where
  readings-ok : readings_ok m (readings_part n m b at) ≡ true
  unfolding estimate_ok
  readings-ok = good

  pub estimate-written : AllBytes b → at + estimate_length n m ≤ length b → estimate_bytes n m (estimate_at n m b at) ≡ part b at (estimate_length n m)
  unfolding estimate_bytes estimate_at
  estimate-written h room =
      let state = state-back n (state_part n b at) n≤6 (bytes-part at (state_length n) b h) (length_part b at (state_length n) (omega arith)) in
      let readings = readings-back m (readings_part n m b at) m≤4 readings-ok (bytes-part (at + state_length n) (readings_length m) b h)
      (length_part b (at + state_length n) (readings_length m) (omega arith)) in
      (λ i. state i ++ readings i) ∙ sym (both-parts n m b at)

  pub estimate-writable : 1 ≤ m → writable m (estimate_at n m b at).readings ≡ true
  unfolding estimate_at
  estimate-writable low = readings-writable m (readings_part n m b at) m≤4 readings-ok low
