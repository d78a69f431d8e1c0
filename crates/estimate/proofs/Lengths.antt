-- The lengths of the two parts. Assumes nothing.
use mathlib.Core.Path.{◌≡◌}
use mathlib.Core.List.{List}
use Prim.Native.Nat.{ℕ, ◌≤◌}
use native.Mathlib.Omega.{arith}
use lib.ListN.{length, length-append}
use lib.IntN.{ℤ}
use Rattle.readings.specs.declared.Readings.{Readings}
use Rattle.octets.proofs.ValueLists.{length-first}
use Rattle.estimate.specs.declared.Estimate.{Estimate}
use Rattle.estimate.specs.Lengths.{state_length, readings_length, estimate_length}
use Rattle.estimate.specs.Format.{state_bytes, readings_bytes, estimate_bytes}

pub length-state : (n : ℕ) (x : List ℤ) → n ≤ length x → length (state_bytes n x) ≡ state_length n
unfolding state_bytes
length-state n x h = length-first n x h

pub length-readings : (m : ℕ) (y : Readings) → m ≤ length y.values → length (readings_bytes m y) ≡ readings_length m
unfolding readings_bytes
length-readings m y h = omega (arith, length-first m y.values h)

pub length-estimate : (n m : ℕ) (e : Estimate) → n ≤ length e.state → m ≤ length e.readings.values → length (estimate_bytes n m e) ≡ estimate_length n m
unfolding estimate_bytes
length-estimate n m e hn hm = simp (length-append, length-state n e.state hn, length-readings m e.readings hm)
