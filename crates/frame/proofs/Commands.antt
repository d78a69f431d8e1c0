-- Commands: the period is read back from the bytes. Assumes nothing.
use mathlib.Core.Path.{◌≡◌}
use mathlib.Core.Bool.{Bool}
use mathlib.Core.List.{List}
use Prim.Native.Nat.{ℕ, ◌<◌, ◌^◌}
use lib.IntN.{ℤ}
use Rattle.octets.specs.Words.{little_endian, number_at}
use Rattle.octets.proofs.Numbers.{spelled-little_endian}
use Rattle.frame.specs.Command.{command_bytes, command_period}

pub period-read : (p period : ℕ) (values : List ℤ) (limited : Bool) → period < 2 ^ 32 → command_period (command_bytes p period values limited) ≡ period
unfolding command_period command_bytes number_at little_endian
period-read p period values limited h = spelled-little_endian 4 period h
