-- `frame::command::command_in` meets its contract: the places that are lent are filled, and the others keep 0. Assumes nothing.
use mathlib.Core.Path.{◌≡◌, refl}
use Prim.Native.Nat.{ℕ, ◌≤◌}
use native.Mathlib.Omega.{arith}
use lib.ListN.{take, drop, replicate, length-replicate, length-drop}
use lib.IntN.{pos}
use Rattle.lists.proofs.Places.{take-blanks, drop-blanks, filled-pad}
use Rattle.lists.proofs.Parts.{to_the_end}
use Rattle.octets.specs.Words.{value_at}
use Rattle.frame.specs.Lengths.{command_start}
use Rattle.frame.specs.Command.{command_period}
use Rattle.frame.specs.CommandReading.{command_in}
use Rattle.frame.proofs.command.command_in.Goals as goal

-- the places that are lent
blanks : (p : ℕ) → p ≤ 4 → take p (replicate 4 (pos 0)) ≡ replicate p (pos 0)
blanks p h = take-blanks (pos 0) p 4 h

pub slice_bounds-read_values-end-2 : goal.slice_bounds-read_values-end-2
slice_bounds-read_values-end-2 c = rw (blanks c.args.p c.requires.0, length-replicate)

pub read_values-requires : goal.read_values-requires
read_values-requires c =
    rw (blanks c.args.p c.requires.0, length-replicate, to_the_end c.args.bytes.now command_start, length-drop) (omega (arith, c.requires), refl)

pub returns : goal.returns
unfolding command_in command_period
returns c =
    let b = c.args.bytes.now in
    rw (
      c.u32_at-period.ensures,
      c.read_values.ensures,
      to_the_end b command_start,
      blanks c.args.p c.requires.0,
      length-replicate,
      drop-blanks (pos 0) c.args.p 4,
      filled-pad (pos 0) 4 c.args.p (value_at (drop command_start b)) c.requires.0,
    )
