-- `estimate::parts::read_readings` meets its contract: the places that are lent are filled, and the others keep 0. Assumes nothing.
use mathlib.Core.Path.{◌≡◌, refl}
use Prim.Native.Nat.{ℕ, ◌≤◌}
use native.Mathlib.Omega.{arith}
use lib.ListN.{take, drop, replicate, length-replicate, length-drop}
use lib.IntN.{pos}
use Rattle.octets.specs.Words.{value_at}
use Rattle.estimate.specs.Reading.{readings_in}
use Rattle.lists.proofs.Parts.{to_the_end}
use Rattle.lists.proofs.Places.{take-blanks, drop-blanks, filled-pad}
use Rattle.estimate.proofs.parts.read_readings.Goals as goal

-- the places that are lent
blanks : (m : ℕ) → m ≤ 4 → take m (replicate 4 (pos 0)) ≡ replicate m (pos 0)
blanks m h = take-blanks (pos 0) m 4 h

pub slice_bounds-read_values-end-2 : goal.slice_bounds-read_values-end-2
slice_bounds-read_values-end-2 c = rw (blanks c.args.m c.requires.0, length-replicate)

pub read_values-requires : goal.read_values-requires
read_values-requires c =
    rw (blanks c.args.m c.requires.0, length-replicate, to_the_end c.args.part.now 1) (simp length-drop (omega arith), refl)

pub returns : goal.returns
unfolding readings_in
returns c =
    rw (
      c.marks_in-present.ensures,
      c.read_values.ensures,
      blanks c.args.m c.requires.0,
      length-replicate,
      drop-blanks (pos 0) c.args.m 4,
      to_the_end c.args.part.now 1,
      filled-pad (pos 0) 4 c.args.m (value_at (drop 1 c.args.part.now)) c.requires.0,
    )
