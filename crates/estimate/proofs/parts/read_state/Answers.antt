-- `estimate::parts::read_state` meets its contract: the places that are lent are filled, and the others keep 0. Assumes nothing.
use mathlib.Core.Path.{◌≡◌, refl}
use Prim.Native.Nat.{ℕ, ◌≤◌}
use native.Mathlib.Omega.{arith}
use lib.ListN.{take, replicate, length-replicate}
use lib.IntN.{pos}
use Rattle.octets.specs.Words.{value_at}
use Rattle.estimate.specs.Reading.{state_in}
use Rattle.lists.proofs.Places.{take-blanks, drop-blanks, filled-pad}
use Rattle.estimate.proofs.parts.read_state.Goals as goal

-- the places that are lent
blanks : (n : ℕ) → n ≤ 6 → take n (replicate 6 (pos 0)) ≡ replicate n (pos 0)
blanks n h = take-blanks (pos 0) n 6 h

pub slice_bounds-read_values-end : goal.slice_bounds-read_values-end
slice_bounds-read_values-end c = rw (blanks c.args.n c.requires.0, length-replicate)

pub read_values-requires : goal.read_values-requires
read_values-requires c =
    rw (blanks c.args.n c.requires.0, length-replicate) (omega arith, refl)

pub returns : goal.returns
unfolding state_in
returns c =
    rw (c.read_values.ensures, blanks c.args.n c.requires.0, length-replicate, drop-blanks (pos 0) c.args.n 6)
    (filled-pad (pos 0) 6 c.args.n (value_at c.args.part.now) c.requires.0)
