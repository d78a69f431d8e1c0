-- `ticketed::words::u64_at` meets its contract: the eight bytes that are read are those of the number, four after four. Assumes nothing.
use Rattle.std.proofs.Common.{◌≡◌, ◌+◌, ◌*◌, arith}
use lib.ListN.{get_or}
use Rattle.octets.specs.Words.{number_at}
use Rattle.octets.proofs.Numbers.{number-of-four}
use Rattle.ticketed.proofs.Halves.{number-of-halves}
use Rattle.ticketed.proofs.words.u64_at.Goals as goal

pub returns : goal.returns
returns c =
    let b = c.args.bytes.now in
    let at = c.args.at in
    let fits = c.requires in
    let one : at + 4 + 1 ≡ at + 5 = omega arith in
    let two : at + 4 + 2 ≡ at + 6 = omega arith in
    let three : at + 4 + 3 ≡ at + 7 = omega arith in
    let low = number-of-four b at (omega (arith, fits)) in
    let high : number_at 4 b (at + 4) ≡ get_or b (at + 4) 0 + 256 * (get_or b (at + 5) 0 + 256 * (get_or b (at + 6) 0 + 256 * get_or b (at + 7) 0)) =
    rw (← one, ← two, ← three) (number-of-four b (at + 4) (omega (arith, fits))) in
    omega (arith, c.from_le_bytes.ensures, number-of-halves b at fits, low, high)
