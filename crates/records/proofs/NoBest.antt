-- Where the bytes of a best estimate are 0, none is read. Assumes nothing.
use mathlib.Core.Path.{◌≡◌, sym, ap, ◌∙◌}
use mathlib.Core.Bool.{true, false}
use mathlib.Core.List.{List}
use Prim.Native.Nat.{ℕ, ◌+◌, ◌≤◌, ◌<◌}
use native.Mathlib.Omega.{arith}
use lib.ListN.{length, drop, get_or, replicate, length-replicate}
use lib.Seq.{ext_get_or, get_or-take, get_or-drop}
use lib.Dec.{eqb}
use borrow.Author.Tests.{eqb-true}
use Rattle.lists.specs.Choice.{pick}
use Rattle.lists.specs.Places.{filled}
use Rattle.lists.proofs.Below.{all-at}
use Rattle.lists.proofs.Places.{blank-at}
use Rattle.octets.specs.Words.{spelled, part, number_at, from_twos_complement, value_at}
use Rattle.octets.proofs.Numbers.{length_part}
use Rattle.estimate.specs.Marks.{marks_in}
use Rattle.estimate.specs.Reading.{state_in, readings_in, estimate_at}
use Rattle.records.specs.Lengths.{record_length}
use Rattle.records.specs.HeldPart.{mark_at, best_at}
use Rattle.records.specs.Recording.{no_best}
use Rattle.records.specs.Reading.{zero_at}

module _ (b : List ℕ) (long : length b ≡ record_length) (zeros : zero_at b 566 50 ≡ true) where
  -- each of the bytes
  pub zero-byte : (i : ℕ) → i < 50 → get_or b (566 + i) 0 ≡ 0
  unfolding zero_at
  zero-byte i l = eqb-true _ 0 (all-at (λ i. eqb (get_or b (566 + i) 0) 0) 50 i zeros l)

  zero-part : (i k : ℕ) → i + k ≤ 50 → part b (566 + i) k ≡ replicate k 0
  zero-part i k room =
      let size : length (part b (566 + i) k) ≡ k = length_part b (566 + i) k (omega (arith, long)) in
      ext_get_or 0 _ _ (size ∙ sym (length-replicate k 0))
      (λ j l. get_or-take k (drop (566 + i) b) j 0 (omega (arith, size))
      ∙ get_or-drop (566 + i) b j 0
      ∙ ap (λ (x : ℕ). get_or b x 0) (omega arith)
      ∙ zero-byte (i + j) (omega (arith, size))
      ∙ sym (blank-at 0 k j))

  pub no-best : mark_at b 565 ≡ false → best_at b 565 ≡ no_best
  unfolding best_at number_at spelled estimate_at state_in readings_in marks_in filled value_at from_twos_complement pick
  no-best any =
      let view = ap spelled (zero-part 1 4 (omega arith)) in
      let period = ap spelled (zero-part 5 4 (omega arith)) in
      let state = ap (state_in 6) (zero-part 9 24 (omega arith)) in
      let readings = ap (readings_in 4) (zero-part 33 17 (omega arith)) in
      λ i. record {
        any = any i;
        box_number = zero-byte 0 (omega arith) i;
        base_view = view i;
        base_period = period i;
        estimate = record { state = state i; readings = readings i };
      }
