-- The bytes of a frame: their pieces and their length. Assumes nothing.
use mathlib.Core.Path.{◌≡◌, refl, sym, ap, ◌∙◌}
use mathlib.Core.Bool.{Bool, true, false}
use mathlib.Core.List.{◌++◌}
use Prim.Native.Nat.{ℕ, ◌+◌, ◌≤◌}
use native.Mathlib.Omega.{arith}
use lib.ListN.{length, length-append}
use Rattle.lists.proofs.Choice.{pick-ok, pick_true, pick-false}
use Rattle.octets.specs.Words.{little_endian}
use Rattle.estimate.specs.Lengths.{estimate_length}
use Rattle.estimate.specs.Format.{estimate_bytes}
use Rattle.estimate.proofs.Lengths.{length-estimate}
use Rattle.frame.specs.Kinds.{has_parts}
use Rattle.frame.specs.Lengths.{header_length, pair_length, parts_start, frame_length, longest_frame}
use Rattle.frame.specs.Format.{header, pairs, frame_bytes}
use Rattle.frame.specs.declared.Frame.{Frame}

-- ---- the pieces

pub length-header : (f : Frame) → length (header f) ≡ header_length
unfolding header little_endian
length-header f = refl

pub length_pairs : (n m : ℕ) → length (pairs n m) ≡ pair_length + pair_length
unfolding pairs little_endian
length_pairs n m = refl

pub length_front : (n m : ℕ) (f : Frame) → length (header f ++ pairs n m) ≡ parts_start
length_front n m f = simp (length-append, length-header, length_pairs)

module _ (n m : ℕ) (f : Frame) where
  pub no-parts-bytes : has_parts f.kind ≡ false → frame_bytes n m f ≡ header f
  unfolding frame_bytes
  no-parts-bytes k = pick-false _ _ _ k

  pub parts-bytes : has_parts f.kind ≡ true → frame_bytes n m f ≡ (header f ++ pairs n m) ++ estimate_bytes n m f.estimate
  unfolding frame_bytes
  parts-bytes k = pick_true _ _ _ k

  -- ---- the length

  module _ (hx : n ≤ length f.estimate.state) (hy : m ≤ length f.estimate.readings.values) where
    pub length_whole : length ((header f ++ pairs n m) ++ estimate_bytes n m f.estimate) ≡ parts_start + estimate_length n m
    length_whole = simp (length-append (header f ++ pairs n m), length_front, length-estimate n m f.estimate hx hy)

    length-by : (t : Bool) → has_parts f.kind ≡ t → length (frame_bytes n m f) ≡ frame_length n m f.kind
    length-by true k = ap length (parts-bytes k) ∙ length_whole ∙ sym (pick_true _ _ _ k)
    length-by false k = ap length (no-parts-bytes k) ∙ length-header f ∙ sym (pick-false _ _ _ k)

    pub length-frame : length (frame_bytes n m f) ≡ frame_length n m f.kind
    length-frame = length-by (has_parts f.kind) refl

pub length_most : (n m kind : ℕ) → n ≤ 6 → m ≤ 4 → frame_length n m kind ≤ longest_frame
length_most n m kind hn hm =
    pick-ok (λ (k : ℕ). k ≤ longest_frame) (has_parts kind) _ _ (λ _. omega arith) (λ _. omega arith)
