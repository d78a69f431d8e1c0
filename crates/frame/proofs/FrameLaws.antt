-- What callers may use of frames and commands besides the laws of `RoundTrip`. Assumes nothing.
use mathlib.Core.Path.{◌≡◌, refl, sym, ap, ◌∙◌, subst}
use mathlib.Core.Bool.{true, false, not}
use Prim.Native.Nat.{ℕ, ◌≤◌}
use native.Mathlib.Omega.{arith}
use lib.ListN.{length}
use Rattle.lists.specs.Choice.{pick}
use Rattle.lists.proofs.Booleans.{or-true}
use Rattle.readings.specs.Readings.{normalised}
use Rattle.estimate.specs.Fields.{no_estimate, carried_estimate}
use Rattle.estimate.proofs.EachPart.{normalised-writable}
use Rattle.frame.specs.Sizes.{sizes_ok}
use Rattle.frame.specs.Kinds.{propose, ack, decide, estimate, parts_of, kind_ok, part_count, has_parts}
use Rattle.frame.specs.Lengths.{frame_length, longest_frame}
use Rattle.frame.specs.Format.{frame_bytes}
use Rattle.frame.specs.Fields.{Typed, with_estimate, carried}
use Rattle.frame.specs.Reading.{ReadAs}
use Rattle.frame.specs.Writing.{well_formed}
use Rattle.frame.specs.declared.Frame.{Frame}
use Rattle.frame.proofs.Conditions.{sizes}
use Rattle.frame.proofs.FrameBytes.{length-frame, length_most}
use Rattle.frame.proofs.Refusals.{carried_none, carried-parts}
use Rattle.frame.proofs.RoundTrip.{read-write}

-- ---- the kinds

-- which of them have parts
pub kinds-parts : (has_parts propose.number ≡ true) × (has_parts ack.number ≡ false) × (has_parts decide.number ≡ true)
    × (has_parts estimate.number ≡ true)
unfolding has_parts part_count parts_of pick
kinds-parts = (refl, refl, refl, refl)

-- ---- the bytes of a frame

-- their number: the header alone for a kind without parts, header, pairs and parts otherwise
pub frame-length : (n m : ℕ) (f : Frame) → Typed f → sizes_ok n m ≡ true → length (frame_bytes n m f) ≡ frame_length n m f.kind
frame-length n m f t ok =
    let z = sizes n m ok in length-frame n m f (omega (arith, t.estimate.state-length)) (omega (arith, t.estimate.values_length))

-- "the longest frame has 69"
pub frame-length-most : (n m : ℕ) (f : Frame) → Typed f → sizes_ok n m ≡ true → length (frame_bytes n m f) ≤ longest_frame
frame-length-most n m f t ok =
    let z = sizes n m ok in rw (frame-length n m f t ok) (length_most n m f.kind z.n-high z.m-high)

-- ---- frames that are read back as they are

-- writing refuses no frame by 8 whose kind there is and whose readings are as the law reads them
pub normalised-well-formed : (m : ℕ) (f : Frame) → m ≤ 4 → kind_ok f.kind ≡ true → normalised m f.estimate.readings ≡ f.estimate.readings
    → well_formed m f ≡ true
unfolding well_formed
normalised-well-formed m f hm known e = rw (known, normalised-writable m f.estimate.readings hm e) (or-true (not (has_parts f.kind)))

-- a frame without parts that has no estimate is all that its bytes carry
pub no-parts-carried : (n m : ℕ) (f : Frame) → has_parts f.kind ≡ false → f.estimate ≡ no_estimate → carried n m f ≡ f
no-parts-carried n m f k e = carried_none n m f k ∙ ap (with_estimate f) (sym e)

-- so is a frame with parts whose estimate is all that its own bytes carry
pub parts-carried : (n m : ℕ) (f : Frame) → has_parts f.kind ≡ true → carried_estimate n m f.estimate ≡ f.estimate → carried n m f ≡ f
parts-carried n m f k e = carried-parts n m f k ∙ ap (with_estimate f) e

-- such a frame is read back exactly
pub read-exact : (n m : ℕ) (f : Frame) → Typed f → sizes_ok n m ≡ true → well_formed m f ≡ true → carried n m f ≡ f → ReadAs n m (frame_bytes n m f) f
read-exact n m f t ok good e = subst (ReadAs n m (frame_bytes n m f)) e (read-write n m f t ok good)
