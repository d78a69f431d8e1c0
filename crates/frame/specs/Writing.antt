-- What writing a frame answers, and what it writes.
use Rattle.std.specs.Prelude.{ℕ, Bool, not, ◌&&◌, ◌||◌, List, [], ◌∷◌, length, leb, eqb}
use Rattle.lists.specs.Choice.{pick}
use Rattle.lists.specs.Refusals.{refusal, first_of}
use Rattle.estimate.specs.Format.{writable}
use Rattle.frame.specs.Sizes.{sizes_ok}
use Rattle.frame.specs.Kinds.{kind_ok, has_parts}
use Rattle.frame.specs.Lengths.{longest_frame}
use Rattle.frame.specs.Format.{frame_bytes}
use Rattle.frame.specs.declared.Frame.{Frame}

-- whether a frame can be written: there is its kind, and where that has parts "Marks at or above m are 0" and values are "0 where absent"
unfoldable pub well_formed : ℕ → Frame → Bool
well_formed m f = kind_ok f.kind && (not (has_parts f.kind) || writable m f.estimate.readings)

-- "frame area under 69 bytes"
abbrev pub frame_room : List ℕ → Bool
frame_room area = leb longest_frame (length area)

-- the number of the refusal, or 0: "it refuses by 2 for those, writing by 5 for its area, and both by 8, in that order"
unfoldable pub write_refusal : ℕ → ℕ → Frame → List ℕ → ℕ
write_refusal n m f area = first_of (refusal 2 (not (sizes_ok n m)) ∷ refusal 5 (not (frame_room area)) ∷ refusal 8 (not (well_formed m f)) ∷ [])

-- what is written: nothing where the call is refused
unfoldable pub written : ℕ → ℕ → Frame → List ℕ → List ℕ
written n m f area = pick (eqb (write_refusal n m f area) 0) (frame_bytes n m f) []
