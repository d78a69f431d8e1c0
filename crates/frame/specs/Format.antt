-- The bytes of a frame, as document 01 lays them out under "Frames".
use Rattle.std.specs.Prelude.{ℕ, ◌+◌, List, [], ◌∷◌, ◌++◌}
use Rattle.lists.specs.Choice.{pick}
use Rattle.octets.specs.Words.{little_endian}
use Rattle.estimate.specs.Lengths.{state_length, readings_length}
use Rattle.estimate.specs.Format.{estimate_bytes}
use Rattle.frame.specs.Kinds.{part_count, has_parts}
use Rattle.frame.specs.Lengths.{parts_start}
use Rattle.frame.specs.declared.Frame.{Frame}

-- "Header of 20 bytes: 0 kind ..; 1 sender; 2 number of parts ..; 3 zero; 4 period; 8 view; 12 base view; 16 base period."
unfoldable pub header : Frame → List ℕ
header f =
    (f.kind ∷ f.sender ∷ part_count f.kind ∷ 0 ∷ [])
    ++ little_endian 4 f.period
    ++ little_endian 4 f.view
    ++ little_endian 4 f.base_view
    ++ little_endian 4 f.base_period

-- "for each part a pair of offset (from the frame's byte 0) and length, 16 bits each, sorted by offset, the state's part first;
-- parts follow without gaps"
unfoldable pub pairs : ℕ → ℕ → List ℕ
pairs n m =
    little_endian 2 parts_start
    ++ little_endian 2 (state_length n)
    ++ little_endian 2 (parts_start + state_length n)
    ++ little_endian 2 (readings_length m)

-- the header, and where the kind has parts the pairs and the parts
unfoldable pub frame_bytes : ℕ → ℕ → Frame → List ℕ
frame_bytes n m f = pick (has_parts f.kind) (header f ++ pairs n m ++ estimate_bytes n m f.estimate) (header f)
