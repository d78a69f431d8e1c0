-- What reading bytes finds: the conditions of refusal 8, one definition each in the order in which the table names them
-- ("length, kind, part count, byte 3, pairs, marks or absent values not as above"), and the frame that is read.
use Rattle.std.specs.Prelude.{ℕ, ◌+◌, ◌≡◌, Bool, not, ◌&&◌, ◌||◌, List, [], ◌∷◌, length, get_or, eqb}
use Rattle.lists.specs.Choice.{pick}
use Rattle.lists.specs.Refusals.{refusal, first_of}
use Rattle.octets.specs.Words.{number_at}
use Rattle.estimate.specs.declared.Estimate.{Estimate}
use Rattle.estimate.specs.Fields.{no_estimate}
use Rattle.estimate.specs.Lengths.{state_length, readings_length}
use Rattle.estimate.specs.Reading.{estimate_at, estimate_ok}
use Rattle.frame.specs.Sizes.{sizes_ok}
use Rattle.frame.specs.Kinds.{kind_ok, part_count, has_parts}
use Rattle.frame.specs.Lengths.{pair_start, parts_start, frame_length}
use Rattle.frame.specs.Fields.{blank}
use Rattle.frame.specs.declared.Frame.{Frame}

-- the kind that the bytes give
abbrev pub kind_in : List ℕ → ℕ
kind_in b = get_or b 0 0

-- length: a header and, where the kind has parts, two of them "without gaps to the frame's end"
unfoldable pub length_ok : ℕ → ℕ → List ℕ → Bool
length_ok n m b = eqb (length b) (frame_length n m (kind_in b))

-- part count: "2 number of parts (Ack 0, others 2)"
unfoldable pub part_count_ok : List ℕ → Bool
part_count_ok b = eqb (get_or b 2 0) (part_count (kind_in b))

-- byte 3: "3 zero"
unfoldable pub byte_three_ok : List ℕ → Bool
byte_three_ok b = eqb (get_or b 3 0) 0

-- pairs: "a pair of offset .. and length, 16 bits each, .. the state's part first; parts follow without gaps"
unfoldable pub pairs_ok : ℕ → ℕ → List ℕ → Bool
pairs_ok n m b =
    eqb (number_at 2 b (pair_start 0)) parts_start
    && (eqb (number_at 2 b (pair_start 0 + 2)) (state_length n)
    && (eqb (number_at 2 b (pair_start 1)) (parts_start + state_length n)
    && eqb (number_at 2 b (pair_start 1 + 2)) (readings_length m)))

-- length, kind, part count and byte 3
unfoldable pub header_ok : ℕ → ℕ → List ℕ → Bool
header_ok n m b = length_ok n m b && (kind_ok (kind_in b) && (part_count_ok b && byte_three_ok b))

-- pairs, marks and absent values
unfoldable pub parts_ok : ℕ → ℕ → List ℕ → Bool
parts_ok n m b = pairs_ok n m b && estimate_ok n m b parts_start

-- whether bytes are a frame of n states and m readings: all that refusal 8 names
unfoldable pub is_frame : ℕ → ℕ → List ℕ → Bool
is_frame n m b = header_ok n m b && (not (has_parts (kind_in b)) || parts_ok n m b)

-- the header's fields, with an estimate
abbrev pub headed : List ℕ → Estimate → Frame
headed b e =
    record {
      kind = kind_in b;
      sender = get_or b 1 0;
      period = number_at 4 b 4;
      view = number_at 4 b 8;
      base_view = number_at 4 b 12;
      base_period = number_at 4 b 16;
      estimate = e;
    }

-- the fields in bytes that are a frame
unfoldable pub fields_in : ℕ → ℕ → List ℕ → Frame
fields_in n m b = headed b (pick (has_parts (kind_in b)) (estimate_at n m b parts_start) no_estimate)

-- the number of the refusal, or 0: "it refuses by 2 for those, .. and both by 8, in that order"
unfoldable pub read_refusal : ℕ → ℕ → List ℕ → ℕ
read_refusal n m b = first_of (refusal 2 (not (sizes_ok n m)) ∷ refusal 8 (not (is_frame n m b)) ∷ [])

-- the frame that is read; of a refused call, which gives none, a blank one
unfoldable pub read_frame : ℕ → ℕ → List ℕ → Frame
read_frame n m b = pick (eqb (read_refusal n m b) 0) (fields_in n m b) blank

-- reading bytes refuses nothing and gives the frame f
pub record ReadAs (n m : ℕ) (b : List ℕ) (f : Frame) : Type 0 where
  pub done : read_refusal n m b ≡ 0
  pub frame : read_frame n m b ≡ f
