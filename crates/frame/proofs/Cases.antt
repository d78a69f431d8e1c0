-- The table of worked frames, and the lengths that document 01 names. Assumes nothing.
use mathlib.Core.Path.{◌≡◌, refl, ◌∙◌}
use mathlib.Core.Bool.{true}
use Prim.Native.Nat.{ℕ}
use lib.ListN.{length}
use Rattle.lists.specs.Choice.{pick}
use Rattle.lists.proofs.Choice.{pick_true}
use Rattle.octets.specs.Words.{little_endian, twos_complement, values_bytes}
use Rattle.estimate.specs.Marks.{marks_byte}
use Rattle.estimate.specs.Format.{state_bytes, readings_bytes, estimate_bytes}
use Rattle.frame.specs.Sizes.{sizes_ok}
use Rattle.frame.specs.Kinds.{parts_of, part_count, has_parts}
use Rattle.frame.specs.Lengths.{header_length, parts_start, longest_frame, longest_command}
use Rattle.frame.specs.Format.{header, pairs, frame_bytes}
use Rattle.frame.specs.Fields.{Typed}
use Rattle.frame.specs.Cases.{ack_case, propose_case, table, AllHold}
use Rattle.frame.specs.declared.Frame.{Frame}
use Rattle.frame.proofs.FrameLaws.{frame-length}

-- every row of the table
pub cases : (n m : ℕ) → AllHold (table n m)
unfolding AllHold table ack_case propose_case frame_bytes header pairs parts_of part_count has_parts pick
    estimate_bytes state_bytes readings_bytes little_endian twos_complement values_bytes marks_byte
cases n m = (refl, (refl, tt))

-- "With n = 4, m = 2 a Propose has 53 bytes"; so has every kind with parts
pub fifty-three : (f : Frame) → Typed f → has_parts f.kind ≡ true → length (frame_bytes 4 2 f) ≡ 53
unfolding sizes_ok
fifty-three f t k = frame-length 4 2 f t refl ∙ pick_true _ _ _ k

-- "the longest frame has 69": with n = 6, m = 4 a frame with parts has as many; `frame-length-most` of `FrameLaws` says that none has more
pub sixty-nine : (f : Frame) → Typed f → has_parts f.kind ≡ true → length (frame_bytes 6 4 f) ≡ 69
unfolding sizes_ok
sixty-nine f t k = frame-length 6 4 f t refl ∙ pick_true _ _ _ k

-- the lengths by name
pub lengths : (header_length ≡ 20) × (parts_start ≡ 28) × (longest_frame ≡ 69) × (longest_command ≡ 24)
lengths = (refl, refl, refl, refl)
