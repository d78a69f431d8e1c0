-- What the writers write where nothing is refused: a frame whose estimate is as frames carry it, and a command. Assumes nothing.
use Rattle.std.proofs.Common.{◌≡◌, refl, Bool, true, false, ◌&&◌, List, ℕ, ◌≤◌, length, ℤ, leb, leb-true}
use Rattle.std.proofs.lemmas.Bool.{false≢true}
use Rattle.readings.proofs.Normalised.{normalised-twice}
use Rattle.frame.specs.declared.Frame.{Frame}
use Rattle.frame.specs.Sizes.{sizes_ok, commands_ok}
use Rattle.frame.specs.Kinds.{any_of, kind_ok}
use Rattle.frame.specs.Lengths.{longest_frame, longest_command}
use Rattle.frame.specs.Format.{frame_bytes}
use Rattle.frame.specs.Writing.{write_refusal, written}
use Rattle.frame.specs.Command.{command_bytes, command_written}
use Rattle.frame.proofs.Refusals.{write_done, frame-written, command-done, command-written}
use Rattle.frame.proofs.FrameLaws.{normalised-well-formed}
use Rattle.scram.specs.declared.Kind.{Kind}
use Rattle.replica.specs.Frames.{kind_number, as_carried}

pub command-is : (p period : ℕ) (values : List ℤ) (limited : Bool) (area : List ℕ) → commands_ok p ≡ true → longest_command ≤ length area
    → command_written p period values limited area ≡ command_bytes p period values limited
command-is p period values limited area sized room = command-written p area period values limited (command-done p area sized room)

sized-m : (n m : ℕ) → sizes_ok n m ≡ true → m ≤ 4
unfolding sizes_ok
sized-m n m e = by (leb 1 n) (leb n 6) (leb 1 m) (leb m 4) refl e
  where
    by : (a b c d : Bool) → leb m 4 ≡ d → (a && (b && (c && d))) ≡ true → m ≤ 4
    by a b c true q e = leb-true m 4 q
    by true true true false q e = absurd (false≢true e)
    by true true false false q e = absurd (false≢true e)
    by true false c false q e = absurd (false≢true e)
    by false b c false q e = absurd (false≢true e)

module _ (n m : ℕ) (f : Frame) (area : List ℕ) (sized : sizes_ok n m ≡ true) (kind : kind_ok f.kind ≡ true) (room : longest_frame ≤ length area) where
  pub frame_taken : write_refusal n m (as_carried m f) area ≡ 0
  frame_taken =
      write_done n m (as_carried m f) area sized room
      (normalised-well-formed m (as_carried m f) (sized-m n m sized) kind (normalised-twice m f.estimate.readings))

  pub frame_is : written n m (as_carried m f) area ≡ frame_bytes n m (as_carried m f)
  frame_is = frame-written n m (as_carried m f) area frame_taken

-- each kind is in the frames' table
pub kind_ok-number : (kind : Kind) → kind_ok (kind_number kind) ≡ true
unfolding kind_ok any_of
kind_ok-number Kind.Propose = refl
kind_ok-number Kind.Ack = refl
kind_ok-number Kind.Decide = refl
kind_ok-number Kind.Estimate = refl
