-- Which refusal a call makes, and what it then gives: the cases of the definitions. Assumes nothing.
use mathlib.Core.Path.{◌≡◌, refl, sym, ap, ◌∙◌}
use mathlib.Core.Bool.{Bool, true, false, not}
use mathlib.Core.List.{List, []}
use Prim.Native.Nat.{ℕ, suc, ◌≤◌, ◌<◌}
use native.Mathlib.Omega.{arith}
use lib.ListN.{length}
use lib.IntN.{ℤ}
use lib.Dec.{eqb-suc-zero}
use borrow.Author.Tests.{eq-eqb, le-leb, lt-leb}
use Rattle.lists.proofs.Choice.{pick_true, pick-false}
use Rattle.lists.proofs.Refusals.{none-holds, first_holds, first-fails}
use Rattle.estimate.specs.Fields.{no_estimate, carried_estimate}
use Rattle.estimate.specs.Reading.{estimate_at}
use Rattle.frame.specs.Sizes.{sizes_ok, commands_ok}
use Rattle.frame.specs.Kinds.{has_parts}
use Rattle.frame.specs.Lengths.{parts_start, longest_frame, longest_command}
use Rattle.frame.specs.Format.{frame_bytes}
use Rattle.frame.specs.Fields.{blank, with_estimate, carried}
use Rattle.frame.specs.Reading.{kind_in, header_ok, parts_ok, is_frame, headed, fields_in, read_refusal, read_frame}
use Rattle.frame.specs.Writing.{well_formed, write_refusal, written}
use Rattle.frame.specs.Command.{command_bytes, command_refusal, command_written}
use Rattle.frame.specs.declared.Frame.{Frame}

-- ---- reading

module _ (n m : ℕ) (b : List ℕ) where
  pub read-sizes : sizes_ok n m ≡ false → read_refusal n m b ≡ 2
  unfolding read_refusal
  read-sizes s = first_holds 2 _ _ (ap not s)

  pub read-malformed : sizes_ok n m ≡ true → is_frame n m b ≡ false → read_refusal n m b ≡ 8
  unfolding read_refusal
  read-malformed s h = first-fails 2 _ _ (ap not s) ∙ first_holds 8 _ _ (ap not h)

  pub read_done : sizes_ok n m ≡ true → is_frame n m b ≡ true → read_refusal n m b ≡ 0
  unfolding read_refusal
  read_done s h = first-fails 2 _ _ (ap not s) ∙ first-fails 8 _ _ (ap not h) ∙ none-holds

  pub no-frame : (k : ℕ) → read_refusal n m b ≡ suc k → read_frame n m b ≡ blank
  unfolding read_frame
  no-frame k e = pick-false _ _ _ (rw (e, eqb-suc-zero))

  pub frame-read : read_refusal n m b ≡ 0 → read_frame n m b ≡ fields_in n m b
  unfolding read_frame
  frame-read e = pick_true _ _ _ (eq-eqb _ 0 e)

  -- what it tells that nothing is refused
  pub record Accepted : Type 0 where
    pub sized : sizes_ok n m ≡ true
    pub good : is_frame n m b ≡ true

  accepted-by : (s t : Bool) → sizes_ok n m ≡ s → is_frame n m b ≡ t → read_refusal n m b ≡ 0 → Accepted
  accepted-by true true es et e = record { sized = es; good = et }
  accepted-by true false es et e = absurd (let z : ◌≡◌ {A = ℕ} 8 0 = sym (read-malformed es et) ∙ e in omega arith)
  accepted-by false t es et e = absurd (let z : ◌≡◌ {A = ℕ} 2 0 = sym (read-sizes es) ∙ e in omega arith)

  pub accepted : read_refusal n m b ≡ 0 → Accepted
  accepted e = accepted-by (sizes_ok n m) (is_frame n m b) refl refl e

-- ---- writing

module _ (n m : ℕ) (f : Frame) (area : List ℕ) where
  pub write-sizes : sizes_ok n m ≡ false → write_refusal n m f area ≡ 2
  unfolding write_refusal
  write-sizes s = first_holds 2 _ _ (ap not s)

  pub write-area : sizes_ok n m ≡ true → length area < longest_frame → write_refusal n m f area ≡ 5
  unfolding write_refusal
  write-area s h = first-fails 2 _ _ (ap not s) ∙ first_holds 5 _ _ (ap not (lt-leb longest_frame (length area) h))

  pub write-malformed : sizes_ok n m ≡ true → longest_frame ≤ length area → well_formed m f ≡ false → write_refusal n m f area ≡ 8
  unfolding write_refusal
  write-malformed s h w =
      first-fails 2 _ _ (ap not s) ∙ first-fails 5 _ _ (ap not (le-leb longest_frame (length area) h)) ∙ first_holds 8 _ _ (ap not w)

  pub write_done : sizes_ok n m ≡ true → longest_frame ≤ length area → well_formed m f ≡ true → write_refusal n m f area ≡ 0
  unfolding write_refusal
  write_done s h w =
      first-fails 2 _ _ (ap not s) ∙ first-fails 5 _ _ (ap not (le-leb longest_frame (length area) h)) ∙ first-fails 8 _ _ (ap not w) ∙ none-holds

  pub nothing_written : (k : ℕ) → write_refusal n m f area ≡ suc k → written n m f area ≡ []
  unfolding written
  nothing_written k e = pick-false _ _ _ (rw (e, eqb-suc-zero))

  pub frame-written : write_refusal n m f area ≡ 0 → written n m f area ≡ frame_bytes n m f
  unfolding written
  frame-written e = pick_true _ _ _ (eq-eqb _ 0 e)

-- ---- writing a command

module _ (p : ℕ) (area : List ℕ) where
  pub command-sizes : commands_ok p ≡ false → command_refusal p area ≡ 2
  unfolding command_refusal
  command-sizes s = first_holds 2 _ _ (ap not s)

  pub command-area : commands_ok p ≡ true → length area < longest_command → command_refusal p area ≡ 5
  unfolding command_refusal
  command-area s h = first-fails 2 _ _ (ap not s) ∙ first_holds 5 _ _ (ap not (lt-leb longest_command (length area) h))

  pub command-done : commands_ok p ≡ true → longest_command ≤ length area → command_refusal p area ≡ 0
  unfolding command_refusal
  command-done s h = first-fails 2 _ _ (ap not s) ∙ first-fails 5 _ _ (ap not (le-leb longest_command (length area) h)) ∙ none-holds

  module _ (period : ℕ) (values : List ℤ) (limited : Bool) where
    pub no-command : (k : ℕ) → command_refusal p area ≡ suc k → command_written p period values limited area ≡ []
    unfolding command_written
    no-command k e = pick-false _ _ _ (rw (e, eqb-suc-zero))

    pub command-written : command_refusal p area ≡ 0 → command_written p period values limited area ≡ command_bytes p period values limited
    unfolding command_written
    command-written e = pick_true _ _ _ (eq-eqb _ 0 e)

-- ---- which bytes are no frame

module _ (n m : ℕ) (b : List ℕ) where
  pub bad-header : header_ok n m b ≡ false → is_frame n m b ≡ false
  unfolding is_frame
  bad-header h = rw h

  pub good-header : header_ok n m b ≡ true → has_parts (kind_in b) ≡ false → is_frame n m b ≡ true
  unfolding is_frame
  good-header h k = rw (h, k)

  pub by_parts : header_ok n m b ≡ true → has_parts (kind_in b) ≡ true → is_frame n m b ≡ parts_ok n m b
  unfolding is_frame
  by_parts h k = rw (h, k)

  -- ---- the two cases of the fields

  pub no-parts-fields : has_parts (kind_in b) ≡ false → fields_in n m b ≡ headed b no_estimate
  unfolding fields_in
  no-parts-fields k = ap (headed b) (pick-false _ _ _ k)

  pub parts-fields : has_parts (kind_in b) ≡ true → fields_in n m b ≡ headed b (estimate_at n m b parts_start)
  unfolding fields_in
  parts-fields k = ap (headed b) (pick_true _ _ _ k)

-- ---- the two cases of what is carried

module _ (n m : ℕ) (f : Frame) where
  pub carried_none : has_parts f.kind ≡ false → carried n m f ≡ with_estimate f no_estimate
  unfolding carried
  carried_none k = ap (with_estimate f) (pick-false _ _ _ k)

  pub carried-parts : has_parts f.kind ≡ true → carried n m f ≡ with_estimate f (carried_estimate n m f.estimate)
  unfolding carried
  carried-parts k = ap (with_estimate f) (pick_true _ _ _ k)
