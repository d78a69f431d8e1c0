-- A message that a step sends is read back from its bytes as it is. Assumes nothing.
use mathlib.Core.Path.{◌≡◌, refl, sym, ap, ◌∙◌}
use mathlib.Core.Logic.{◌⊎◌, inl, inr}
use mathlib.Core.Bool.{true, false}
use mathlib.Core.List.{List}
use mathlib.Core.Option.{some}
use Prim.Native.Nat.{ℕ, ◌≤◌, ◌<◌}
use native.Mathlib.Decide.{dec_lt}
use native.Mathlib.Omega.{arith}
use lib.ListN.{length}
use lib.Seq.{ext_get_or}
use lib.IntN.{ℤ, pos}
use borrow.Author.Tests.{eq-eqb}
use Rattle.lists.specs.Choice.{pick}
use Rattle.lists.specs.Places.{entry}
use Rattle.lists.proofs.Places.{filled_at, filled-beyond, filled-length}
use Rattle.readings.specs.declared.Readings.{Readings}
use Rattle.readings.proofs.Normalised.{normalised-twice, normalised-none, normalised-marks, normalised-values}
use Rattle.scram.specs.declared.Kind.{Kind}
use Rattle.scram.specs.Held.{Estimate, Message, no_estimate}
use Rattle.law.specs.declared.Settings as Law
use Rattle.law.specs.Settings.{refusal}
use Rattle.law.proofs.Laws.{sizes-accepted}
use Rattle.estimate.specs.Fields.{no_state, first_states}
use Rattle.estimate.proofs.RoundTrip.{carried-whole}
use Rattle.frame.specs.declared.Frame.{Frame}
use Rattle.frame.specs.Fields as Fields
use Rattle.frame.specs.Kinds.{has_parts}
use Rattle.frame.specs.Reading.{ReadAs}
use Rattle.frame.proofs.FrameLaws.{kinds-parts, normalised-well-formed, no-parts-carried, parts-carried, read-exact}
use Rattle.replica.specs.Held.{estimate_of}
use Rattle.replica.specs.Frames.{kind_number, kind_of, carried_by, frame_of, message_of, found, sent_bytes}
use Rattle.replica.specs.Settings.{law_of}
use Rattle.replica.proofs.Accepted.{frame-sizes}
use Rattle.replica.proofs.Calls.{found_some}
use Rattle.replica.proofs.Written.{kind_ok-number}
use Rattle.group.proofs.Typed.{OfKind, Carried}

-- ---- kinds

kind-again : (k : Kind) → kind_of (kind_number k) ≡ k
unfolding kind_of pick
kind-again Kind.Propose = refl
kind-again Kind.Ack = refl
kind-again Kind.Decide = refl
kind-again Kind.Estimate = refl

kind-byte : (k : Kind) → kind_number k < 256
kind-byte Kind.Propose = omega arith
kind-byte Kind.Ack = omega arith
kind-byte Kind.Decide = omega arith
kind-byte Kind.Estimate = omega arith

-- a kind has parts, or its messages have no estimate
parts-or-none : (law : Law.Settings) (k : Kind) (x : Estimate (List ℤ) Readings) → OfKind law k x
    → (has_parts (kind_number k) ≡ true) ⊎ ((has_parts (kind_number k) ≡ false) × (x ≡ no_estimate (law_of law)))
parts-or-none law Kind.Propose x o = inl kinds-parts.0
parts-or-none law Kind.Ack x o = inr (kinds-parts.1, o)
parts-or-none law Kind.Decide x o = inl kinds-parts.2
parts-or-none law Kind.Estimate x o = inl kinds-parts.3

-- ---- states

-- six places with 0 beyond n are what their first n places give
pub first-states : (n : ℕ) (x : List ℤ) → length x ≡ 6 → ((i : ℕ) → n ≤ i → entry x i ≡ pos 0) → first_states n x ≡ x
first-states n x six beyond =
    ext_get_or (pos 0) (first_states n x) x (filled-length (pos 0) 6 n (entry x) ∙ sym six)
    (λ i l. at i (let e = filled-length (pos 0) 6 n (entry x) in omega arith) (dec_lt i n))
  where
    at : (i : ℕ) → i < 6 → Dec (i < n) → entry (first_states n x) i ≡ entry x i
    at i l (yes h) = filled_at (pos 0) 6 n i (entry x) h l
    at i l (no h) = filled-beyond (pos 0) 6 n i (entry x) (omega arith) ∙ sym (beyond i (omega arith))

-- ---- messages

module _ (law : Law.Settings) (e : refusal law ≡ 0) (m : Message (List ℤ) Readings) (c : Carried law m) where
  abbrev f : Frame
  f = frame_of law.m m

  typed : Fields.Typed f
  typed = record {
    kind = kind-byte m.kind;
    sender = c.sender;
    period = let h = c.counters.period in omega arith;
    view = let h = c.counters.view in omega arith;
    base-view = let h = c.counters.base_view in omega arith;
    base-period = let h = c.counters.base_period in omega arith;
    estimate = record {
      state-length = c.estimate.state.six;
      state = c.estimate.state.i32;
      marks-length = normalised-marks law.m m.estimate.readings;
      values_length = normalised-values law.m m.estimate.readings;
      values = rw c.estimate.readings.row c.estimate.readings.i32;
    };
  }

  whole : Fields.carried law.n law.m f ≡ f
  whole = by (parts-or-none law m.kind m.estimate c.kind)
    where
      by : (has_parts (kind_number m.kind) ≡ true) ⊎ ((has_parts (kind_number m.kind) ≡ false) × (m.estimate ≡ no_estimate (law_of law)))
          → Fields.carried law.n law.m f ≡ f
      by (inl q) =
          parts-carried law.n law.m f q
          (carried-whole law.n law.m f.estimate (first-states law.n m.estimate.state c.estimate.state.six c.estimate.state.beyond)
          (normalised-twice law.m m.estimate.readings))
      by (inr (q, z)) =
          no-parts-carried law.n law.m f q
          (ap (λ x. carried_by law.m (estimate_of x)) z ∙ λ i. record { state = no_state; readings = normalised-none law.m i })

  read_as : ReadAs law.n law.m (sent_bytes law.n law.m (some m)) f
  read_as =
      read-exact law.n law.m f typed (frame-sizes law e)
      (normalised-well-formed law.m f (sizes-accepted law e).m4 (kind_ok-number m.kind) (normalised-twice law.m m.estimate.readings)) whole

  message-again : message_of f ≡ m
  message-again = λ i. record {
    kind = kind-again m.kind i;
    sender = m.sender;
    period = m.period;
    view = m.view;
    base_view = m.base_view;
    base_period = m.base_period;
    estimate = record { state = m.estimate.state; readings = c.estimate.readings.row i };
  }

  pub found-sent : found law.n law.m (sent_bytes law.n law.m (some m)) ≡ some m
  found-sent =
      found_some law.n law.m (sent_bytes law.n law.m (some m)) (eq-eqb _ 0 read_as.done)
      ∙ ap (λ g. some (message_of g)) read_as.frame
      ∙ ap some message-again
