-- How the areas of a caller are read as a frame, and how a frame is laid out in them.
use Rattle.std.specs.Prelude.{ℕ, List, [], ◌∷◌, length, get_or, ℤ}
use Rattle.readings.specs.declared.Readings.{Readings}
use Rattle.readings.specs.Readings.{present}
use Rattle.frame.specs.declared.Frame.{Frame}
use Rattle.estimate.specs.Marks.{bit}
use Rattle.frame.specs.Writing.{write_refusal, written}
use Rattle.winder.specs.Areas.{unless_refused}
use Rattle.winder.specs.LawAreas.{readings_of}

-- the frame in a caller's areas: kind and sender; period, view, base view and base period; the state; the readings
abbrev pub frame_of : (kind_and_sender counters : List ℕ) (state : List ℤ) (present : List ℕ) (values : List ℤ) → Frame
frame_of kind_and_sender counters state present values =
    record {
      kind = get_or kind_and_sender 0 0;
      sender = get_or kind_and_sender 1 0;
      period = get_or counters 0 0;
      view = get_or counters 1 0;
      base_view = get_or counters 2 0;
      base_period = get_or counters 3 0;
      estimate = record { state = state; readings = readings_of present values };
    }

-- "0 kind ..; 1 sender"
abbrev pub kind_and_sender_of : Frame → List ℕ
kind_and_sender_of f = f.kind ∷ f.sender ∷ []

-- "4 period; 8 view; 12 base view; 16 base period"
abbrev pub counters_of : Frame → List ℕ
counters_of f = f.period ∷ f.view ∷ f.base_view ∷ f.base_period ∷ []

-- the mark of each reading: 1 where it is present, else 0
abbrev pub marks_of : Readings → List ℕ
marks_of y = bit (present y 0) ∷ bit (present y 1) ∷ bit (present y 2) ∷ bit (present y 3) ∷ []

-- the length that a caller has after a call
abbrev pub length_after : (n m : ℕ) → Frame → (area : List ℕ) → (held : ℕ) → ℕ
length_after n m f area held = unless_refused (write_refusal n m f area) (length (written n m f area)) held
