-- How the areas of a caller are read as a replica, and how what a replica holds is laid out in them.
use Rattle.std.specs.Prelude.{ℕ, Bool, false, List, [], ◌∷◌, get_or, ℤ}
use Rattle.estimate.specs.Marks.{bit}
use Rattle.replica.specs.declared.Settings.{Settings}
use Rattle.replica.specs.declared.Held.{Held}
use Rattle.winder.specs.LawAreas.{mark_at, readings_of}
use Rattle.winder.specs.FrameAreas.{marks_of}

-- the settings in a caller's areas: N, the own number and the quorum numbers; n, m and p; the tables, limits and starting state as they are
abbrev pub settings_of : (group sizes : List ℕ) (a l c k low high start : List ℤ) → Settings
settings_of group sizes a l c k low high start =
    record {
      boxes = get_or group 0 0;
      own = get_or group 1 0;
      quorums = record { to_decide = get_or group 2 0; to_propose = get_or group 3 0 };
      law = record {
        n = get_or sizes 0 0;
        m = get_or sizes 1 0;
        p = get_or sizes 2 0;
        a = a;
        l = l;
        c = c;
        k = k;
        low = low;
        high = high;
        start = start;
      };
    }

-- the areas that what a replica holds is handed in by
pub record Areas : Type 0 where
  -- period, view, base view and base period; base view and base period of the best estimate
  pub counters : List ℕ
  -- view-change mode, decided, whether there is a best estimate; the box that it came from, which is a number
  pub marks : List ℕ
  -- the boxes heard, place j for box j
  pub heard : List ℕ
  -- the estimate
  pub state : List ℤ
  pub present : List ℕ
  pub values : List ℤ
  -- the best estimate's
  pub best_state : List ℤ
  pub best_present : List ℕ
  pub best_values : List ℤ

-- the areas by themselves
abbrev pub areas : (counters marks heard : List ℕ) (state : List ℤ) (present : List ℕ) (values best_state : List ℤ) (best_present : List ℕ)
    (best_values : List ℤ) → Areas
areas counters marks heard state present values best_state best_present best_values =
    record {
      counters = counters;
      marks = marks;
      heard = heard;
      state = state;
      present = present;
      values = values;
      best_state = best_state;
      best_present = best_present;
      best_values = best_values;
    }

-- the boxes heard: any mark but 0 is one heard
abbrev pub heard_of : List ℕ → List Bool
heard_of h =
    mark_at h 0 ∷ mark_at h 1 ∷ mark_at h 2 ∷ mark_at h 3 ∷ mark_at h 4 ∷ mark_at h 5 ∷ mark_at h 6 ∷ mark_at h 7 ∷ mark_at h 8 ∷ mark_at h 9 ∷ []

-- what is held by a replica in these areas
abbrev pub held_of : Areas → Held
held_of x =
    record {
      period = get_or x.counters 0 0;
      view = get_or x.counters 1 0;
      base_view = get_or x.counters 2 0;
      view_change = mark_at x.marks 0;
      decided = mark_at x.marks 1;
      estimate = record { state = x.state; readings = readings_of x.present x.values };
      base_period = get_or x.counters 3 0;
      heard = heard_of x.heard;
      best = record {
        any = mark_at x.marks 2;
        box_number = get_or x.marks 3 0;
        base_view = get_or x.counters 4 0;
        base_period = get_or x.counters 5 0;
        estimate = record { state = x.best_state; readings = readings_of x.best_present x.best_values };
      };
    }

-- the marks of the boxes heard: 1 for one heard, else 0
abbrev pub heard_marks : List Bool → List ℕ
heard_marks h =
    heard_at 0 ∷ heard_at 1 ∷ heard_at 2 ∷ heard_at 3 ∷ heard_at 4 ∷ heard_at 5 ∷ heard_at 6 ∷ heard_at 7 ∷ heard_at 8 ∷ heard_at 9 ∷ []
  where
    heard_at : ℕ → ℕ
    heard_at j = bit (get_or h j false)

-- the areas of what is held
abbrev pub areas_of : Held → Areas
areas_of h =
    record {
      counters = h.period ∷ h.view ∷ h.base_view ∷ h.base_period ∷ h.best.base_view ∷ h.best.base_period ∷ [];
      marks = bit h.view_change ∷ bit h.decided ∷ bit h.best.any ∷ h.best.box_number ∷ [];
      heard = heard_marks h.heard;
      state = h.estimate.state;
      present = marks_of h.estimate.readings;
      values = h.estimate.readings.values;
      best_state = h.best.estimate.state;
      best_present = marks_of h.best.estimate.readings;
      best_values = h.best.estimate.readings.values;
    }
