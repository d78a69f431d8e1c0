-- The part of what is held: its bytes, and what is held in it. Estimates stand as frames carry them, with six states and four readings whatever n
-- and m are.
use Rattle.std.specs.Prelude.{ℕ, ◌+◌, Bool, false, List, [], ◌∷◌, ◌++◌, map, get_or, eqb}
use Rattle.lists.specs.Places.{filled}
use Rattle.octets.specs.Words.{little_endian, number_at}
use Rattle.estimate.specs.Marks.{bit}
use Rattle.estimate.specs.Format.{estimate_bytes}
use Rattle.estimate.specs.Reading.{estimate_at}
use Rattle.replica.specs.declared.Best.{Best}
use Rattle.replica.specs.declared.Held.{Held}

-- ---- as bytes

-- a mark is a byte: 1 where it is set, else 0
abbrev pub heard_bytes : List Bool → List ℕ
heard_bytes heard = map bit heard

-- the best estimate heard: whether there is one, its box, its bases, the estimate
unfoldable pub best_bytes : Best → List ℕ
best_bytes b =
    (bit b.any ∷ b.box_number ∷ [])
    ++ little_endian 4 b.base_view
    ++ little_endian 4 b.base_period
    ++ estimate_bytes 6 4 b.estimate

-- "Period, view and base view (each 32 bits), mode (normal or view change), whether this period is decided, an estimate (state, readings, base period), the
-- boxes heard (Acks or Estimates) and, in a view change, the best estimate heard."
unfoldable pub held_bytes : Held → List ℕ
unfolding best_bytes
held_bytes h =
    little_endian 4 h.period
    ++ little_endian 4 h.view
    ++ little_endian 4 h.base_view
    ++ little_endian 4 h.base_period
    ++ (bit h.view_change ∷ bit h.decided ∷ [])
    ++ heard_bytes h.heard
    ++ estimate_bytes 6 4 h.estimate
    ++ best_bytes h.best

-- ---- and back, from bytes that have the part at an offset

-- a mark at an offset
abbrev pub mark_at : List ℕ → ℕ → Bool
mark_at b at = eqb (get_or b at 0) 1

-- the boxes heard: place j is for box j
unfoldable pub heard_at : List ℕ → ℕ → List Bool
heard_at b at = filled false 10 10 (λ j. mark_at b (at + j))

-- the best estimate heard
unfoldable pub best_at : List ℕ → ℕ → Best
best_at b at = record {
  any = mark_at b at;
  box_number = get_or b (at + 1) 0;
  base_view = number_at 4 b (at + 2);
  base_period = number_at 4 b (at + 6);
  estimate = estimate_at 6 4 b (at + 10);
}

-- what is held
unfoldable pub held_at : List ℕ → ℕ → Held
unfolding best_at
held_at b at = record {
  period = number_at 4 b at;
  view = number_at 4 b (at + 4);
  base_view = number_at 4 b (at + 8);
  view_change = mark_at b (at + 16);
  decided = mark_at b (at + 17);
  estimate = estimate_at 6 4 b (at + 28);
  base_period = number_at 4 b (at + 12);
  heard = heard_at b (at + 18);
  best = best_at b (at + 69);
}
