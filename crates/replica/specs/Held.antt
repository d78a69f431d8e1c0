-- What a replica holds, as the code's structs and as the protocol's records. `held_in` reads a struct as the record, and `held_of` is the struct of a
-- record: nothing is lost either way.
use Rattle.std.specs.Prelude.{List, ℤ}
use Rattle.readings.specs.declared.Readings.{Readings}
use Rattle.scram.specs.Held as Scram
use Rattle.estimate.specs.declared.Estimate.{Estimate}
use Rattle.replica.specs.declared.Best.{Best}
use Rattle.replica.specs.declared.Held.{Held}

-- ---- the protocol's records

-- "an estimate (state, readings, ..)"
abbrev pub estimate_in : Estimate → Scram.Estimate (List ℤ) Readings
estimate_in e = record { state = e.state; readings = e.readings }

-- "the best estimate heard"
abbrev pub best_in : Best → Scram.Best (List ℤ) Readings
best_in b = record {
  any = b.any;
  box = b.box_number;
  base_view = b.base_view;
  base_period = b.base_period;
  estimate = estimate_in b.estimate;
}

-- what a replica holds
abbrev pub held_in : Held → Scram.Held (List ℤ) Readings
held_in h = record {
  period = h.period;
  view = h.view;
  base_view = h.base_view;
  view_change = h.view_change;
  decided = h.decided;
  estimate = estimate_in h.estimate;
  base_period = h.base_period;
  heard = h.heard;
  best = best_in h.best;
}

-- ---- the structs

-- the struct of an estimate
abbrev pub estimate_of : Scram.Estimate (List ℤ) Readings → Estimate
estimate_of e = record { state = e.state; readings = e.readings }

-- the struct of a best estimate
abbrev pub best_of : Scram.Best (List ℤ) Readings → Best
best_of b = record {
  any = b.any;
  box_number = b.box;
  base_view = b.base_view;
  base_period = b.base_period;
  estimate = estimate_of b.estimate;
}

-- the struct of what is held
abbrev pub held_of : Scram.Held (List ℤ) Readings → Held
held_of h = record {
  period = h.period;
  view = h.view;
  base_view = h.base_view;
  view_change = h.view_change;
  decided = h.decided;
  estimate = estimate_of h.estimate;
  base_period = h.base_period;
  heard = h.heard;
  best = best_of h.best;
}
