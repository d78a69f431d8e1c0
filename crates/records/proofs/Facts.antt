-- The conditions of a record as plain facts, and the facts as conditions. Assumes nothing.
use mathlib.Core.Path.{◌≡◌}
use mathlib.Core.Bool.{true, ◌&&◌}
use mathlib.Core.List.{List}
use Prim.Native.Nat.{ℕ, ◌≤◌}
use lib.ListN.{length, get_or}
use lib.Dec.{eqb, leb}
use borrow.Author.Tests.{eqb-true, eq-eqb, leb-true}
use Rattle.lists.proofs.Booleans.{both}
use Rattle.estimate.specs.Marks.{marks_below}
use Rattle.replica.specs.declared.Held.{Held}
use Rattle.replica.specs.declared.Replica.{Replica}
use Rattle.replica.specs.Settings.{settings_refusal}
use Rattle.records.specs.Lengths.{record_length}
use Rattle.records.specs.SettingsPart.{letter, version}
use Rattle.records.specs.Reading.{layout_ok, settings_ok, states_ok, bytes_mean, marks_mean, heard_ok, bases_ok, values_ok, estimate_ok, best_ok, held_ok, is_record, replica_in}

-- ---- the layout

pub record Layout (b : List ℕ) : Type 0 where
  pub long : length b ≡ record_length
  pub byte-0 : get_or b 0 0 ≡ letter
  pub byte-1 : get_or b 1 0 ≡ version

module _ (b : List ℕ) where
  layout-facts : layout_ok b ≡ true → Layout b
  unfolding layout_ok
  layout-facts e =
      let p = both (eqb (length b) record_length) _ e in
      let q = both (eqb (get_or b 0 0) letter) _ p.1 in
      record { long = eqb-true _ _ p.0; byte-0 = eqb-true _ _ q.0; byte-1 = eqb-true _ _ q.1 }

  layout-holds : Layout b → layout_ok b ≡ true
  unfolding layout_ok
  layout-holds l = rw (eq-eqb _ _ l.long, eq-eqb _ _ l.byte-0, eq-eqb _ _ l.byte-1)

-- ---- what is held

-- no base is above its counter
pub record Bases (h : Held) : Type 0 where
  pub view : h.base_view ≤ h.view
  pub period : h.base_period ≤ h.period
  pub best-view : h.best.base_view ≤ h.view
  pub best-period : h.best.base_period ≤ h.period

pub bases-facts : (h : Held) → bases_ok h ≡ true → Bases h
unfolding bases_ok
bases-facts h e =
    let p = both (leb h.base_view h.view && leb h.base_period h.period) _ e in
    let q = both (leb h.base_view h.view) _ p.0 in
    let r = both (leb h.best.base_view h.view) _ p.1 in
    record { view = leb-true _ _ q.0; period = leb-true _ _ q.1; best-view = leb-true _ _ r.0; best-period = leb-true _ _ r.1 }

pub record HeldFacts (N n m : ℕ) (h : Held) (b : List ℕ) : Type 0 where
  pub mean : bytes_mean b ≡ true
  pub marks : marks_below m (get_or b 548 0) ≡ true
  pub best-marks : marks_below m (get_or b 599 0) ≡ true
  pub heard : heard_ok N h.heard ≡ true
  pub bases : bases_ok h ≡ true
  pub states : states_ok n h.estimate.state ≡ true
  pub values : values_ok h.estimate ≡ true
  pub best-states : states_ok n h.best.estimate.state ≡ true
  pub best-values : values_ok h.best.estimate ≡ true
  pub best : best_ok N h.best b ≡ true

module _ (N n m : ℕ) (h : Held) (b : List ℕ) where
  pub held-facts : held_ok N n m h b ≡ true → HeldFacts N n m h b
  unfolding held_ok marks_mean estimate_ok
  held-facts e =
      let p = both (bytes_mean b && marks_mean m b) _ e in
      let q = both (bytes_mean b) _ p.0 in
      let marks = both (marks_below m (get_or b 548 0)) _ q.1 in
      let r = both (heard_ok N h.heard && bases_ok h) _ p.1 in
      let s = both (heard_ok N h.heard) _ r.0 in
      let t = both (estimate_ok n h.estimate && estimate_ok n h.best.estimate) _ r.1 in
      let u = both (estimate_ok n h.estimate) _ t.0 in
      let own = both (states_ok n h.estimate.state) _ u.0 in
      let other = both (states_ok n h.best.estimate.state) _ u.1 in record {
        mean = q.0;
        marks = marks.0;
        best-marks = marks.1;
        heard = s.0;
        bases = s.1;
        states = own.0;
        values = own.1;
        best-states = other.0;
        best-values = other.1;
        best = t.1;
      }

  pub held-holds : HeldFacts N n m h b → held_ok N n m h b ≡ true
  unfolding held_ok marks_mean estimate_ok
  held-holds f = rw (f.mean, f.marks, f.best-marks, f.heard, f.bases, f.states, f.values, f.best-states, f.best-values, f.best)

-- ---- all of them

-- of a replica that bytes have
pub record RecordFacts (r : Replica) (b : List ℕ) : Type 0 where
  pub layout : Layout b
  pub stands : settings_refusal r.settings ≡ 0
  pub held : HeldFacts r.settings.boxes r.settings.law.n r.settings.law.m r.held b

module _ (b : List ℕ) where
  pub record-facts : is_record b ≡ true → RecordFacts (replica_in b) b
  unfolding is_record settings_ok replica_in
  record-facts e =
      let p = both (layout_ok b) _ e in
      let q = both (settings_ok b) _ p.1 in
      record { layout = layout-facts b p.0; stands = eqb-true _ _ q.0; held = held-facts _ _ _ _ b q.1 }

  pub record-holds : RecordFacts (replica_in b) b → is_record b ≡ true
  unfolding is_record settings_ok replica_in
  record-holds f = rw (layout-holds b f.layout, eq-eqb _ _ f.stands) (held-holds _ _ _ _ b f.held)
