-- Replicas that a record brings back as they were: those of every history, and those that were read from a record.
use Rattle.std.specs.Prelude.{ℕ, ◌<◌, ◌≡◌, true, ◌⊎◌, length}
use Rattle.lists.specs.I32.{AllI32}
use Rattle.estimate.specs.declared.Estimate.{Estimate}
use Rattle.estimate.specs.Fields.{TypedEstimate, carried_estimate}
use Rattle.replica.specs.declared.Settings.{Settings}
use Rattle.replica.specs.declared.Best.{Best}
use Rattle.replica.specs.declared.Held.{Held}
use Rattle.replica.specs.declared.Replica.{Replica}
use Rattle.replica.specs.Settings.{settings_refusal}
use Rattle.records.specs.Recording.{no_best}
use Rattle.records.specs.Reading.{is_box, heard_ok, bases_ok}

-- What the types of the settings' tables say of them. A list of the logic has no length and no width of its own.
pub record TypedSettings (s : Settings) : Type 0 where
  pub a-length : length s.law.a ≡ 36
  pub l-length : length s.law.l ≡ 24
  pub c-length : length s.law.c ≡ 24
  pub k-length : length s.law.k ≡ 24
  pub low-length : length s.law.low ≡ 4
  pub high-length : length s.law.high ≡ 4
  pub start-length : length s.law.start ≡ 6
  pub a : AllI32 s.law.a
  pub l : AllI32 s.law.l
  pub c : AllI32 s.law.c
  pub k : AllI32 s.law.k
  pub low : AllI32 s.law.low
  pub high : AllI32 s.law.high
  pub start : AllI32 s.law.start

-- an estimate that frames of n states and m readings carry whole
pub record CarriedWhole (n m : ℕ) (e : Estimate) : Type 0 where
  pub typed : TypedEstimate e
  pub whole : carried_estimate n m e ≡ e

-- a best estimate heard, of a box of the group
pub record BestOf (N : ℕ) (b : Best) : Type 0 where
  pub any : b.any ≡ true
  pub box : is_box N b.box_number ≡ true

-- what is held, of N boxes, n states and m readings
pub record HeldInOrder (N n m : ℕ) (h : Held) : Type 0 where
  pub period : h.period < 4294967296
  pub view : h.view < 4294967296
  pub ten : length h.heard ≡ 10
  pub heard : heard_ok N h.heard ≡ true
  pub bases : bases_ok h ≡ true
  pub estimate : CarriedWhole n m h.estimate
  pub best_estimate : CarriedWhole n m h.best.estimate
  pub best : (h.best ≡ no_best) ⊎ BestOf N h.best

-- a replica that its record brings back
pub record InOrder (r : Replica) : Type 0 where
  pub settings : TypedSettings r.settings
  pub stands : settings_refusal r.settings ≡ 0
  pub held : HeldInOrder r.settings.boxes r.settings.law.n r.settings.law.m r.held
