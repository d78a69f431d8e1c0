-- How long the two parts are, whatever they hold. Assumes nothing.
use mathlib.Core.Path.{◌≡◌, refl}
use mathlib.Core.List.{[], ◌∷◌, ◌++◌}
use Prim.Native.Nat.{ℕ}
use native.Mathlib.Omega.{arith}
use lib.ListN.{length, length-append}
use lib.IntN.{pos}
use Rattle.lists.proofs.Choice.{pick-ok}
use Rattle.lists.proofs.Places.{filled-length}
use Rattle.octets.specs.Words.{little_endian}
use Rattle.octets.proofs.Numbers.{length-little_endian}
use Rattle.octets.proofs.ValueLists.{length-values_bytes}
use Rattle.readings.specs.Readings.{normalised}
use Rattle.estimate.specs.declared.Estimate.{Estimate}
use Rattle.estimate.specs.Fields.{TypedEstimate, carried_estimate}
use Rattle.estimate.specs.Marks.{bit}
use Rattle.estimate.specs.Format.{estimate_bytes}
use Rattle.estimate.proofs.Lengths.{length-estimate}
use Rattle.law.specs.declared.Settings as Law
use Rattle.replica.specs.declared.Settings.{Settings}
use Rattle.replica.specs.declared.Best.{Best}
use Rattle.replica.specs.declared.Held.{Held}
use Rattle.records.specs.Lengths.{settings_length, held_length}
use Rattle.records.specs.SettingsPart.{head_bytes, tables_bytes, settings_bytes}
use Rattle.records.specs.HeldPart.{heard_bytes, best_bytes, held_bytes}
use Rattle.records.specs.Recording.{recorded_best, recorded_held}
use Rattle.records.proofs.Heard.{length-heard}

-- ---- the settings' part

pub length-head : (s : Settings) → length (head_bytes s) ≡ 8
unfolding head_bytes
length-head s = refl

-- what the types of the tables say
pub record TypedTables (law : Law.Settings) : Type 0 where
  pub a : length law.a ≡ 36
  pub l : length law.l ≡ 24
  pub c : length law.c ≡ 24
  pub k : length law.k ≡ 24
  pub low : length law.low ≡ 4
  pub high : length law.high ≡ 4
  pub start : length law.start ≡ 6

pub length-tables : (law : Law.Settings) → TypedTables law → length (tables_bytes law) ≡ 488
unfolding tables_bytes
length-tables law t = simp (length-append, length-values_bytes, t.a, t.l, t.c, t.k, t.low, t.high, t.start)

pub length-settings : (s : Settings) → TypedTables s.law → length (settings_bytes s) ≡ settings_length
unfolding settings_bytes
length-settings s t = rw length-append (omega (arith, length-head s, length-tables s.law t))

-- ---- the part of what is held

-- the counters, the marks and the boxes heard
pub length_front : (h : Held) → length h.heard ≡ 10
    → length (little_endian 4 h.period ++ little_endian 4 h.view ++ little_endian 4 h.base_view ++ little_endian 4 h.base_period
    ++ (bit h.view_change ∷ bit h.decided ∷ []) ++ heard_bytes h.heard) ≡ 28
unfolding little_endian
length_front h ten = omega (arith, length-heard h.heard ten)

-- an estimate with six states and four values
pub record FullEstimate (e : Estimate) : Type 0 where
  pub six : length e.state ≡ 6
  pub four : length e.readings.values ≡ 4

-- its type says so
pub full : {e : Estimate} → TypedEstimate e → FullEstimate e
full t = record { six = t.state-length; four = t.values_length }

-- the held estimate, or the best one's
pub length-own : (e : Estimate) → FullEstimate e → length (estimate_bytes 6 4 e) ≡ 41
length-own e f = length-estimate 6 4 e (omega (arith, f.six)) (omega (arith, f.four))

-- the best estimate heard, with what stands before it
pub length-best : (b : Best) → FullEstimate b.estimate → length (best_bytes b) ≡ 51
unfolding best_bytes little_endian
length-best b f = omega (arith, length-own b.estimate f)

pub length-held : (h : Held) → length h.heard ≡ 10 → FullEstimate h.estimate → FullEstimate h.best.estimate → length (held_bytes h) ≡ held_length
unfolding held_bytes
length-held h ten own best =
    simp (length-append, length-little_endian)
    (omega (arith, length-heard h.heard ten, length-own h.estimate own, length-own h.best.estimate best))

-- ---- what a record has of what is held

carried-full : (n m : ℕ) (e : Estimate) → FullEstimate (carried_estimate n m e)
unfolding carried_estimate normalised
carried-full n m e = record { six = filled-length (pos 0) 6 n _; four = filled-length (pos 0) 4 m _ }

recorded-full : (n m : ℕ) (b : Best) → FullEstimate (recorded_best n m b).estimate
unfolding recorded_best
recorded-full n m b =
    pick-ok (λ (x : Best). FullEstimate x.estimate) b.any _ _ (λ _. carried-full n m b.estimate) (λ _. record { six = refl; four = refl })

pub length-recorded : (n m : ℕ) (h : Held) → length h.heard ≡ 10 → length (held_bytes (recorded_held n m h)) ≡ held_length
unfolding recorded_held
length-recorded n m h ten = length-held (recorded_held n m h) ten (carried-full n m h.estimate) (recorded-full n m h.best)
