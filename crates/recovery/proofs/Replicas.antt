-- Returning from the record of a replica shows missed ticks, which is what the theorem of crate power asks of it. Assumes nothing.
use mathlib.Core.Path.{◌≡◌, refl, sym, ap, ◌∙◌}
use mathlib.Core.Logic.{◌⊎◌, inl, inr}
use mathlib.Core.Bool.{Bool, false, true, not}
use mathlib.Core.List.{[], ◌∷◌}
use mathlib.Core.Option.{Option, none, some}
use Prim.Native.Nat.{ℕ, zero, suc}
use lib.ListN.{get_or, replicate}
use lib.Dec.{eqb}
use Rattle.lists.specs.Choice.{pick}
use Rattle.lists.proofs.Choice.{pick-holds, pick-false}
use Rattle.readings.specs.Readings.{normalised, no_readings}
use Rattle.readings.proofs.Normalised.{normalised-none}
use Rattle.transmitters.specs.declared.Reading.TheVariants.{Missing}
use Rattle.transmitters.specs.Conversion.{converted, converted_row, CountI32}
use Rattle.scram.specs.Held.{Tick}
use Rattle.scram.specs.History.{Result}
use Rattle.scram.specs.Shown.{is_refused}
use Rattle.quorums.specs.declared.Quorums.{Quorums}
use Rattle.law.specs.declared.Settings as Law
use Rattle.frame.specs.Lengths.{longest_frame, longest_command}
use Rattle.replica.specs.declared.Replica.{Replica}
use Rattle.replica.specs.Settings.{settings_refusal, law_of}
use Rattle.replica.specs.Calls.{tick_outcome}
use Rattle.records.specs.Lengths.{record_length}
use Rattle.records.specs.Recording.{record_bytes, recorded}
use Rattle.records.specs.Reading.{is_record, replica_in}
use Rattle.records.specs.InOrder.{TypedSettings}
use Rattle.records.specs.Returning.{missed_tick, after_missed, stayed_up, passes_largest, misses_too_many, return_refusal}
use Rattle.records.proofs.RoundTrip.{recorded-is-record, recorded-read}
use Rattle.group.specs.Group.{Handed, Areas, result_of, settings_of, group}
use Rattle.group.proofs.Calls.{Kept}
use Rattle.power.specs.Returns.{missed, Returns}
use Rattle.recovery.specs.Recorded.{storage}
use Rattle.recovery.proofs.InOrder.{kept-in-order}
use Rattle.recovery.proofs.Refusals.{neither, recorded-bytes, recorded-stands, return-passed, return-done}

-- ---- a tick handed no reading

pub four-missing : (j : ℕ) → CountI32 (get_or (Missing ∷ Missing ∷ Missing ∷ Missing ∷ []) j Missing)
four-missing zero = tt
four-missing (suc zero) = tt
four-missing (suc (suc zero)) = tt
four-missing (suc (suc (suc zero))) = tt
four-missing (suc (suc (suc (suc j)))) = tt

abbrev pub absent : Handed
absent = record { readings = Missing ∷ Missing ∷ Missing ∷ Missing ∷ []; four = refl; i32 = four-missing }

-- areas that are just long enough
abbrev pub areas : Areas
areas = record { frame = replicate longest_frame 0; command = replicate longest_command 0 }

no_row : converted_row absent.readings ≡ no_readings
unfolding converted_row converted
no_row = refl

exchanged : (b : Bool) (x : Option Replica) → pick (not b) x none ≡ pick b none x
unfolding pick
exchanged true x = refl
exchanged false x = refl

module _ (N : ℕ) (q : Quorums) (law : Law.Settings) where
  -- the call for it is a missed tick
  pub missed-call : (r : Replica) → (group N q law).call r (Tick absent) areas ≡ result_of r.settings (missed_tick r)
  missed-call r = ap (λ y. result_of r.settings (tick_outcome r y longest_frame longest_command)) no_row

  -- ---- as many of them

  -- a box that stayed up
  stays : (k : ℕ) (r : Replica) → passes_largest k r ≡ false → missed (group N q law) absent areas k r ≡ some (stayed_up k r)
  unfolding missed passes_largest stayed_up
  stays zero r e = refl
  stays (suc k) r e =
      let p = neither (is_refused (missed_tick r).answer) (passes_largest k (after_missed r)) e in
      ap (λ (w : Result Replica). pick w.refused none (missed (group N q law) absent areas k w.box)) (missed-call r)
      ∙ pick-false _ _ _ p.0
      ∙ stays k (after_missed r) p.1

  -- ---- returning

  module _ (t : TypedSettings (settings_of N q law 1)) where
    -- a replica of a history is read from its record as it is
    pub kept_read : (i : ℕ) (c : Replica) → Kept N q law i c → is_record (recorded c record_length) ≡ true → replica_in (recorded c record_length) ≡ c
    kept_read i c h there =
        let e = recorded-stands c there in
        ap replica_in (recorded-bytes c e) ∙ recorded-read c (kept-in-order N q law t i c (ap settings_refusal (sym h.settings) ∙ e) h)

    back : (i : ℕ) (c : Replica) (k : ℕ) → Kept N q law i c → eqb (return_refusal k (recorded c record_length)) 0 ≡ true
        → some (stayed_up k (replica_in (recorded c record_length))) ≡ missed (group N q law) absent areas k c
    back i c k h e =
        let p = return-passed k (recorded c record_length) e in
        let r = kept_read i c h p.record-there in
        ap (λ x. some (stayed_up k x)) r ∙ sym (stays k c (ap (passes_largest k) (sym r) ∙ p.within))

    pub returns : Returns (group N q law) (Kept N q law) (law_of law) (storage N q law)
    returns = record {
      absent = absent;
      areas = areas;
      no_reading = ap (normalised law.m) no_row ∙ normalised-none law.m;
      returns = λ i c k h. pick-holds (λ o. (o ≡ none) ⊎ (o ≡ missed (group N q law) absent areas k c)) (eqb (return_refusal k (recorded c record_length)) 0) _ _
          (λ e. inr (back i c k h e)) (λ _. inl refl);
    }

    -- ---- coming back

    pub comes_back : (i : ℕ) (c : Replica) (k : ℕ) → Kept N q law i c → settings_refusal (settings_of N q law i) ≡ 0
        → (storage N q law).back ((storage N q law).recorded c) k ≡ pick (misses_too_many k c) none (some (stayed_up k c))
    comes_back i c k h e =
        let o = kept-in-order N q law t i c e h in
        let r = recorded-read c o in
        ap (λ b. (storage N q law).back b k) (recorded-bytes c o.stands)
        ∙ ap (λ z. pick z (some (stayed_up k (replica_in (record_bytes c)))) none) (return-done k (record_bytes c) (recorded-is-record c o))
        ∙ ap (λ x. pick (not (misses_too_many k x)) (some (stayed_up k x)) none) r
        ∙ exchanged (misses_too_many k c) (some (stayed_up k c))

    pub comes-back-same : (i : ℕ) (c : Replica) → Kept N q law i c → settings_refusal (settings_of N q law i) ≡ 0
        → (storage N q law).back ((storage N q law).recorded c) 0 ≡ some c
    unfolding misses_too_many passes_largest stayed_up pick
    comes-back-same i c h e = comes_back i c 0 h e
