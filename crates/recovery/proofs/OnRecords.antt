-- The calls of the C firmware, on records, show the protocol's steps, and returning shows missed ticks. Assumes nothing.
use mathlib.Core.Path.{◌≡◌, refl, sym, ap, ◌∙◌, subst}
use mathlib.Core.Logic.{◌⊎◌, inl, inr}
use mathlib.Core.Bool.{Bool, true, false}
use mathlib.Core.List.{List, [], ◌∷◌}
use mathlib.Core.Option.{none, some}
use Prim.Native.Nat.{ℕ, zero, suc, ◌-◌}
use native.Mathlib.Omega.{arith}
use lib.Dec.{eqb, ltb}
use lib.ListN.{get_or}
use lib.IntN.{ℤ, pos, negsuc}
use borrow.Author.Tests.{eqb-true, eqb-false, ltb-true, ltb-false}
use mir.Syntax.{w32}
use mir.Val.{SFits}
use Rattle.lists.specs.Choice.{pick}
use Rattle.lists.proofs.Choice.{pick-ok, pick-holds, pick_true, pick-false}
use Rattle.octets.specs.Words.{from_twos_complement}
use Rattle.readings.specs.declared.Readings.{Readings}
use Rattle.readings.specs.Readings.{normalised, no_readings}
use Rattle.readings.proofs.Normalised.{normalised-none}
use Rattle.transmitters.specs.declared.Reading.TheVariants.{Missing}
use Rattle.transmitters.specs.Conversion.{converted, converted_row, CountI32}
use Rattle.transmitters.specs.Numbers.{reading_of, readings_of}
use Rattle.scram.specs.Held.{Held, Message, Group, Input, Tick, Arrival, GiveUp, fresh}
use Rattle.scram.specs.History.{Result}
use Rattle.scram.specs.Shown.{is_refused, Still, in_bytes, outcome, Arrives, Does, Shown}
use Rattle.quorums.specs.declared.Quorums.{Quorums}
use Rattle.law.specs.declared.Settings as Law
use Rattle.frame.specs.Lengths.{longest_frame, longest_command}
use Rattle.replica.specs.declared.Settings.{Settings}
use Rattle.replica.specs.declared.Replica.{Replica}
use Rattle.replica.specs.Settings.{settings_refusal, law_of, member_of, group_of}
use Rattle.replica.specs.Held.{held_in, held_of}
use Rattle.replica.specs.Frames.{sent_bytes, issued_bytes}
use Rattle.replica.specs.Calls.{Outcomes, tick_outcome, fresh_of}
use Rattle.records.specs.Lengths.{record_length}
use Rattle.records.specs.SettingsPart.{settings_in}
use Rattle.records.specs.Recording.{record_bytes, recorded}
use Rattle.records.specs.Reading.{is_done, is_record, replica_in}
use Rattle.records.specs.InOrder.{TypedSettings, InOrder}
use Rattle.records.specs.Returning.{missed_tick, after_missed, stayed_up, passes_largest}
use Rattle.records.proofs.RoundTrip.{recorded-is-record, recorded-read}
use Rattle.group.specs.Group.{Areas, result_of, settings_of, group}
use Rattle.group.specs.Group as Group
use Rattle.group.proofs.Typed.{Carried}
use Rattle.group.proofs.Calls.{Kept, shown}
use Rattle.power.specs.Returns.{missed, Returns}
use Rattle.winder.specs.ReplicaAreas.{step_at, record_after, recording, returning_refusal, returning}
use Rattle.recovery.specs.Firmware.{Handed, row_of, outcome_at, result_at, firmware, storing, written, copied}
use Rattle.recovery.proofs.InOrder.{kept-in-order}
use Rattle.recovery.proofs.Quiet.{QuietCall, outcome-quiet}
use Rattle.recovery.proofs.Refusals.{neither, recorded-bytes, recorded-none, returning-passed, returning-15, returning-bytes}
use Rattle.recovery.proofs.Refusals.{recording-done, recording-none}
use Rattle.recovery.proofs.Replicas as Replicas
use Rattle.recovery.proofs.Replicas.{areas, missed-call}

-- ---- what a tick is handed

-- a count in two's complement is an i32
count_fits : (x : ℕ) → SFits w32 (from_twos_complement x)
unfolding from_twos_complement
count_fits x =
    pick-holds (SFits w32) (ltb x 2147483648) (pos x) (negsuc (4294967296 - suc x)) (λ t. record { sfits = omega (arith, ltb-true x 2147483648 t) })
    (λ f. record { sfits = omega (arith, ltb-false x 2147483648 f) })

reading-fits : (kind bits : ℕ) → CountI32 (reading_of kind bits)
unfolding reading_of
reading-fits kind bits = pick-ok CountI32 _ _ _ (λ _. count_fits bits) (λ _. pick-ok CountI32 _ _ _ (λ _. tt) (λ _. tt))

readings-fit : (kinds bits : List ℕ) (j : ℕ) → CountI32 (get_or (readings_of kinds bits) j Missing)
readings-fit kinds bits zero = reading-fits _ _
readings-fit kinds bits (suc zero) = reading-fits _ _
readings-fit kinds bits (suc (suc zero)) = reading-fits _ _
readings-fit kinds bits (suc (suc (suc zero))) = reading-fits _ _
readings-fit kinds bits (suc (suc (suc (suc j)))) = tt

-- as the replica's tick is handed it
abbrev readings_in : Handed → Group.Handed
readings_in y = record { readings = readings_of y.kinds y.bits; four = refl; i32 = readings-fit y.kinds y.bits }

-- no reading
abbrev absent : Handed
absent = record { kinds = 0 ∷ 0 ∷ 0 ∷ 0 ∷ []; bits = 0 ∷ 0 ∷ 0 ∷ 0 ∷ [] }

no_row : row_of absent ≡ no_readings
unfolding converted_row converted reading_of pick
no_row = refl

-- ---- the record of a replica in order

-- a result with the record of its replica
abbrev onto : Result Replica → Result (List ℕ)
onto r = record { box = record_bytes r.box; refused = r.refused; frame = r.frame; command = r.command }

module _ (N : ℕ) (q : Quorums) (law : Law.Settings) (c : Replica) (o : InOrder c) where
  abbrev bytes : List ℕ
  bytes = record_bytes c

  holds : (firmware N q law).held bytes ≡ held_in c.held
  holds = pick_true _ _ _ (recorded-is-record c o) ∙ ap (λ (r : Replica). held_in r.held) (recorded-read c o)

  settings-in : settings_in bytes ≡ c.settings
  unfolding replica_in
  settings-in = ap (λ (r : Replica). r.settings) (recorded-read c o)

  step-at : (step : Replica → Outcomes) → step_at bytes step ≡ step c
  unfolding step_at
  step-at step = pick_true _ _ _ (recorded-is-record c o) ∙ ap step (recorded-read c o)

  -- the record after a step is that of the replica after it, done or not
  after-step : (p : Outcomes) → QuietCall c p → record_after bytes p ≡ record_bytes (record { settings = c.settings; held = held_of p.held })
  unfolding record_after
  after-step p q =
      pick-holds (λ (b : List ℕ). b ≡ record_bytes (record { settings = c.settings; held = held_of p.held })) (is_done p.answer) _ _
      (λ _. ap (λ (s : Settings). record_bytes (record { settings = s; held = held_of p.held })) settings-in)
      (λ f. ap (λ h. record_bytes (record { settings = c.settings; held = held_of h })) (sym (q.held f)))

  -- so a call on it gives what the replica's call gives
  result-at : (step : Replica → Outcomes) → QuietCall c (step c) → result_at bytes (step_at bytes step) ≡ onto (result_of c.settings (step c))
  result-at step q =
      ap (result_at bytes) (step-at step)
      ∙ λ j. record {
        box = after-step (step c) q j;
        refused = is_refused (step c).answer;
        frame = sent_bytes (settings-in j).law.n (settings-in j).law.m (step c).sent;
        command = issued_bytes (settings-in j).law.p (step c).command;
      }

-- ---- no record

-- a call is refused by 15, and nothing changes
no-record-still : (b : List ℕ) (step : Replica → Outcomes) → is_record b ≡ false → Still b (result_at b (step_at b step))
unfolding step_at record_after
no-record-still b step f =
    subst (λ (o : Outcomes). Still b (result_at b o)) (sym (pick-false _ _ _ f))
    (record { box = pick-false _ _ _ refl; refused = refl; frame = refl; command = refl })

module _ (N : ℕ) (q : Quorums) (law : Law.Settings) (t : TypedSettings (settings_of N q law 1)) (e : settings_refusal (settings_of N q law 1) ≡ 0) where
  abbrev G : Group
  G = group_of (member_of (settings_of N q law 1))

  -- the area of a box of the group: the record of a replica of a history
  pub record Written (i : ℕ) (b : List ℕ) : Type 0 where
    pub replica : Replica
    pub same : b ≡ record_bytes replica
    pub kept : Kept N q law i replica
    pub stands : settings_refusal (settings_of N q law i) ≡ 0

  -- any other box has no record
  pub record Elsewhere (i : ℕ) (b : List ℕ) : Type 0 where
    pub refused : settings_refusal (settings_of N q law i) ≡ 0 → ⊥
    pub none-there : is_record b ≡ false

  abbrev pub KeptIn : ℕ → List ℕ → Type 0
  KeptIn i b = Written i b ⊎ Elsewhere i b

  -- ---- the calls

  -- a call at box i whose result is r shows the step o of what is held, or does nothing
  abbrev Shows : ℕ → List ℕ → (Held (List ℤ) Readings → Outcomes) → Result (List ℕ) → Type 0
  Shows i b o r = Does (firmware N q law) KeptIn (Carried law) i (o ((firmware N q law).held b)) r ⊎ Still b r

  module _ (i : ℕ) (stands : settings_refusal (settings_of N q law i) ≡ 0) where
    pub in_order : (c : Replica) → Kept N q law i c → InOrder c
    in_order c k = kept-in-order N q law t i c stands k

    -- the replica's result, with the record
    onto-shows : (c : Replica) (p : Outcomes) (r : Result Replica) → Does (group N q law) (Kept N q law) (Carried law) i p r ⊎ Still c r
        → Does (firmware N q law) KeptIn (Carried law) i p (onto r) ⊎ Still (record_bytes c) (onto r)
    onto-shows c p r (inl d) = inl (record {
      kept = inl (record { replica = r.box; same = refl; kept = d.kept; stands = stands });
      held = holds N q law r.box (in_order r.box d.kept) ∙ d.held;
      refused = d.refused;
      frame = d.frame;
      command = d.command;
    })
    onto-shows c p r (inr d) = inr (record { box = ap record_bytes d.box; refused = d.refused; frame = d.frame; command = d.command })

    -- a call on the record of a replica shows what the replica's call shows
    record-shows : (c : Replica) → Kept N q law i c → (step : Replica → Outcomes) (o : Held (List ℤ) Readings → Outcomes) → QuietCall c (step c)
        → Does (group N q law) (Kept N q law) (Carried law) i (o (held_in c.held)) (result_of c.settings (step c)) ⊎ Still c (result_of c.settings (step c))
        → Shows i (record_bytes c) o (result_at (record_bytes c) (step_at (record_bytes c) step))
    record-shows c k step o quiet d =
        let w = in_order c k in
        subst (Shows i (record_bytes c) o) (sym (result-at N q law c w step quiet))
        (subst (λ h. Does (firmware N q law) KeptIn (Carried law) i (o h) (onto (result_of c.settings (step c))) ⊎ Still (record_bytes c) (onto (result_of c.settings (step c))))
        (sym (holds N q law c w)) (onto-shows c (o (held_in c.held)) (result_of c.settings (step c)) d))

    replica-calls : (c : Replica) (x : Input Handed (Message (List ℤ) Readings)) (a : Areas) → Kept N q law i c → Arrives (firmware N q law) (Carried law) x
        → Shows i (record_bytes c) (λ h. outcome (firmware N q law) (law_of law) G i h x) ((firmware N q law).call (record_bytes c) (in_bytes (firmware N q law) x) a)
    replica-calls c (Tick y) a k w =
        record-shows c k (λ r. outcome_at r (Tick y) a) (λ h. outcome (firmware N q law) (law_of law) G i h (Tick y)) (outcome-quiet c (Tick y) a)
        ((shown N q law t.start e).calls i c (Tick (readings_in y)) a k tt)
    replica-calls c (Arrival m) a k w =
        record-shows c k (λ r. outcome_at r (Arrival ((firmware N q law).frame_bytes m)) a) (λ h. outcome (firmware N q law) (law_of law) G i h (Arrival m))
        (outcome-quiet c (Arrival ((firmware N q law).frame_bytes m)) a) ((shown N q law t.start e).calls i c (Arrival m) a k w)
    replica-calls c GiveUp a k w =
        record-shows c k (λ r. outcome_at r GiveUp a) (λ h. outcome (firmware N q law) (law_of law) G i h GiveUp) (outcome-quiet c GiveUp a)
        ((shown N q law t.start e).calls i c GiveUp a k tt)

  calls : (i : ℕ) (b : List ℕ) (x : Input Handed (Message (List ℤ) Readings)) (a : Areas) → KeptIn i b → Arrives (firmware N q law) (Carried law) x
      → Shows i b (λ h. outcome (firmware N q law) (law_of law) G i h x) ((firmware N q law).call b (in_bytes (firmware N q law) x) a)
  calls i b x a (inl k) w =
      subst (λ b. Shows i b (λ h. outcome (firmware N q law) (law_of law) G i h x) ((firmware N q law).call b (in_bytes (firmware N q law) x) a)) (sym k.same)
      (replica-calls i k.stands k.replica x a k.kept w)
  calls i b x a (inr f) w = inr (no-record-still b (λ r. outcome_at r (in_bytes (firmware N q law) x) a) f.none-there)

  -- ---- fresh boxes

  module _ (i : ℕ) where
    abbrev fresh_replica : Replica
    fresh_replica = fresh_of (settings_of N q law i)

    -- what holds of the record of a fresh replica, and where there is none, holds of what making writes
    made_ok : (P : List ℕ → Type 0) → (settings_refusal (settings_of N q law i) ≡ 0 → P (record_bytes fresh_replica)) → ((b : List ℕ) → Elsewhere i b → P b)
        → P ((firmware N q law).fresh i)
    made_ok P f g = by (eqb (settings_refusal (settings_of N q law i)) 0) refl
      where
        by : (b : Bool) → eqb (settings_refusal (settings_of N q law i)) 0 ≡ b → P (recorded fresh_replica record_length)
        by true z = let s = eqb-true (settings_refusal (settings_of N q law i)) 0 z in subst P (sym (recorded-bytes fresh_replica s)) (f s)
        by false z =
            let n = eqb-false (settings_refusal (settings_of N q law i)) 0 z in
            g (recorded fresh_replica record_length) (record { refused = n; none-there = recorded-none fresh_replica n })

    fresh_kept : KeptIn i ((firmware N q law).fresh i)
    fresh_kept =
        made_ok (KeptIn i) (λ s. inl (record { replica = fresh_replica; same = refl; kept = (shown N q law t.start e).fresh_kept i; stands = s })) (λ _ f. inr f)

    fresh-held : (firmware N q law).held ((firmware N q law).fresh i) ≡ fresh (law_of law)
    fresh-held =
        made_ok (λ b. (firmware N q law).held b ≡ fresh (law_of law))
        (λ s. holds N q law fresh_replica (in_order i s fresh_replica ((shown N q law t.start e).fresh_kept i))) (λ b f. pick-false _ _ _ f.none-there)

  pub firmware-shown : Shown (firmware N q law) KeptIn (Carried law) (law_of law) G
  firmware-shown = record { fresh_kept = fresh_kept; fresh_held = fresh-held; calls = calls; period_read = (shown N q law t.start e).period_read }

  -- ---- returning

  module _ (i : ℕ) (stands : settings_refusal (settings_of N q law i) ≡ 0) where
    call_kept : (c : Replica) (p : Outcomes) (r : Result Replica) → Kept N q law i c → Does (group N q law) (Kept N q law) (Carried law) i p r ⊎ Still c r
        → Kept N q law i r.box
    call_kept c p r k (inl d) = d.kept
    call_kept c p r k (inr d) = subst (Kept N q law i) (sym d.box) k

    -- a missed tick keeps what the calls keep
    missed-kept : (c : Replica) → Kept N q law i c → Kept N q law i (after_missed c)
    missed-kept c k =
        subst (λ (r : Result Replica). Kept N q law i r.box) (missed-call N q law c)
        (call_kept c _ _ k ((shown N q law t.start e).calls i c (Tick Replicas.absent) areas k tt))

    pub stayed-kept : (k : ℕ) (c : Replica) → Kept N q law i c → Kept N q law i (stayed_up k c)
    unfolding stayed_up
    stayed-kept zero c h = h
    stayed-kept (suc k) c h = stayed-kept k (after_missed c) (missed-kept c h)

    missed-at : (c : Replica) → Kept N q law i c → (firmware N q law).call (record_bytes c) (Tick absent) areas ≡ onto (result_of c.settings (missed_tick c))
    missed-at c k =
        result-at N q law c (in_order i stands c k) (λ r. outcome_at r (Tick absent) areas) (outcome-quiet c (Tick absent) areas)
        ∙ ap (λ (y : Readings). onto (result_of c.settings (tick_outcome c y longest_frame longest_command))) no_row

    -- a box that stayed up
    stays : (k : ℕ) (c : Replica) → Kept N q law i c → passes_largest k c ≡ false
        → missed (firmware N q law) absent areas k (record_bytes c) ≡ some (record_bytes (stayed_up k c))
    unfolding missed passes_largest stayed_up
    stays zero c h z = refl
    stays (suc k) c h z =
        let p = neither (is_refused (missed_tick c).answer) (passes_largest k (after_missed c)) z in
        ap (λ (w : Result (List ℕ)). pick w.refused none (missed (firmware N q law) absent areas k w.box)) (missed-at c h)
        ∙ pick-false _ _ _ p.0
        ∙ stays k (after_missed c) (missed-kept c h) p.1

    back : (c : Replica) (k : ℕ) → Kept N q law i c → eqb (returning_refusal k (record_bytes c) record_length) 0 ≡ true
        → some (returning k (record_bytes c) record_length) ≡ missed (firmware N q law) absent areas k (record_bytes c)
    back c k h z =
        let r = recorded-read c (in_order i stands c h) in
        ap some (returning-bytes k (record_bytes c) z ∙ ap (λ x. record_bytes (stayed_up k x)) r)
        ∙ sym (stays k c h (ap (passes_largest k) (sym r) ∙ (returning-passed k (record_bytes c) z).within))

  -- what is stored of an area: its record, and none where there is none
  record Stores (stored : List ℕ → List ℕ) : Type 0 where
    same : (c : Replica) → InOrder c → stored (record_bytes c) ≡ record_bytes c
    none-there : (b : List ℕ) → is_record b ≡ false → is_record (stored b) ≡ false

  module _ (stored : List ℕ → List ℕ) (s : Stores stored) where
    abbrev Backs : List ℕ → ℕ → List ℕ → Type 0
    Backs b k from =
        ((storing N q law stored).back from k ≡ none) ⊎ ((storing N q law stored).back from k ≡ missed (firmware N q law) absent areas k b)

    record-backs : (i : ℕ) (c : Replica) (k : ℕ) → settings_refusal (settings_of N q law i) ≡ 0 → Kept N q law i c → Backs (record_bytes c) k (stored (record_bytes c))
    record-backs i c k stands h =
        subst (Backs (record_bytes c) k) (sym (s.same c (in_order i stands c h)))
        (pick-holds (λ x. (x ≡ none) ⊎ (x ≡ missed (firmware N q law) absent areas k (record_bytes c))) (eqb (returning_refusal k (record_bytes c) record_length) 0)
        _ _ (λ z. inr (back i stands c k h z)) (λ _. inl refl))

    backs : (i : ℕ) (b : List ℕ) (k : ℕ) → KeptIn i b → Backs b k (stored b)
    backs i b k (inl w) = subst (λ b. Backs b k (stored b)) (sym w.same) (record-backs i w.replica k w.stands w.kept)
    backs i b k (inr f) = inl (pick-false _ _ _ (returning-15 k (stored b) (s.none-there b f.none-there)))

    returns : Returns (firmware N q law) KeptIn (law_of law) (storing N q law stored)
    returns = record {
      absent = absent;
      areas = areas;
      no_reading = ap (normalised law.m) no_row ∙ normalised-none law.m;
      returns = backs;
    }

  -- by `winder_record`
  pub recording-same : (c : Replica) → InOrder c → recording (record_bytes c) record_length ≡ record_bytes c
  recording-same c o = recording-done (record_bytes c) (recorded-is-record c o) ∙ ap record_bytes (recorded-read c o)

  pub written-returns : Returns (firmware N q law) KeptIn (law_of law) (written N q law)
  written-returns = returns (λ b. recording b record_length) (record { same = recording-same; none-there = recording-none })

  -- by a copy
  pub copied-returns : Returns (firmware N q law) KeptIn (law_of law) (copied N q law)
  copied-returns = returns (λ b. b) (record { same = λ c o. refl; none-there = λ b f. f })
