-- What a step leaves in the areas of a caller, from what the functions below ensure: refused by 15, refused by 5, or the event's. Assumes nothing.
use mathlib.Core.Path.{◌≡◌, refl, sym, ap, ap₂, ◌∙◌, subst}
use mathlib.Core.Bool.{Bool, true, false, not, ◌||◌}
use mathlib.Core.List.{List, [], ◌∷◌, ◌++◌, append-nil}
use Prim.Native.Nat.{ℕ, ◌+◌, ◌≤◌}
use native.Mathlib.Omega.{arith}
use lib.ListN.{length, take, get_or}
use lib.Dec.{eqb, ltb}
use lib.IntN.{ℤ}
use borrow.Author.Tests.{eqb-true, eq-eqb, ltb-false}
use Rattle.lists.specs.Choice.{pick}
use Rattle.lists.proofs.Booleans.{both, never}
use Rattle.lists.proofs.Parts.{drop-beyond}
use Rattle.lists.proofs.Choice.{pick_true, pick-false}
use Rattle.octets.specs.Words.{AllBytes}
use Rattle.octets.specs.Areas.{put}
use Rattle.readings.specs.declared.Readings.{Readings}
use Rattle.readings.specs.Readings.{normalised, mark_beyond}
use Rattle.law.specs.Settings.{refusal}
use Rattle.frame.specs.Lengths.{longest_frame, longest_command}
use Rattle.scram.specs.Answers.{Answered, Done, Ignored, Refused, answered}
use Rattle.scram.specs.Held as Scram
use Rattle.scram.specs.Events as Events
use Rattle.scram.specs.Events.{refusing}
use Rattle.replica.specs.declared.Settings.{Settings}
use Rattle.replica.specs.declared.Held.{Held}
use Rattle.replica.specs.declared.Replica.{Replica}
use Rattle.replica.specs.declared.Given.{Given}
use Rattle.replica.specs.Settings.{settings_refusal, law_of, member_of, group_of}
use Rattle.replica.specs.Held.{held_in}
use Rattle.replica.specs.Frames.{found}
use Rattle.replica.specs.Calls.{Outcomes, short_area, step_refusal, checked, tick_outcome, give_up_outcome, arrive_outcome}
use Rattle.replica.specs.Rules.{Does}
use Rattle.replica.proofs.Accepted.{accepted}
use Rattle.replica.proofs.Calls.{checked_refused, checked-done}
use Rattle.records.specs.Lengths.{settings_length, record_length}
use Rattle.records.specs.SettingsPart.{letter, settings_bytes, settings_in}
use Rattle.records.specs.HeldPart.{held_bytes, held_at}
use Rattle.records.specs.Recording.{record_bytes}
use Rattle.records.specs.Reading.{is_done, replica_in, layout_ok, settings_ok, is_record, read_replica}
use Rattle.records.proofs.IsRecord.{layout-length, parts, parts-record}
use Rattle.records.proofs.SettingsLaws.{settings-written}
use Rattle.records.proofs.Whole.{Whole, whole-recorded, tick-whole, give-up-whole, arrival-whole, read_whole}
use Rattle.winder.specs.Answers.{number_of}
use Rattle.winder.specs.ReplicaAreas.{step_at, record_after, Steps}

-- ---- what a record tells

module _ (b : List ℕ) (is : is_record b ≡ true) where
  pub record-layout : layout_ok b ≡ true
  unfolding is_record
  record-layout = (both _ _ is).0

  pub record-length : length b ≡ record_length
  record-length = layout-length b record-layout

  pub record-settings : settings_refusal (settings_in b) ≡ 0
  unfolding is_record settings_ok
  record-settings = eqb-true (settings_refusal (settings_in b)) 0 (both _ _ (both (layout_ok b) _ is).1).0

  -- its first part is that of the settings in it
  pub record-part : AllBytes b → take settings_length b ≡ settings_bytes (settings_in b)
  unfolding layout_ok
  record-part bytes =
      let first = both (eqb (length b) record_length) _ record-layout in
      let second = both (eqb (get_or b 0 0) letter) _ first.1 in
      sym (settings-written b bytes record-length (eqb-true _ _ second.0) (eqb-true _ _ second.1))

-- ---- the areas

module _ (frame command : ℕ) where
  pub record Room : Type 0 where
    pub frame-room : longest_frame ≤ frame
    pub command-room : longest_command ≤ command

  pub room : short_area frame command ≡ false → Room
  room e = by (ltb frame longest_frame) (ltb command longest_command) refl refl e
    where
      by : (a b : Bool) → ltb frame longest_frame ≡ a → ltb command longest_command ≡ b → (a || b) ≡ false → Room
      by false false p q e = record { frame-room = ltb-false _ _ p; command-room = ltb-false _ _ q }
      by false true p q e = never (sym e)
      by true b p q e = never (sym e)

  -- settings that stand are refused by 5, where an area is short
  module _ (s : Settings) (stands : settings_refusal s ≡ 0) where
    only-areas : step_refusal s frame command ≡ pick (short_area frame command) 5 0
    unfolding step_refusal
    only-areas = pick-false _ _ _ (ap not (eq-eqb (settings_refusal s) 0 stands))

-- ---- a step at a record

module _ (b : List ℕ) (is : is_record b ≡ true) (frame command : ℕ) (event : Replica → Outcomes) where
  -- the step, with a look at the settings and the areas before the event
  abbrev step : Outcomes
  step = step_at b (λ x. checked x frame command (event x))

  same_step : checked (replica_in b) frame command (event (replica_in b)) ≡ step
  unfolding step_at
  same_step = sym (pick_true (is_record b) _ _ is)

  number-found : step_refusal (replica_in b).settings frame command ≡ pick (short_area frame command) 5 0
  unfolding replica_in
  number-found = only-areas frame command (settings_in b) (record-settings b is)

  -- 5
  pub step-short : short_area frame command ≡ true → refusing (held_in (replica_in b).held) 5 ≡ step
  step-short short =
      let five : step_refusal (replica_in b).settings frame command ≡ 5 = number-found ∙ pick_true _ _ _ short in
      ap (refusing (held_in (replica_in b).held)) (sym five)
      ∙ checked_refused (replica_in b) frame command (event (replica_in b)) (λ z. let absent = sym five ∙ z in omega arith)
      ∙ same_step

  -- neither 15 nor 5
  pub step-event : short_area frame command ≡ false → event (replica_in b) ≡ step
  step-event long = checked-done (replica_in b) frame command (event (replica_in b)) (number-found ∙ pick-false _ _ _ long) ∙ same_step

-- ---- what a call leaves

-- a refused step: everything stands, and no bytes are written
module _ (b frame command : List ℕ) where
  steps-refused : (h : Scram.Held (List ℤ) Readings) (number : ℕ) → Steps b (refusing h number) number b (0 ∷ 0 ∷ []) frame frame command command
  unfolding record_after pick
  steps-refused h number = record { answer = refl; replica = refl; written = refl; frame-bytes = refl; command-bytes = refl }

  -- 15
  pub refused-record : (step : Replica → Outcomes) {number : ℕ} → number ≡ 15 → is_record b ≡ false
      → Steps b (step_at b step) number b (0 ∷ 0 ∷ []) frame frame command command
  unfolding step_at
  refused-record step {number} e none =
      subst (λ o. Steps b o number b (0 ∷ 0 ∷ []) frame frame command command) (sym (pick-false (is_record b) _ _ none))
      (rw e (steps-refused (held_in (read_replica b).held) 15))

  -- 5
  pub refused-areas : (event : Replica → Outcomes) {number : ℕ} → number ≡ 5 → is_record b ≡ true → short_area (length frame) (length command) ≡ true
      → Steps b (step_at b (λ x. checked x (length frame) (length command) (event x))) number b (0 ∷ 0 ∷ []) frame frame command command
  refused-areas event {number} e is short =
      subst (λ o. Steps b o number b (0 ∷ 0 ∷ []) frame frame command command) (step-short b is (length frame) (length command) event short)
      (rw e (steps-refused (held_in (replica_in b).held) 5))

-- bytes put to the end of an area are its last ones
pub put_last : (l : List ℕ) (i : ℕ) (written : List ℕ) → length l ≡ i + length written → put l i written ≡ take i l ++ written
unfolding put
put_last l i written e = rw (drop-beyond l (i + length written) (omega arith)) (ap (λ (t : List ℕ). take i l ++ t) (append-nil written))

-- the number of done
pub done-number : (a : Answered) → is_done a ≡ true → 0 ≡ number_of a
done-number Done e = refl
done-number Ignored e = never e
done-number (Refused number) e = never e

-- a step at the sizes of a replica
abbrev DoesAt : Replica → Outcomes → Given → (frame frame' command command' : List ℕ) → Type 0
DoesAt x o given frame frame' command command' =
    Does x.settings.law.n x.settings.law.m x.settings.law.p o given frame frame' command command'

-- what `leave` leaves of a record
abbrev left : Given → List ℕ → List ℕ
left given b = pick (is_done (answered given.answer)) (take settings_length b ++ held_bytes given.held) b

-- with the lengths of what was written, and the answer's number. What is held may be written as it stands, since a record has all of it
steps-given : {b : List ℕ} {o : Outcomes} {given : Given} {frame frame' command command' : List ℕ} → is_record b ≡ true → AllBytes b
    → Whole (replica_in b).settings.law o.held → DoesAt (replica_in b) o given frame frame' command command'
    → Steps b o (number_of (answered given.answer)) (left given b) (given.frame ∷ given.command ∷ []) frame frame' command command'
unfolding record_after record_bytes replica_in
steps-given {b} {o} is bytes whole d =
    let part = record-part b is bytes in
    let held = d.held ∙ sym (whole-recorded (settings_in b).law o.held whole) in record {
      answer = ap number_of d.answer;
      replica = λ i. pick (is_done (d.answer i)) (part i ++ held_bytes (held i)) b;
      written = λ i. d.frame-length i ∷ d.command-length i ∷ [];
      frame-bytes = d.frame-bytes;
      command-bytes = d.command-bytes;
    }

-- ---- neither 15 nor 5

-- the three events at a replica
abbrev ticks : Readings → Replica → Outcomes
ticks y x =
    Events.tick (law_of x.settings.law) (group_of (member_of x.settings)) x.settings.own (held_in x.held) (mark_beyond x.settings.law.m y)
    (normalised x.settings.law.m y)

abbrev gives_up : Replica → Outcomes
gives_up x = Events.give_up (law_of x.settings.law) (group_of (member_of x.settings)) x.settings.own (held_in x.held)

abbrev arrives : List ℕ → Replica → Outcomes
arrives arrived x =
    Events.arrival (law_of x.settings.law) (group_of (member_of x.settings)) x.settings.own (held_in x.held)
    (found x.settings.law.n x.settings.law.m arrived)

-- a record was read, and the areas are long enough
pub record Stands (b : List ℕ) (x : Replica) (frame command : List ℕ) : Type 0 where
  pub is : is_record b ≡ true
  pub same : x ≡ replica_in b
  pub long : short_area (length frame) (length command) ≡ false

-- a record's parts were read one by one: the layout, the settings, and what is held
module _ (b : List ℕ) {s : Settings} (e : s ≡ settings_in b) where
  -- the parts are as they may be exactly where the bytes are a record
  pub parts-read : {ok : Bool} → layout_ok b ≡ true → ok ≡ parts b s → ok ≡ is_record b
  parts-read laid found = found ∙ ap (λ (s : Settings). parts b s) e ∙ parts-record b laid

  pub stands : {h : Held} {frame command : List ℕ} → is_record b ≡ true → h ≡ held_at b settings_length → short_area (length frame) (length command) ≡ false
      → Stands b (record { settings = s; held = h }) frame command
  unfolding replica_in
  stands is held long = record { is = is; same = ap₂ (λ (s : Settings) (h : Held). record { settings = s; held = h }) e held; long = long }

module _ {b : List ℕ} {x : Replica} {frame command : List ℕ} (s : Stands b x frame command) where
  pub stands-settings : settings_refusal x.settings ≡ 0
  unfolding replica_in
  stands-settings = ap (λ (x : Replica). settings_refusal x.settings) s.same ∙ record-settings b s.is

  law-stands : refusal (replica_in b).settings.law ≡ 0
  unfolding replica_in
  law-stands = (accepted (settings_in b) (record-settings b s.is)).law

  pub stands-length : length b ≡ record_length
  stands-length = record-length b s.is

  pub stands-room : Room (length frame) (length command)
  stands-room = room (length frame) (length command) s.long

  -- the event, and what `leave` leaves after it
  stepped : (event : Replica → Outcomes) {given : Given} {number : ℕ} {b' lengths frame' command' : List ℕ} → AllBytes b
      → Whole (replica_in b).settings.law (event (replica_in b)).held → DoesAt x (event x) given frame frame' command command'
      → number ≡ number_of (answered given.answer) → b' ≡ left given b → lengths ≡ given.frame ∷ given.command ∷ []
      → Steps b (step_at b (λ x. checked x (length frame) (length command) (event x))) number b' lengths frame frame' command command'
  stepped event {given} {number} {b'} {lengths} {frame'} {command'} bytes whole d answer record-left written =
      let d' = subst (λ (x : Replica). DoesAt x (event x) given frame frame' command command') s.same d in
      subst (λ o. Steps b o number b' lengths frame frame' command command') (step-event b s.is (length frame) (length command) event s.long)
      (rw (answer, record-left, written) (steps-given s.is bytes whole d'))

  -- each of the three
  module _ {given : Given} {number : ℕ} {b' lengths frame' command' : List ℕ} (bytes : AllBytes b) (answer : number ≡ number_of (answered given.answer))
      (record-left : b' ≡ left given b) (written : lengths ≡ given.frame ∷ given.command ∷ []) where
    pub tick-stepped : {y y' : Readings} → y ≡ y' → DoesAt x (ticks y x) given frame frame' command command'
        → Steps b (step_at b (λ x. tick_outcome x y' (length frame) (length command))) number b' lengths frame frame' command command'
    unfolding tick_outcome
    tick-stepped {y} {y'} e d =
        let same = ap (λ (y : Readings). ticks y x) e in
        let r = replica_in b in
        let whole = tick-whole r.settings.law (group_of (member_of r.settings)) r.settings.own law-stands (held_in r.held) _ y' (read_whole b bytes s.is) in
        stepped (ticks y') bytes whole
        (subst (λ (o : Outcomes). DoesAt x o given frame frame' command command') same d) answer record-left written

    pub give-up-stepped : DoesAt x (gives_up x) given frame frame' command command'
        → Steps b (step_at b (λ x. give_up_outcome x (length frame) (length command))) number b' lengths frame frame' command command'
    unfolding give_up_outcome
    give-up-stepped d =
        let r = replica_in b in
        let whole = give-up-whole r.settings.law (group_of (member_of r.settings)) r.settings.own (held_in r.held) (read_whole b bytes s.is) in
        stepped gives_up bytes whole d answer record-left written

    pub arrive-stepped : (arrived : List ℕ) → DoesAt x (arrives arrived x) given frame frame' command command'
        → Steps b (step_at b (λ x. arrive_outcome x arrived (length frame) (length command))) number b' lengths frame frame' command command'
    unfolding arrive_outcome
    arrive-stepped arrived d =
        let r = replica_in b in
        let whole = arrival-whole r.settings.law (group_of (member_of r.settings)) r.settings.own (held_in r.held) arrived (read_whole b bytes s.is) in
        stepped (arrives arrived) bytes whole d answer record-left written
