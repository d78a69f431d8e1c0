-- What is read of a record stays in every step as a record has it, whatever bytes arrive, so that it can be written as it is. Assumes nothing.
use mathlib.Core.Path.{◌≡◌, refl, sym, ap, ◌∙◌, subst}
use mathlib.Core.Bool.{Bool, true}
use mathlib.Core.List.{List}
use mathlib.Core.Option.{Option}
use Prim.Native.Nat.{ℕ}
use lib.IntN.{ℤ, pos}
use borrow.Author.Tests.{eqb-true}
use Rattle.lists.specs.Places.{entry, filled}
use Rattle.lists.proofs.Booleans.{both}
use Rattle.lists.proofs.Choice.{pick-ok, pick-holds}
use Rattle.lists.proofs.Places.{filled_at, filled-same, blank-at}
use Rattle.octets.specs.Words.{AllBytes}
use Rattle.readings.specs.declared.Readings.{Readings}
use Rattle.readings.specs.Readings.{normalised}
use Rattle.readings.proofs.Normalised.{normalised-twice, normalised-none}
use Rattle.scram.specs.declared.Kind.{Kind}
use Rattle.scram.specs.Held as Scram
use Rattle.scram.specs.Held.{Group, Held, Message}
use Rattle.scram.specs.Events as Events
use Rattle.scram.specs.Events.{better, own_estimate, entered, ticked, raise, after_tick, tick, give_up, hear_ack, hear_estimate, receive, arrive, arrival}
use Rattle.law.specs.declared.Settings as Law
use Rattle.law.specs.Settings.{refusal}
use Rattle.law.specs.Law.{updated}
use Rattle.law.proofs.Laws.{updated-accepted}
use Rattle.estimate.specs.declared.Estimate.{Estimate}
use Rattle.estimate.specs.Fields.{no_state, no_estimate, first_states, carried_estimate}
use Rattle.estimate.specs.Format.{writable}
use Rattle.estimate.specs.Marks.{marks_in}
use Rattle.estimate.specs.Reading.{state_in, readings_in, estimate_at, estimate_ok}
use Rattle.estimate.proofs.PresentMarks.{marks-below, value-as-given}
use Rattle.estimate.proofs.EachPart.{writable-facts}
use Rattle.estimate.proofs.RoundTrip.{carried-whole, estimate-writable}
use Rattle.frame.specs.declared.Frame.{Frame}
use Rattle.frame.specs.Kinds.{has_parts}
use Rattle.frame.specs.Lengths.{parts_start}
use Rattle.frame.specs.Reading.{kind_in, header_ok, pairs_ok, parts_ok, is_frame, fields_in, read_refusal, read_frame}
use Rattle.frame.proofs.Conditions.{Sized, sizes}
use Rattle.frame.proofs.Refusals.{frame-read, accepted}
use Rattle.replica.specs.declared.Best.{Best}
use Rattle.replica.specs.Settings.{law_of}
use Rattle.replica.specs.Held.{estimate_of, best_of, held_in, held_of}
use Rattle.replica.specs.Frames.{message_of, found}
use Rattle.replica.specs.Calls.{Outcomes}
use Rattle.records.specs.Recording.{recorded_best, recorded_held}
use Rattle.records.specs.Reading.{is_record, replica_in}
use Rattle.records.proofs.Carried.{filled-kept}
use Rattle.records.proofs.Forth.{heard-kept, none_kept, best-kept, held_kept}
use Rattle.records.proofs.RoundTrip.{read-in-order}

-- values with 0 in the places beyond n are what their first n places give
filled-again : (width n : ℕ) (f : ℕ → ℤ) → filled (pos 0) width n (entry (filled (pos 0) width n f)) ≡ filled (pos 0) width n f
filled-again width n f = filled-same (pos 0) width n _ f (λ i l k. filled_at (pos 0) width n i f l k)

module _ (law : Law.Settings) where
  -- ---- what is held as a record has it

  -- an estimate of which frames carry all
  abbrev pub Carried : Estimate → Type 0
  Carried e = carried_estimate law.n law.m e ≡ e

  -- a best estimate of which a record has all, or none
  abbrev pub Recorded : Best → Type 0
  Recorded b = recorded_best law.n law.m b ≡ b

  pub record Whole (h : Held (List ℤ) Readings) : Type 0 where
    pub estimate : Carried (estimate_of h.estimate)
    pub best : Recorded (best_of h.best)

  -- so recording has nothing to change
  pub whole-recorded : (h : Held (List ℤ) Readings) → Whole h → recorded_held law.n law.m (held_of h) ≡ held_of h
  whole-recorded h w = held_kept law.n law.m (held_of h) w.estimate w.best

  -- ---- estimates

  none-carried : Carried no_estimate
  none-carried =
      carried-whole law.n law.m no_estimate (filled-kept (pos 0) 6 law.n no_state refl (λ i _ _. blank-at (pos 0) 6 i)) (normalised-none law.m)

  updated-carried : refusal law ≡ 0 → (x : List ℤ) (y : Readings) → first_states law.n (updated law x y) ≡ updated law x y
  updated-carried e x y = subst (λ (v : List ℤ). first_states law.n v ≡ v) (updated-accepted law x y e) (filled-again 6 law.n _)

  -- ---- the estimate of a frame

  readings-carried : (p : List ℕ) → writable law.m (readings_in law.m p) ≡ true → normalised law.m (readings_in law.m p) ≡ readings_in law.m p
  unfolding normalised readings_in marks_in
  readings-carried p good =
      let y = readings_in law.m p in
      let w = writable-facts law.m y good in
      let marks = marks-below law.m y refl w.clean in
      let values = filled-same (pos 0) 4 law.m _ _ (λ j l _. value-as-given law.m y w.absent j l) ∙ filled-again 4 law.m _ in
      λ i. record { present = marks i; values = values i }

  module _ (b : List ℕ) where
    estimate-carried : Sized law.n law.m → estimate_ok law.n law.m b parts_start ≡ true → Carried (estimate_at law.n law.m b parts_start)
    unfolding estimate_at state_in
    estimate-carried z good =
        carried-whole law.n law.m _ (filled-again 6 law.n _)
        (readings-carried _ (estimate-writable law.n law.m b parts_start z.n-high z.m-high good z.m-low))

    parts-judged : is_frame law.n law.m b ≡ true → has_parts (kind_in b) ≡ true → estimate_ok law.n law.m b parts_start ≡ true
    unfolding is_frame parts_ok
    parts-judged good k = (both (pairs_ok law.n law.m b) _ (rw k at (both (header_ok law.n law.m b) _ good).1)).1

    -- whoever sent it: reading refuses by 8 what is not carried so
    frame-carried : read_refusal law.n law.m b ≡ 0 → Carried (read_frame law.n law.m b).estimate
    unfolding fields_in
    frame-carried e =
        let a = accepted law.n law.m b e in
        subst (λ (f : Frame). Carried f.estimate) (sym (frame-read law.n law.m b e))
        (pick-holds Carried (has_parts (kind_in b)) _ _ (λ k. estimate-carried (sizes law.n law.m a.sized) (parts-judged a.good k))
        (λ _. none-carried))

  -- ---- the best estimate heard

  -- where there is none, its places are 0
  best-carried : (b : Best) → Recorded b → Carried b.estimate
  unfolding recorded_best
  best-carried b =
      pick-ok (λ (t : Best). t ≡ b → Carried b.estimate) b.any _ _ (λ _ e. ap (λ (t : Best). t.estimate) e)
      (λ _ e. subst (λ (t : Best). Carried t.estimate) e none-carried)

  better-recorded : (b c : Scram.Best (List ℤ) Readings) → Recorded (best_of b) → Recorded (best_of c) → Recorded (best_of (better b c))
  unfolding better
  better-recorded b c p q = pick-ok (λ (d : Scram.Best (List ℤ) Readings). Recorded (best_of d)) _ c b (λ _. q) (λ _. p)

  -- ---- moves

  entered-whole : (own : ℕ) (h : Held (List ℤ) Readings) (view : ℕ) → Whole h → Whole (entered own h view)
  entered-whole own h view w = record { estimate = w.estimate; best = heard-kept law.n law.m (best_of (own_estimate own h)) refl w.estimate }

  ticked-whole : refusal law ≡ 0 → (h : Held (List ℤ) Readings) (y : Readings) → Whole h → Whole (ticked (law_of law) h (normalised law.m y))
  unfolding carried_estimate
  ticked-whole e h y w = record {
    estimate =
        carried-whole law.n law.m _
        (pick-ok (λ (v : List ℤ). first_states law.n v ≡ v) _ _ _ (λ _. ap (λ (t : Estimate). t.state) w.estimate) (λ _. updated-carried e _ _))
        (normalised-twice law.m y);
    best = none_kept law.n law.m;
  }

  module _ (group : Group) (own : ℕ) where
    -- ---- rules

    abbrev Leaves : Outcomes → Type 0
    Leaves o = Whole o.held

    raise-whole : (h : Held (List ℤ) Readings) → Whole h → Leaves (raise (law_of law) group own h)
    unfolding raise
    raise-whole h w = pick-ok Leaves _ _ _ (λ _. entered-whole own h _ w) (λ _. record { estimate = w.estimate; best = none_kept law.n law.m })

    pub tick-whole : refusal law ≡ 0 → (h : Held (List ℤ) Readings) (beyond : Bool) (y : Readings) → Whole h
        → Whole (tick (law_of law) group own h beyond (normalised law.m y)).held
    unfolding tick after_tick
    tick-whole e h beyond y w =
        let t = ticked-whole e h y w in
        pick-ok Leaves _ _ _ (λ _. w)
        (λ _. pick-ok Leaves _ _ _ (λ _. w)
        (λ _. pick-ok Leaves _ _ _ (λ _. w)
        (λ _. pick-ok Leaves _ _ _ (λ _. raise-whole _ t)
        (λ _. pick-ok Leaves _ _ _ (λ _. record { estimate = t.estimate; best = none_kept law.n law.m }) (λ _. t)))))

    pub give-up-whole : (h : Held (List ℤ) Readings) → Whole h → Whole (give_up (law_of law) group own h).held
    unfolding give_up
    give-up-whole h w =
        pick-ok Leaves _ _ _ (λ _. w) (λ _. pick-ok Leaves _ _ _ (λ _. w) (λ _. pick-ok Leaves _ _ _ (λ _. w) (λ _. raise-whole h w)))

    estimate-whole : (h : Held (List ℤ) Readings) (c : Scram.Best (List ℤ) Readings) → Whole h → Recorded (best_of c)
        → Leaves (hear_estimate (law_of law) group own h c)
    unfolding hear_estimate
    estimate-whole h c w r =
        let b = better-recorded h.best c w.best r in
        pick-ok Leaves _ _ _ (λ _. record { estimate = best-carried _ b; best = none_kept law.n law.m }) (λ _. record { estimate = w.estimate; best = b })

    receive-whole : (kind : Kind) (h : Held (List ℤ) Readings) (f : Message (List ℤ) Readings) → Whole h → Carried (estimate_of f.estimate)
        → Leaves (receive (law_of law) group own kind h f)
    unfolding receive hear_ack
    receive-whole Kind.Propose h f w c = record { estimate = c; best = none_kept law.n law.m }
    receive-whole Kind.Ack h f w c =
        pick-ok Leaves _ _ _ (λ _. record { estimate = w.estimate; best = w.best }) (λ _. record { estimate = w.estimate; best = w.best })
    receive-whole Kind.Decide h f w c = record { estimate = c; best = none_kept law.n law.m }
    receive-whole Kind.Estimate h f w c =
        let r = heard-kept law.n law.m (best_of (Events.estimate_of f)) refl c in
        pick-ok Leaves _ _ _ (λ _. estimate-whole _ _ (entered-whole own h _ w) r) (λ _. estimate-whole h _ w r)

    arrive-whole : (h : Held (List ℤ) Readings) (f : Message (List ℤ) Readings) → Whole h → Carried (estimate_of f.estimate)
        → Leaves (arrive (law_of law) group own h f)
    unfolding arrive
    arrive-whole h f w c =
        pick-ok Leaves _ _ _ (λ _. w)
        (λ _. pick-ok Leaves _ _ _ (λ _. w)
        (λ _. pick-ok Leaves _ _ _ (λ _. w)
        (λ _. pick-ok Leaves _ _ _ (λ _. w) (λ _. receive-whole f.kind h f w c))))

    -- also bytes that no box sent
    pub arrival-whole : (h : Held (List ℤ) Readings) (bytes : List ℕ) → Whole h
        → Whole (arrival (law_of law) group own h (found law.n law.m bytes)).held
    unfolding arrival found
    arrival-whole h bytes w =
        pick-holds (λ (o : Option (Message (List ℤ) Readings)). Leaves (arrival (law_of law) group own h o)) _ _ _
        (λ e. arrive-whole h (message_of (read_frame law.n law.m bytes)) w (frame-carried bytes (eqb-true _ 0 e))) (λ _. w)

-- ---- what is read

pub read_whole : (b : List ℕ) → AllBytes b → is_record b ≡ true → Whole (replica_in b).settings.law (held_in (replica_in b).held)
read_whole b bytes e =
    let o = (read-in-order b bytes e).held in
    record { estimate = o.estimate.whole; best = best-kept _ _ _ _ o.best_estimate.whole o.best }
