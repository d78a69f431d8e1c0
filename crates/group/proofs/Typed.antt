-- What the types of a replica's fields say stays true in every step, and what a step sends can be carried by a frame. Assumes nothing.
use mathlib.Core.Path.{◌≡◌, refl, sym, subst}
use mathlib.Core.Bool.{Bool, true}
use mathlib.Core.List.{List}
use mathlib.Core.Option.{Option, none, some}
use Prim.Native.Nat.{ℕ, ◌+◌, ◌≤◌, ◌<◌}
use native.Mathlib.Omega.{arith}
use lib.Dec.{nleb→lt, lit<}
use lib.ListN.{length}
use lib.IntN.{ℤ, pos}
use mir.Syntax.{w32}
use mir.Val.{SFits}
use Rattle.lists.specs.I32.{AllI32}
use Rattle.lists.specs.Places.{entry}
use Rattle.lists.proofs.Booleans.{nand-right}
use Rattle.lists.proofs.Choice.{pick-ok}
use Rattle.lists.proofs.Places.{filled-beyond, filled-length, filled-each, blank-at}
use Rattle.readings.specs.declared.Readings.{Readings}
use Rattle.readings.specs.Readings.{normalised}
use Rattle.readings.proofs.Normalised.{normalised-twice, normalised-each, normalised-none}
use Rattle.scram.specs.declared.Kind.{Kind}
use Rattle.scram.specs.Answers.{Answered}
use Rattle.scram.specs.Held.{Group, Estimate, Best, Held, Message, Command, no_estimate, fresh}
use Rattle.scram.specs.Events.{largest, last_view, better, estimate_of, entered, hearing, next_state, ticked, adopting}
use Rattle.scram.specs.Events.{propose, raise, after_tick, tick, give_up, hear_ack, hear_estimate, receive, arrive}
use Rattle.law.specs.declared.Settings as Law
use Rattle.law.specs.declared.Marked.{Marked}
use Rattle.law.specs.Settings.{refusal}
use Rattle.law.specs.Law.{updated}
use Rattle.law.proofs.Laws.{updated-length, updated-fits, updated-beyond}
use Rattle.estimate.specs.Fields.{first_states}
use Rattle.replica.specs.Settings.{law_of}
use Rattle.replica.specs.Calls.{Outcomes}

-- ---- counters

-- the counters that what is held and a message have alike: period, view and the two bases, "each 32 bits"
pub record Counters (k v vb kb : ℕ) : Type 0 where
  pub period : k ≤ largest
  pub view : v ≤ largest
  pub base_view : vb ≤ largest
  pub base_period : kb ≤ largest

module _ {k v vb kb : ℕ} (c : Counters k v vb kb) where
  in-view : {w : ℕ} → w ≤ largest → Counters k w vb kb
  in-view l = record { period = c.period; view = l; base_view = c.base_view; base_period = c.base_period }

  -- "base period becomes the period and base view the view"
  based : Counters k v v k
  based = record { period = c.period; view = c.view; base_view = c.view; base_period = c.period }

  -- "Ack both 0"
  unbased : Counters k v 0 0
  unbased = record { period = c.period; view = c.view; base_view = omega arith; base_period = omega arith }

zero-counters : Counters 0 0 0 0
zero-counters = record { period = omega arith; view = omega arith; base_view = omega arith; base_period = omega arith }

-- ---- estimates

zero-fits : SFits w32 (pos 0)
zero-fits = record { sfits = lit< tt }

module _ (law : Law.Settings) where
  -- a state as steps hold and frames carry it: six i32 values, 0 in the places beyond n
  pub record StateOk (x : List ℤ) : Type 0 where
    pub six : length x ≡ 6
    pub i32 : AllI32 x
    pub beyond : (i : ℕ) → law.n ≤ i → entry x i ≡ pos 0

  -- readings as steps hold and frames carry them
  pub record RowOk (y : Readings) : Type 0 where
    pub i32 : AllI32 y.values
    pub row : normalised law.m y ≡ y

  -- the estimate held, the best one heard and the one that a frame carries
  pub record EstimateOk (x : Estimate (List ℤ) Readings) : Type 0 where
    pub state : StateOk x.state
    pub readings : RowOk x.readings

  none-ok : EstimateOk (no_estimate (law_of law))
  none-ok = record {
    state = record { six = refl; i32 = λ i. subst (SFits w32) (sym (blank-at (pos 0) 6 i)) zero-fits; beyond = λ i _. blank-at (pos 0) 6 i };
    readings = record { i32 = λ i. subst (SFits w32) (sym (blank-at (pos 0) 4 i)) zero-fits; row = normalised-none law.m };
  }

  start-ok : AllI32 law.start → StateOk (first_states law.n law.start)
  start-ok h = record {
    six = filled-length (pos 0) 6 law.n (entry law.start);
    i32 = filled-each (pos 0) (SFits w32) 6 law.n (entry law.start) zero-fits h;
    beyond = λ i l. filled-beyond (pos 0) 6 law.n i (entry law.start) l;
  }

  updated-ok : refusal law ≡ 0 → (x : List ℤ) (y : Readings) → StateOk x → StateOk (updated law x y)
  updated-ok e x y o = record { six = updated-length law x y o.six; i32 = updated-fits law x y o.i32; beyond = updated-beyond law x y e }

  pub row_ok : (y : Readings) → AllI32 y.values → RowOk (normalised law.m y)
  row_ok y h = record { i32 = normalised-each law.m y (SFits w32) zero-fits h; row = normalised-twice law.m y }

  -- ---- what is held, and what is sent

  pub record Typed (h : Held (List ℤ) Readings) : Type 0 where
    pub counters : Counters h.period h.view h.base_view h.base_period
    pub estimate : EstimateOk h.estimate
    pub best : EstimateOk h.best.estimate

  pub fresh-typed : AllI32 law.start → Typed (fresh (law_of law))
  fresh-typed h = record { counters = zero-counters; estimate = record { state = start-ok h; readings = none-ok.readings }; best = none-ok }

  -- an Ack has no estimate
  abbrev pub OfKind : Kind → Estimate (List ℤ) Readings → Type 0
  OfKind Kind.Propose x = Unit {0}
  OfKind Kind.Ack x = x ≡ no_estimate (law_of law)
  OfKind Kind.Decide x = Unit {0}
  OfKind Kind.Estimate x = Unit {0}

  pub record Carried (m : Message (List ℤ) Readings) : Type 0 where
    pub sender : m.sender < 256
    pub counters : Counters m.period m.view m.base_view m.base_period
    pub estimate : EstimateOk m.estimate
    pub kind : OfKind m.kind m.estimate

  abbrev pub CarriedSent : Option (Message (List ℤ) Readings) → Type 0
  CarriedSent none = Unit {0}
  CarriedSent (some m) = Carried m

  -- what a step gives is within the types
  pub record Keeps (o : Outcomes) : Type 0 where
    pub typed : Typed o.held
    pub sent : CarriedSent o.sent

  sends-nothing : {answer : Answered} {h : Held (List ℤ) Readings} {c : Option (Command Marked)} → Typed h
      → Keeps (record { answer = answer; held = h; sent = none; command = c })
  sends-nothing t = record { typed = t; sent = tt }

  module _ (e : refusal law ≡ 0) (group : Group) (own : ℕ) (place : own < 256) where
    -- ---- moves

    entered-typed : (h : Held (List ℤ) Readings) (w : ℕ) → Typed h → w ≤ largest → Typed (entered own h w)
    entered-typed h w t l = record { counters = in-view t.counters l; estimate = t.estimate; best = t.estimate }

    hearing-typed : (h : Held (List ℤ) Readings) (box : ℕ) (b : Best (List ℤ) Readings) (decided : Bool) → Typed h → EstimateOk b.estimate
        → Typed (hearing h box b decided)
    hearing-typed h box b decided t o = record { counters = t.counters; estimate = t.estimate; best = o }

    adopting-typed : (h : Held (List ℤ) Readings) (w : ℕ) (x : Estimate (List ℤ) Readings) (decided : Bool) → Typed h → w ≤ largest → EstimateOk x
        → Typed (adopting (law_of law) h w x decided)
    adopting-typed h w x decided t l o = record { counters = based (in-view t.counters l); estimate = o; best = none-ok }

    next-ok : (h : Held (List ℤ) Readings) → Typed h → StateOk (next_state (law_of law) h)
    next-ok h t = pick-ok StateOk _ _ _ (λ _. t.estimate.state) (λ _. updated-ok e h.estimate.state h.estimate.readings t.estimate.state)

    ticked-typed : (h : Held (List ℤ) Readings) (y : Readings) → Typed h → RowOk y → h.period < largest → Typed (ticked (law_of law) h y)
    ticked-typed h y t o l = record {
      counters = record { period = omega arith; view = t.counters.view; base_view = t.counters.base_view; base_period = t.counters.base_period };
      estimate = record { state = next-ok h t; readings = o };
      best = none-ok;
    }

    better-ok : (b c : Best (List ℤ) Readings) → EstimateOk b.estimate → EstimateOk c.estimate → EstimateOk (better b c).estimate
    unfolding better
    better-ok b c x y = pick-ok (λ d. EstimateOk d.estimate) _ c b (λ _. y) (λ _. x)

    -- ---- rules

    propose-keeps : (h : Held (List ℤ) Readings) (x : Estimate (List ℤ) Readings) → Typed h → EstimateOk x → Keeps (propose (law_of law) group own h x)
    propose-keeps h x t o = record {
      typed = record { counters = based t.counters; estimate = o; best = none-ok };
      sent = record { sender = place; counters = based t.counters; estimate = o; kind = tt };
    }

    raise-keeps : (h : Held (List ℤ) Readings) → Typed h → h.view < largest → Keeps (raise (law_of law) group own h)
    unfolding raise
    raise-keeps h t below =
        let l : h.view + 1 ≤ largest = omega arith in
        pick-ok Keeps _ _ _ (λ _. sends-nothing (entered-typed h (h.view + 1) t l))
        (λ _. record {
          typed = record { counters = in-view t.counters l; estimate = t.estimate; best = none-ok };
          sent = record { sender = place; counters = in-view t.counters l; estimate = t.estimate; kind = tt };
        })

    pub tick-keeps : (h : Held (List ℤ) Readings) (beyond : Bool) (y : Readings) → Typed h → RowOk y → Keeps (tick (law_of law) group own h beyond y)
    unfolding tick after_tick
    tick-keeps h beyond y t o =
        pick-ok Keeps _ _ _ (λ _. sends-nothing t)
        (λ a. pick-ok Keeps _ _ _ (λ _. sends-nothing t)
        (λ _. pick-ok Keeps _ _ _ (λ _. sends-nothing t)
        (λ c. let n = ticked-typed h y t o (nleb→lt _ _ a) in
        pick-ok Keeps _ _ _ (λ v. raise-keeps (ticked (law_of law) h y) n (nleb→lt largest h.view (nand-right h.view_change (last_view h.view) c v)))
        (λ _. pick-ok Keeps _ _ _ (λ _. propose-keeps (ticked (law_of law) h y) _ n n.estimate) (λ _. sends-nothing n)))))

    pub give_up-keeps : (h : Held (List ℤ) Readings) → Typed h → Keeps (give_up (law_of law) group own h)
    unfolding give_up
    give_up-keeps h t =
        pick-ok Keeps _ _ _ (λ _. sends-nothing t)
        (λ _. pick-ok Keeps _ _ _ (λ _. sends-nothing t)
        (λ _. pick-ok Keeps _ _ _ (λ _. sends-nothing t) (λ a. raise-keeps h t (nleb→lt _ _ a))))

    ack-keeps : (h : Held (List ℤ) Readings) (box : ℕ) → Typed h → Keeps (hear_ack (law_of law) group own h box)
    unfolding hear_ack
    ack-keeps h box t =
        pick-ok Keeps _ _ _
        (λ _. record {
          typed = hearing-typed h box h.best true t t.best;
          sent = record { sender = place; counters = based t.counters; estimate = t.estimate; kind = tt };
        })
        (λ _. sends-nothing (hearing-typed h box h.best h.decided t t.best))

    estimate-keeps : (h : Held (List ℤ) Readings) (c : Best (List ℤ) Readings) → Typed h → EstimateOk c.estimate
        → Keeps (hear_estimate (law_of law) group own h c)
    unfolding hear_estimate
    estimate-keeps h c t o =
        let b = better-ok h.best c t.best o in
        pick-ok Keeps _ _ _ (λ _. propose-keeps h (better h.best c).estimate t b)
        (λ _. sends-nothing (hearing-typed h c.box (better h.best c) h.decided t b))

    receive-keeps : (kind : Kind) (h : Held (List ℤ) Readings) (m : Message (List ℤ) Readings) → Typed h → Carried m
        → Keeps (receive (law_of law) group own kind h m)
    unfolding receive
    receive-keeps Kind.Propose h m t c = record {
      typed = adopting-typed h m.view m.estimate h.decided t c.counters.view c.estimate;
      sent = record { sender = place; counters = unbased (in-view t.counters c.counters.view); estimate = none-ok; kind = refl };
    }
    receive-keeps Kind.Ack h m t c = ack-keeps h m.sender t
    receive-keeps Kind.Decide h m t c = sends-nothing (adopting-typed h m.view m.estimate true t c.counters.view c.estimate)
    receive-keeps Kind.Estimate h m t c =
        pick-ok Keeps _ _ _ (λ _. estimate-keeps (entered own h m.view) (estimate_of m) (entered-typed h m.view t c.counters.view) c.estimate)
        (λ _. estimate-keeps h (estimate_of m) t c.estimate)

    pub arrive-keeps : (h : Held (List ℤ) Readings) (m : Message (List ℤ) Readings) → Typed h → Carried m → Keeps (arrive (law_of law) group own h m)
    unfolding arrive
    arrive-keeps h m t c =
        pick-ok Keeps _ _ _ (λ _. sends-nothing t)
        (λ _. pick-ok Keeps _ _ _ (λ _. sends-nothing t)
        (λ _. pick-ok Keeps _ _ _ (λ _. sends-nothing t)
        (λ _. pick-ok Keeps _ _ _ (λ _. sends-nothing t) (λ _. receive-keeps m.kind h m t c))))
