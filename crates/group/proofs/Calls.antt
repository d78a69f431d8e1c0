-- The replica's calls show the protocol's steps, which is what the theorem of `scram` asks of an implementation. Assumes nothing.
use mathlib.Core.Path.{◌≡◌, refl, sym, ap, subst}
use mathlib.Core.Logic.{◌⊎◌, inl, inr}
use mathlib.Core.Bool.{Bool, true, false}
use mathlib.Core.List.{List}
use mathlib.Core.Option.{Option, none, some}
use Prim.Native.Nat.{ℕ, ◌≤◌, ◌<◌}
use lib.Dec.{eqb}
use borrow.Author.Tests.{eqb-true, eqb-false}
use native.Mathlib.Omega.{arith}
use lib.ListN.{length}
use lib.IntN.{ℤ}
use Rattle.lists.specs.I32.{AllI32}
use Rattle.readings.specs.declared.Readings.{Readings}
use Rattle.transmitters.specs.Conversion.{converted_row}
use Rattle.transmitters.proofs.Rows.{row-i32}
use Rattle.scram.specs.Held.{Group, Message, Command, Input, Tick, Arrival, GiveUp}
use Rattle.scram.specs.Events.{largest, arrival}
use Rattle.scram.specs.History.{Result}
use Rattle.scram.specs.Shown.{Still, in_bytes, outcome, Arrives, Sent, Commanded, Does, Shown}
use Rattle.quorums.specs.declared.Quorums.{Quorums}
use Rattle.law.specs.declared.Settings as Law
use Rattle.law.specs.declared.Marked.{Marked}
use Rattle.law.specs.Settings.{refusal}
use Rattle.frame.proofs.Commands.{period-read}
use Rattle.replica.specs.declared.Held.{Held}
use Rattle.replica.specs.declared.Replica.{Replica}
use Rattle.replica.specs.Settings.{settings_refusal, law_of, member_of, group_of}
use Rattle.replica.specs.Held.{held_in}
use Rattle.replica.specs.Frames.{sent_bytes, issued_bytes}
use Rattle.replica.specs.Calls.{Outcomes, checked, step_refusal, tick_outcome, give_up_outcome, arrive_outcome}
use Rattle.replica.proofs.Accepted.{Grouped, accepted}
use Rattle.replica.proofs.Calls.{checked_refused, checked-done, ready}
use Rattle.group.specs.Group.{Handed, Areas, outcome_of, result_of, settings_of, group}
use Rattle.group.proofs.Typed.{Typed, Carried, CarriedSent, Keeps, fresh-typed, row_ok, tick-keeps, give_up-keeps, arrive-keeps}
use Rattle.group.proofs.Ordered.{Ordered, fresh-ordered, tick-ordered, give_up-ordered, arrive-ordered}
use Rattle.group.proofs.Reread.{found-sent}

module _ (N : ℕ) (q : Quorums) (law : Law.Settings) where
  -- a replica of box i has the group's settings with its own number, and fields within their types and in the order that records ask for
  pub record Kept (i : ℕ) (c : Replica) : Type 0 where
    pub settings : c.settings ≡ settings_of N q law i
    pub typed : Typed law (held_in c.held)
    pub ordered : Ordered (law_of law) N (held_in c.held)

  -- all boxes have one group
  abbrev G : Group
  G = group_of (member_of (settings_of N q law 1))

  module _ (i : ℕ) where
    -- a result does what the protocol's step does
    abbrev Steps : Outcomes → Result Replica → Type 0
    Steps o r = Does (group N q law) Kept (Carried law) i o r

    -- a call that gives p does what the protocol's step o does, or does nothing and is refused
    abbrev Shows : Replica → Outcomes → Outcomes → Type 0
    Shows c o p = Steps o (result_of c.settings p) ⊎ Still c (result_of c.settings p)

    -- a step that keeps to the types and to the order is shown by its result
    does : (o : Outcomes) → Keeps law o → Ordered (law_of law) N o.held → Steps o (result_of (settings_of N q law i) o)
    does o k l = record {
      kept = record { settings = refl; typed = k.typed; ordered = l };
      held = refl;
      refused = refl;
      frame = frame o.sent k.sent;
      command = command o.command;
    }
      where
        frame : (m : Option (Message (List ℤ) Readings)) → CarriedSent law m → Sent (group N q law) (Carried law) m (sent_bytes law.n law.m m)
        frame none c = refl
        frame (some m) c = (refl, c)

        command : (c : Option (Command Marked)) → Commanded (group N q law) c (issued_bytes law.p c)
        command none = refl
        command (some c) = refl

    module _ (h : Held) (a : Areas) where
      abbrev r : Replica
      r = record { settings = settings_of N q law i; held = h }

      abbrev after_checks : Outcomes → Outcomes
      after_checks o = checked r (length a.frame) (length a.command) o

      -- a call that is not refused for its settings or areas goes on to the step, of a box of the group
      checked-shows : (o : Outcomes) → (Grouped N i → Keeps law o) → (Grouped N i → Ordered (law_of law) N o.held) → Shows r o (after_checks o)
      checked-shows o keeps orders = by (eqb number 0) refl
        where
          number : ℕ
          number = step_refusal r.settings (length a.frame) (length a.command)

          by : (b : Bool) → eqb number 0 ≡ b → Shows r o (after_checks o)
          by false n =
              inr (subst (λ p. Still r (result_of r.settings p)) (checked_refused r (length a.frame) (length a.command) o (eqb-false number 0 n))
              (record { box = refl; refused = refl; frame = refl; command = refl }))
          by true t =
              let z = eqb-true number 0 t in
              let g = (accepted r.settings (ready r.settings (length a.frame) (length a.command) z).settings).group in
              inl (subst (λ p. Steps o (result_of r.settings p)) (checked-done r (length a.frame) (length a.command) o z)
              (does o (keeps g) (orders g)))

    -- ---- the protocol's step for each input

    abbrev step_of : Held → Input Handed (Message (List ℤ) Readings) → Outcomes
    step_of h x = outcome (group N q law) (law_of law) G i (held_in h) x

    -- it keeps to the order
    orders : (h : Held) (x : Input Handed (Message (List ℤ) Readings)) → Ordered (law_of law) N (held_in h) → Grouped N i
        → Ordered (law_of law) N (step_of h x).held
    orders h (Tick y) o g = tick-ordered (law_of law) G i (g.own1, g.own_n) (held_in h) _ _ o
    orders h (Arrival m) o g = arrive-ordered (law_of law) G i (g.own1, g.own_n) (held_in h) m o
    orders h GiveUp o g = give_up-ordered (law_of law) G i (g.own1, g.own_n) (held_in h) o

    -- a frame can carry the number of a box of the group
    carries : Grouped N i → i < 256
    carries g = omega (arith, g.own_n, g.N9)

    module _ (refuses : refusal law ≡ 0) (h : Held) where
      -- it keeps to the types
      keeps : (x : Input Handed (Message (List ℤ) Readings)) → Typed law (held_in h) → Arrives (group N q law) (Carried law) x → Grouped N i
          → Keeps law (step_of h x)
      keeps (Tick y) t w g =
          let row = converted_row y.readings in
          tick-keeps law refuses G i (carries g) (held_in h) _ _ t (row_ok law row (row-i32 y.readings y.i32))
      keeps (Arrival m) t w g = arrive-keeps law refuses G i (carries g) (held_in h) m t w
      keeps GiveUp t w g = give_up-keeps law refuses G i (carries g) (held_in h) t

      -- the call is this step after the checks; what arrives is read as the message that was sent
      same : (x : Input Handed (Message (List ℤ) Readings)) (a : Areas) → Arrives (group N q law) (Carried law) x
          → after_checks h a (step_of h x) ≡ outcome_of (r h a) (in_bytes (group N q law) x) a
      unfolding tick_outcome give_up_outcome arrive_outcome arrival
      same (Tick y) a w = refl
      same (Arrival m) a w = ap (λ found. after_checks h a (arrival (law_of law) G i (held_in h) found)) (sym (found-sent law refuses m w))
      same GiveUp a w = refl

  module _ (start : AllI32 law.start) (e : settings_refusal (settings_of N q law 1) ≡ 0) where
    refuses : refusal law ≡ 0
    refuses = (accepted (settings_of N q law 1) e).law

    calls : (i : ℕ) (c : Replica) (x : Input Handed (Message (List ℤ) Readings)) (a : Areas) → Kept i c → Arrives (group N q law) (Carried law) x
        → Shows i c (step_of i c.held x) (outcome_of c (in_bytes (group N q law) x) a)
    calls i c x a k w =
        subst (λ c. Shows i c (step_of i c.held x) (outcome_of c (in_bytes (group N q law) x) a)) (λ j. record { settings = sym k.settings j; held = c.held })
        (subst (Shows i (r i c.held a) (step_of i c.held x)) (same i refuses c.held x a w)
        (checked-shows i c.held a (step_of i c.held x) (keeps i refuses c.held x k.typed w) (orders i c.held x k.ordered)))

    read : (c : Command Marked) → c.period ≤ largest → (group N q law).command_period ((group N q law).command_bytes c) ≡ c.period
    read c h = period-read law.p c.period c.values.commands c.values.limited (omega arith)

    pub shown : Shown (group N q law) Kept (Carried law) (law_of law) G
    shown = record {
      fresh_kept = λ i. record { settings = refl; typed = fresh-typed law start; ordered = fresh-ordered (law_of law) N };
      fresh_held = λ i. refl;
      calls = calls;
      period_read = read;
    }
