-- A replica's period counts its ticks not refused. Assumes nothing.
use mathlib.Core.Path.{◌≡◌, refl}
use mathlib.Core.Bool.{Bool, false, not}
use Prim.Native.Nat.{ℕ, ◌+◌}
use native.Mathlib.Omega.{arith}
use Rattle.lists.specs.Choice.{pick}
use Rattle.lists.proofs.Choice.{pick-ok}
use Rattle.scram.specs.Held.{Law, Group, Best, Held, Kind, Message, Outcome}
use Rattle.scram.specs.Events.{refusing, estimate_of, entered, ticked, raise, after_tick, tick, give_up, hear_ack, hear_estimate, receive, arrive}
use Rattle.scram.specs.Shown.{is_refused}

module _ {State Readings Values : Type 0} where
  -- a step that was not refused, and the period after it
  pub record Taken (k : ℕ) (o : Outcome State Readings Values) : Type 0 where
    pub period : o.held.period ≡ k
    pub done : is_refused o.answer ≡ false

  -- a step that leaves the period
  pub record Stays (k : ℕ) (o : Outcome State Readings Values) : Type 0 where
    pub period : o.held.period ≡ k

  -- a step that raises the period by 1, unless it was refused
  pub record Counted (k : ℕ) (o : Outcome State Readings Values) : Type 0 where
    pub period : o.held.period ≡ k + pick (not (is_refused o.answer)) 1 0

  refused-counted : (s : Held State Readings) (number : ℕ) → Counted s.period (refusing s number)
  unfolding pick
  refused-counted s number = record { period = omega arith }

  taken-counted : (k : ℕ) (o : Outcome State Readings Values) → Taken (k + 1) o → Counted k o
  unfolding pick
  taken-counted k o t = record { period = rw t.done t.period }

module _ {State Readings Values : Type 0} (law : Law State Readings Values) (group : Group) (i : ℕ) where
  raise-taken : (s : Held State Readings) → Taken s.period (raise law group i s)
  unfolding raise
  raise-taken s = pick-ok (Taken s.period) _ _ _ (λ _. record { period = refl; done = refl }) (λ _. record { period = refl; done = refl })

  -- what follows a tick is not refused
  pub after-taken : (s : Held State Readings) → Taken s.period (after_tick law group i s)
  unfolding after_tick
  after-taken s =
      pick-ok (Taken s.period) _ _ _ (λ _. raise-taken s)
      (λ _. pick-ok (Taken s.period) _ _ _ (λ _. record { period = refl; done = refl }) (λ _. record { period = refl; done = refl }))

  pub tick-counted : (s : Held State Readings) (beyond : Bool) (y : Readings) → Counted s.period (tick law group i s beyond y)
  unfolding tick
  tick-counted s beyond y =
      pick-ok (Counted s.period) _ _ _ (λ _. refused-counted s 6)
      (λ _. pick-ok (Counted s.period) _ _ _ (λ _. refused-counted s 7)
      (λ _. pick-ok (Counted s.period) _ _ _ (λ _. refused-counted s 12)
      (λ _. taken-counted s.period (after_tick law group i (ticked law s y)) (after-taken (ticked law s y)))))

  pub give_up-stays : (s : Held State Readings) → Stays s.period (give_up law group i s)
  unfolding give_up
  give_up-stays s =
      pick-ok (Stays s.period) _ _ _ (λ _. record { period = refl })
      (λ _. pick-ok (Stays s.period) _ _ _ (λ _. record { period = refl })
      (λ _. pick-ok (Stays s.period) _ _ _ (λ _. record { period = refl })
      (λ _. record { period = (raise-taken s).period })))

  estimate-stays : (s : Held State Readings) (b : Best State Readings) → Stays s.period (hear_estimate law group i s b)
  unfolding hear_estimate
  estimate-stays s b = pick-ok (Stays s.period) _ _ _ (λ _. record { period = refl }) (λ _. record { period = refl })

  receive-stays : (kind : Kind) (s : Held State Readings) (m : Message State Readings) → Stays s.period (receive law group i kind s m)
  unfolding receive hear_ack
  receive-stays Kind.Propose s m = record { period = refl }
  receive-stays Kind.Ack s m = pick-ok (Stays s.period) _ _ _ (λ _. record { period = refl }) (λ _. record { period = refl })
  receive-stays Kind.Decide s m = record { period = refl }
  receive-stays Kind.Estimate s m =
      pick-ok (Stays s.period) _ _ _ (λ _. estimate-stays (entered i s m.view) (estimate_of m)) (λ _. estimate-stays s (estimate_of m))

  pub arrive-stays : (s : Held State Readings) (m : Message State Readings) → Stays s.period (arrive law group i s m)
  unfolding arrive
  arrive-stays s m =
      pick-ok (Stays s.period) _ _ _ (λ _. record { period = refl })
      (λ _. pick-ok (Stays s.period) _ _ _ (λ _. record { period = refl })
      (λ _. pick-ok (Stays s.period) _ _ _ (λ _. record { period = refl })
      (λ _. pick-ok (Stays s.period) _ _ _ (λ _. record { period = refl })
      (λ _. receive-stays m.kind s m))))
