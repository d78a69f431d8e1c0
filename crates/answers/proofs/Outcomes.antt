-- What the protocol's steps answer, over any law: ignored or refused, a step holds what it held, sends no frame and issues no command.
-- Assumes nothing.
use Rattle.std.specs.Prelude.{◌≡◌, refl, Bool, List, ℕ, T}
use Rattle.std.proofs.Common.{subst, sym}
use Rattle.std.proofs.Math.Option.{Option, none, some}
use Rattle.lists.proofs.Choice.{pick-ok}
use Rattle.scram.specs.declared.Kind.{Kind}
use Rattle.scram.specs.Answers.{Answered, Done, Ignored, Refused}
use Rattle.scram.specs.History.{In}
use Rattle.scram.specs.Held.{Law, Group, Best, Held, Message, Outcome}
use Rattle.scram.specs.Events.{refusing, ignoring, estimate_of, entered, ticked}
use Rattle.scram.specs.Events.{raise, after_tick, tick, give_up, hear_ack, hear_estimate, receive, arrive, arrival}
use Rattle.answers.specs.Answers.{Answers}
use Rattle.answers.proofs.Numbers.{all_listed, listed, has_number, refused-in}

module _ {State Readings Values : Type 0} where
  -- nothing has changed, and nothing is sent or issued
  pub record Still (s : Held State Readings) (o : Outcome State Readings Values) : Type 0 where
    pub held : o.held ≡ s
    pub sent : o.sent ≡ none
    pub command : o.command ≡ none

  -- a step of a box that held s
  abbrev pub Step : List Answered → Held State Readings → Outcome State Readings Values → Type 0
  Step possible s o = Answers possible o.answer (Still s o)

  -- what was called for
  record Does (o : Outcome State Readings Values) : Type 0 where
    done : o.answer ≡ Done

  -- ---- the three forms of an outcome

  module _ (possible : List Answered) (t : T (all_listed possible)) (s : Held State Readings) where
    pub refuses : (number : ℕ) → In (Refused number) possible → Step possible s (refusing s number)
    refuses number i =
        record { listed = listed possible t (Refused number) i; among = i; kept = λ _. record { held = refl; sent = refl; command = refl } }

    pub ignores : In Ignored possible → Step possible s (ignoring s)
    ignores i = record { listed = tt; among = i; kept = λ _. record { held = refl; sent = refl; command = refl } }

    does : In Done possible → (o : Outcome State Readings Values) → Does o → Step possible s o
    does i o d =
        let j = subst (λ a. In a possible) (sym d.done) i in
        record { listed = listed possible t o.answer j; among = j; kept = λ n. absurd (n d.done) }

  module _ (law : Law State Readings Values) (group : Group) (own : ℕ) where
    -- ---- rules that are neither refused nor ignored

    raise-does : (s : Held State Readings) → Does (raise law group own s)
    unfolding raise
    raise-does s = pick-ok Does _ _ _ (λ _. record { done = refl }) (λ _. record { done = refl })

    after-tick-does : (s : Held State Readings) → Does (after_tick law group own s)
    unfolding after_tick
    after-tick-does s =
        pick-ok Does _ _ _ (λ _. raise-does s) (λ _. pick-ok Does _ _ _ (λ _. record { done = refl }) (λ _. record { done = refl }))

    ack-does : (s : Held State Readings) (box : ℕ) → Does (hear_ack law group own s box)
    unfolding hear_ack
    ack-does s box = pick-ok Does _ _ _ (λ _. record { done = refl }) (λ _. record { done = refl })

    estimate-does : (s : Held State Readings) (b : Best State Readings) → Does (hear_estimate law group own s b)
    unfolding hear_estimate
    estimate-does s b = pick-ok Does _ _ _ (λ _. record { done = refl }) (λ _. record { done = refl })

    receive-does : (kind : Kind) (s : Held State Readings) (m : Message State Readings) → Does (receive law group own kind s m)
    unfolding receive
    receive-does Kind.Propose s m = record { done = refl }
    receive-does Kind.Ack s m = ack-does s m.sender
    receive-does Kind.Decide s m = record { done = refl }
    receive-does Kind.Estimate s m =
        pick-ok Does _ _ _ (λ _. estimate-does (entered own s m.view) (estimate_of m)) (λ _. estimate-does s (estimate_of m))

    -- ---- the three events, in a list that has the numbers of their refusals

    module _ (possible : List Answered) (t : T (all_listed possible)) (done : In Done possible) (s : Held State Readings) where
      pub tick-answers : T (has_number possible 6) → T (has_number possible 7) → T (has_number possible 12) → (beyond : Bool) (y : Readings)
          → Step possible s (tick law group own s beyond y)
      unfolding tick
      tick-answers six seven twelve beyond y =
          pick-ok (Step possible s) _ _ _ (λ _. refuses possible t s 6 (refused-in possible 6 six))
          (λ _. pick-ok (Step possible s) _ _ _ (λ _. refuses possible t s 7 (refused-in possible 7 seven))
          (λ _. pick-ok (Step possible s) _ _ _ (λ _. refuses possible t s 12 (refused-in possible 12 twelve))
          (λ _. does possible t s done _ (after-tick-does (ticked law s y)))))

      module _ (ignored : In Ignored possible) where
        pub give-up-answers : T (has_number possible 12) → Step possible s (give_up law group own s)
        unfolding give_up
        give-up-answers twelve =
            pick-ok (Step possible s) _ _ _ (λ _. ignores possible t s ignored)
            (λ _. pick-ok (Step possible s) _ _ _ (λ _. ignores possible t s ignored)
            (λ _. pick-ok (Step possible s) _ _ _ (λ _. refuses possible t s 12 (refused-in possible 12 twelve))
            (λ _. does possible t s done _ (raise-does s))))

        module _
            (eight : T (has_number possible 8)) (nine : T (has_number possible 9)) (ten : T (has_number possible 10)) (eleven : T (has_number possible 11))
          where
            arrive-answers : (m : Message State Readings) → Step possible s (arrive law group own s m)
            unfolding arrive
            arrive-answers m =
                pick-ok (Step possible s) _ _ _ (λ _. refuses possible t s 9 (refused-in possible 9 nine))
                (λ _. pick-ok (Step possible s) _ _ _ (λ _. refuses possible t s 10 (refused-in possible 10 ten))
                (λ _. pick-ok (Step possible s) _ _ _ (λ _. refuses possible t s 11 (refused-in possible 11 eleven))
                (λ _. pick-ok (Step possible s) _ _ _ (λ _. ignores possible t s ignored)
                (λ _. does possible t s done _ (receive-does m.kind s m)))))

            pub arrival-answers : (m : Option (Message State Readings)) → Step possible s (arrival law group own s m)
            unfolding arrival
            arrival-answers none = refuses possible t s 8 (refused-in possible 8 eight)
            arrival-answers (some m) = arrive-answers m
