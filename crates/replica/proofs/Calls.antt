-- Laws of the calls' definitions: which refusal they make, and what they are where they make none. Assumes nothing.
use Rattle.std.proofs.Common.{◌≡◌, refl, Bool, true, false, not, ◌&&◌, ◌||◌, List, ℕ, ◌≤◌, ◌<◌, arith, eqb, ltb, ℤ, eq-eqb, ne_eqb, eqb-true, ltb-false, leb-false}
use Rattle.std.proofs.lemmas.Bool.{false≢true, eqb-false}
use Rattle.std.proofs.Math.Option.{none, some}
use Rattle.lists.specs.Choice.{pick}
use Rattle.lists.proofs.Choice.{pick-ok, pick_true, pick-false}
use Rattle.readings.specs.declared.Readings.{Readings}
use Rattle.readings.specs.Readings.{mark_beyond}
use Rattle.scram.specs.Answers.{Done, Refused}
use Rattle.scram.specs.Held as Scram
use Rattle.scram.specs.Events.{refusing, last_period, last_view, ticked, after_tick, tick, raise, give_up}
use Rattle.law.specs.declared.Settings as Law
use Rattle.frame.specs.Lengths.{longest_frame, longest_command}
use Rattle.frame.specs.Reading.{read_refusal, read_frame}
use Rattle.replica.specs.declared.Settings.{Settings}
use Rattle.replica.specs.declared.Held.{Held}
use Rattle.replica.specs.declared.Member.{Member}
use Rattle.replica.specs.declared.Replica.{Replica}
use Rattle.replica.specs.Settings.{settings_refusal, law_of, group_of, blank_settings}
use Rattle.replica.specs.Held.{held_in}
use Rattle.replica.specs.Frames.{message_of, found}
use Rattle.replica.specs.Calls.{Outcomes, checked, step_refusal, made_answer, made, fresh_of}
use Rattle.replica.specs.Rules.{tick_refusal}

-- ---- making

pub made-done : (s : Settings) → settings_refusal s ≡ 0 → (made_answer s ≡ Done) × (made s ≡ fresh_of s)
unfolding made pick
made-done s e = (rw (eq-eqb (settings_refusal s) 0 e), rw (eq-eqb (settings_refusal s) 0 e))

pub made-refused : (s : Settings) → (settings_refusal s ≡ 0 → ⊥) → (made_answer s ≡ Refused (settings_refusal s)) × (made s ≡ fresh_of blank_settings)
unfolding made pick
made-refused s n = (rw (ne_eqb (settings_refusal s) 0 n), rw (ne_eqb (settings_refusal s) 0 n))

-- ---- refusals 1 to 5

module _ (r : Replica) (frame command : ℕ) where
  pub checked_refused : (o : Outcomes) → (step_refusal r.settings frame command ≡ 0 → ⊥)
      → refusing (held_in r.held) (step_refusal r.settings frame command) ≡ checked r frame command o
  unfolding checked pick
  checked_refused o n = rw (ne_eqb (step_refusal r.settings frame command) 0 n)

  pub checked-done : (o : Outcomes) → step_refusal r.settings frame command ≡ 0 → o ≡ checked r frame command o
  unfolding checked pick
  checked-done o e = rw (eq-eqb (step_refusal r.settings frame command) 0 e)

module _ (s : Settings) (frame command : ℕ) where
  -- neither the settings nor the areas are refused
  pub record Ready : Type 0 where
    pub settings : settings_refusal s ≡ 0
    pub frame-room : longest_frame ≤ frame
    pub command-room : longest_command ≤ command

  pub ready : step_refusal s frame command ≡ 0 → Ready
  unfolding step_refusal pick
  ready e = by (eqb (settings_refusal s) 0) (ltb frame longest_frame) (ltb command longest_command) refl refl refl e
    where
      by : (a b c : Bool) → eqb (settings_refusal s) 0 ≡ a → ltb frame longest_frame ≡ b → ltb command longest_command ≡ c
          → pick (not a) (settings_refusal s) (pick (b || c) 5 0) ≡ 0 → Ready
      by true false false p q t e = record { settings = eqb-true _ _ p; frame-room = ltb-false _ _ q; command-room = ltb-false _ _ t }
      by true false true p q t e = absurd (omega arith)
      by true true c p q t e = absurd (omega arith)
      by false b c p q t e = absurd (eqb-false (settings_refusal s) 0 p e)

-- ---- refusals 6, 7 and 12 of a tick

module _ (law : Law.Settings) (member : Member) (h : Held) (m : ℕ) (y taken : Readings) where
  -- the tick, whose readings are taken as the law reads them
  abbrev pub ticks : Outcomes
  ticks = tick (law_of law) (group_of member) member.own (held_in h) (mark_beyond m y) taken

  -- what follows it
  abbrev pub next : Outcomes
  next = after_tick (law_of law) (group_of member) member.own (ticked (law_of law) (held_in h) taken)

  refused-by : (a b c : Bool) → (pick {A = ℕ} a 6 (pick b 7 (pick c 12 0)) ≡ 0 → ⊥)
      → refusing (held_in h) (pick a 6 (pick b 7 (pick c 12 0))) ≡ pick a (refusing (held_in h) 6) (pick b (refusing (held_in h) 7) (pick c (refusing
      (held_in h) 12) next))
  unfolding pick
  refused-by true b c n = refl
  refused-by false true c n = refl
  refused-by false false true n = refl
  refused-by false false false n = absurd (n refl)

  pub tick-refused : (tick_refusal h m y ≡ 0 → ⊥) → refusing (held_in h) (tick_refusal h m y) ≡ ticks
  unfolding tick_refusal tick
  tick-refused n = refused-by (last_period h.period) (mark_beyond m y) (h.view_change && last_view h.view) n

  -- the tests did not hold
  pub record Ticks : Type 0 where
    pub same : next ≡ ticks
    pub period : h.period < 4294967295
    pub view : h.view_change ≡ true → h.view < 4294967295

  pub tick-done : tick_refusal h m y ≡ 0 → Ticks
  unfolding tick_refusal tick pick
  tick-done e = by (last_period h.period) (mark_beyond m y) (h.view_change && last_view h.view) refl refl refl e
    where
      below : (b : Bool) → (b && last_view h.view) ≡ false → b ≡ true → h.view < 4294967295
      below true q z = leb-false _ _ q
      below false q z = absurd (false≢true z)

      by : (a b c : Bool) → last_period h.period ≡ a → mark_beyond m y ≡ b → (h.view_change && last_view h.view) ≡ c
          → pick {A = ℕ} a 6 (pick b 7 (pick c 12 0)) ≡ 0 → Ticks
      by true b c p q s e = absurd (omega arith)
      by false true c p q s e = absurd (omega arith)
      by false false true p q s e = absurd (omega arith)
      by false false false p q s e = record { same = rw (p, q, s); period = leb-false _ _ p; view = below h.view_change s }

-- ---- ticks and given-up views issue no command

pub record Silent (o : Outcomes) : Type 0 where
  pub command : o.command ≡ none

module _ (law : Law.Settings) (member : Member) (h : Scram.Held (List ℤ) Readings) where
  raise-silent : Silent (raise (law_of law) (group_of member) member.own h)
  unfolding raise
  raise-silent = pick-ok Silent _ _ _ (λ _. record { command = refl }) (λ _. record { command = refl })

  pub after-tick-silent : Silent (after_tick (law_of law) (group_of member) member.own h)
  unfolding after_tick
  after-tick-silent =
      pick-ok Silent _ _ _ (λ _. raise-silent) (λ _. pick-ok Silent _ _ _ (λ _. record { command = refl }) (λ _. record { command = refl }))

  pub give-up-silent : Silent (give_up (law_of law) (group_of member) member.own h)
  unfolding give_up
  give-up-silent =
      pick-ok Silent _ _ _ (λ _. record { command = refl })
      (λ _. pick-ok Silent _ _ _ (λ _. record { command = refl })
      (λ _. pick-ok Silent _ _ _ (λ _. record { command = refl }) (λ _. raise-silent)))

-- ---- refusal 8

module _ (n m : ℕ) (bytes : List ℕ) where
  pub found_none : eqb (read_refusal n m bytes) 0 ≡ false → found n m bytes ≡ none
  unfolding found
  found_none e = pick-false _ _ _ e

  pub found_some : eqb (read_refusal n m bytes) 0 ≡ true → found n m bytes ≡ some (message_of (read_frame n m bytes))
  unfolding found
  found_some e = pick_true _ _ _ e
