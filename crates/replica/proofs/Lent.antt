-- Settings whose tables are lent one by one are those of the replica: no step looks at the law's starting state. Assumes nothing.
use Rattle.std.proofs.Common.{◌≡◌, refl, ap, ◌∙◌, Bool, List, ℕ, ℤ}
use Rattle.std.proofs.Math.Option.{Option, none, some}
use Rattle.readings.specs.declared.Readings.{Readings}
use Rattle.law.specs.declared.Settings as Law
use Rattle.law.specs.Settings.{lent, refusals, refusal}
use Rattle.law.specs.Law.{updated, update_limited, commanded, command_limited, issued}
use Rattle.law.proofs.Lent.{refusal-lent}
use Rattle.scram.specs.Held.{Held, Message, Group}
use Rattle.scram.specs.Events.{raise, after_tick, tick, give_up, hear_ack, hear_estimate, receive, arrive, arrival}
use Rattle.replica.specs.declared.Settings.{Settings}
use Rattle.replica.specs.declared.Replica.{Replica}
use Rattle.replica.specs.Settings.{settings_refusal, law_of}
use Rattle.replica.specs.Calls.{Outcomes, step_refusal, checked, tick_outcome, give_up_outcome, arrive_outcome}

-- the settings of a box, with the law's tables lent
abbrev pub settings-with : Settings → Settings
settings-with s = record { boxes = s.boxes; own = s.own; quorums = s.quorums; law = lent s.law }

pub settings-lent : (s : Settings) → settings_refusal (settings-with s) ≡ settings_refusal s
unfolding settings_refusal refusals
settings-lent s = refl

-- ---- the law's calls, on the settings as they see them

module _ (law : Law.Settings) {seen : Law.Settings} (e : seen ≡ lent law) where
  pub refusal-seen : refusal seen ≡ refusal law
  refusal-seen = ap refusal e ∙ refusal-lent law

  module _ (state : List ℤ) (readings : Readings) where
    updated-lent : updated (lent law) state readings ≡ updated law state readings
    unfolding updated refusal refusals
    updated-lent = refl

    pub updated-seen : updated seen state readings ≡ updated law state readings
    updated-seen = ap (λ s. updated s state readings) e ∙ updated-lent

    issued-lent : issued (lent law) state readings ≡ issued law state readings
    unfolding issued commanded command_limited updated update_limited refusal refusals
    issued-lent = refl

    pub issued-seen : issued seen state readings ≡ issued law state readings
    issued-seen = ap (λ s. issued s state readings) e ∙ issued-lent

-- ---- steps whose settings stand

module _ (law : Law.Settings) (group : Group) (own : ℕ) (h : Held (List ℤ) Readings) where
  pub tick-lent : (beyond : Bool) (y : Readings) → tick (law_of (lent law)) group own h beyond y ≡ tick (law_of law) group own h beyond y
  unfolding tick after_tick raise updated refusal refusals
  tick-lent beyond y = refl

  give-up-lent : give_up (law_of (lent law)) group own h ≡ give_up (law_of law) group own h
  unfolding give_up raise
  give-up-lent = refl

  pub arrival-lent : (m : Option (Message (List ℤ) Readings)) → arrival (law_of (lent law)) group own h m ≡ arrival (law_of law) group own h m
  unfolding arrival arrive receive hear_ack hear_estimate issued commanded command_limited updated update_limited refusal refusals
  arrival-lent none = refl
  arrival-lent (some m) = refl

-- ---- calls, with areas so long

module _ (r : Replica) (frame command : ℕ) where
  -- the replica, with the law's tables lent
  abbrev with-lent : Replica
  with-lent = record { settings = settings-with r.settings; held = r.held }

  checked-lent : {o o' : Outcomes} → o ≡ o' → checked with-lent frame command o ≡ checked r frame command o'
  unfolding checked step_refusal settings_refusal refusals
  checked-lent e = ap (checked r frame command) e

  pub tick-outcome-lent : (y : Readings) → tick_outcome with-lent y frame command ≡ tick_outcome r y frame command
  unfolding tick_outcome
  tick-outcome-lent y = checked-lent (tick-lent r.settings.law _ _ _ _ _)

  pub give-up-outcome-lent : give_up_outcome with-lent frame command ≡ give_up_outcome r frame command
  unfolding give_up_outcome
  give-up-outcome-lent = checked-lent (give-up-lent r.settings.law _ _ _)

  pub arrive-outcome-lent : (bytes : List ℕ) → arrive_outcome with-lent bytes frame command ≡ arrive_outcome r bytes frame command
  unfolding arrive_outcome
  arrive-outcome-lent bytes = checked-lent (arrival-lent r.settings.law _ _ _ _)
