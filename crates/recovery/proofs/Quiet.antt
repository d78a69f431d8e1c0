-- What a step answers, from demand 1: not done, it holds what was held, so that "the replica and each lent area hold what they held"; and the number of
-- a refusal is neither that of done nor that of ignored. Assumes nothing.
use mathlib.Core.Path.{◌≡◌, refl, sym, ap, ◌∙◌}
use mathlib.Core.Logic.{inl, inr}
use mathlib.Core.Bool.{false}
use mathlib.Core.List.{List, ◌∷◌, ◌++◌, map}
use Prim.Native.Nat.{ℕ}
use Rattle.lists.proofs.Booleans.{never}
use Rattle.scram.specs.Held.{Input, Tick, Arrival, GiveUp}
use Rattle.scram.specs.Answers.{Answered, Done, Ignored, Refused}
use Rattle.scram.specs.History.{In}
use Rattle.law.specs.Settings.{refusals}
use Rattle.replica.specs.declared.Replica.{Replica}
use Rattle.replica.specs.Settings.{settings_refusals, settings_refusal}
use Rattle.replica.specs.Held.{held_in}
use Rattle.replica.specs.Calls.{Outcomes}
use Rattle.records.specs.Reading.{is_done}
use Rattle.group.specs.Group.{Areas}
use Rattle.answers.specs.Answers.{Listed, numbered, settings, areas, tick, frame, raising}
use Rattle.answers.proofs.Numbers.{first-in}
use Rattle.answers.proofs.Outcomes.{Step}
use Rattle.answers.proofs.Replica.{tick-outcome, give-up-outcome, arrive-outcome}
use Rattle.recovery.specs.Firmware.{Handed, row_of, outcome_at}

-- one list for the three steps: which of its answers each can give does not matter here
abbrev stepping : List Answered
stepping = Done ∷ Ignored ∷ map Refused (settings ++ areas ++ tick ++ frame ++ raising)

module _ (r : Replica) where
  -- what a call at a replica does
  pub record QuietCall (o : Outcomes) : Type 0 where
    pub held : is_done o.answer ≡ false → o.held ≡ held_in r.held
    pub numbered : Listed o.answer

  quiet : (o : Outcomes) → Step stepping (held_in r.held) o → QuietCall o
  quiet o a = record { held = λ f. (a.kept (λ d. never (sym f ∙ ap is_done d))).held; numbered = a.listed }

  settings-among : In (numbered (settings_refusal r.settings)) stepping
  unfolding settings_refusal refusals
  settings-among = first-in stepping (inl refl) (settings_refusals r.settings) tt

  -- of the C firmware's steps
  pub outcome-quiet : (x : Input Handed (List ℕ)) (a : Areas) → QuietCall (outcome_at r x a)
  outcome-quiet (Tick y) a = quiet _ (tick-outcome stepping tt (inl refl) r tt settings-among _ _ tt tt tt (row_of y))
  outcome-quiet (Arrival bytes) a = quiet _ (arrive-outcome stepping tt (inl refl) r tt settings-among _ _ (inr (inl refl)) tt tt tt tt bytes)
  outcome-quiet GiveUp a = quiet _ (give-up-outcome stepping tt (inl refl) r tt settings-among _ _ (inr (inl refl)) tt)
