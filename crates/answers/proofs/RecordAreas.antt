-- What the calls of C programs on records answer and leave. Assumes nothing.
use Rattle.std.specs.Prelude.{◌≡◌, refl, ◌≢◌, true, List, [], ◌∷◌, ℕ, T, length}
use Rattle.std.proofs.Common.{sym, ap, subst, ◌∙◌, inl, inr, ne_eqb}
use Rattle.lists.specs.Choice.{pick}
use Rattle.lists.proofs.Choice.{pick-holds, pick-false}
use Rattle.readings.specs.declared.Readings.{Readings}
use Rattle.scram.specs.Answers.{Answered, Done}
use Rattle.scram.specs.History.{In}
use Rattle.scram.specs.Events.{refusing}
use Rattle.octets.specs.Areas.{over}
use Rattle.replica.specs.declared.Settings.{Settings}
use Rattle.replica.specs.declared.Replica.{Replica}
use Rattle.replica.specs.Settings.{settings_refusal}
use Rattle.replica.specs.Held.{held_in}
use Rattle.replica.specs.Frames.{sent_bytes, issued_bytes}
use Rattle.replica.specs.Calls.{Outcomes, tick_outcome, give_up_outcome, arrive_outcome, fresh_of}
use Rattle.records.specs.SettingsPart.{settings_in}
use Rattle.records.specs.Recording.{record_refusal}
use Rattle.records.specs.Reading.{is_record, replica_in, read_replica}
use Rattle.records.proofs.IsRecord.{read_done, record-stands}
use Rattle.records.proofs.Recorded.{record-refused}
use Rattle.winder.specs.ReplicaAreas.{step_at, record_after, recording_refusal, returning_refusal}
use Rattle.winder.specs.ReplicaAreas.{recording as recording_at, returning as returning_at}
use Rattle.answers.specs.Answers.{numbered, numbered_step}
use Rattle.answers.specs.Answers.{making_record, ticking_record, giving_up_record, arriving_record, recording_record, returning_record}
use Rattle.answers.specs.Kept.{RecordStepKept}
use Rattle.answers.specs.Demand1.{MakeAreaAnswers, StepAreaAnswers, RecordAreaAnswers, ReturnAreaAnswers}
use Rattle.answers.proofs.Numbers.{all_listed, has_number, refused-in, first-in, answers-as, answers, not_done, number-of, step-number}
use Rattle.answers.proofs.Outcomes.{Still, Step, refuses}
use Rattle.answers.proofs.Replica.{tick-outcome, give-up-outcome, arrive-outcome}
use Rattle.answers.proofs.Records.{recording-in}

-- ---- making

pub make-area-answers : (s : Settings) (replica : List ℕ) → MakeAreaAnswers s replica
make-area-answers s replica r replica' e same =
    answers making_record tt r (record_refusal s (length replica)) (e ∙ number-of _) (recording-in s (length replica)) (replica' ≡ replica)
    (λ z. same ∙ ap (λ b. over b replica) (record-refused (fresh_of s) (length replica) z).1)

-- ---- the three steps

-- an answer other than "what was called for" leaves the record
record-left : (replica : List ℕ) (o : Outcomes) → o.answer ≢ Done → record_after replica o ≡ replica
unfolding record_after
record-left replica o n = pick-false _ _ _ (not_done o.answer n)

module _ (possible : List Answered) (t : T (all_listed possible)) (replica : List ℕ) where
  -- the settings in a record are not refused
  settings-stand : In Done possible → is_record replica ≡ true → In (numbered (settings_refusal (replica_in replica).settings)) possible
  unfolding pick
  settings-stand done e = subst (λ number. In (numbered number) possible) (sym (record-stands replica e)) done

  -- 15 for what is no record, and else what the step at its replica answers
  at-answers : (step : Replica → Outcomes) → In Done possible → T (has_number possible 15)
      → (In (numbered (settings_refusal (replica_in replica).settings)) possible → Step possible (held_in (replica_in replica).held) (step (replica_in replica)))
      → Step possible (held_in (read_replica replica).held) (step_at replica step)
  unfolding step_at
  at-answers step done fifteen a =
      pick-holds (Step possible (held_in (read_replica replica).held)) (is_record replica) (step (replica_in replica))
      (refusing (held_in (read_replica replica).held) 15)
      (λ e. subst (λ (x : Replica). Step possible (held_in x.held) (step (replica_in replica))) (sym (read_done replica e).1) (a (settings-stand done e)))
      (λ _. refuses possible t (held_in (read_replica replica).held) 15 (refused-in possible 15 fifteen))

  -- what the outcome says, the call gives
  step-area-answers : (o : Outcomes) (frame command : List ℕ) → Step possible (held_in (read_replica replica).held) o
      → StepAreaAnswers possible replica o frame command
  step-area-answers o frame command a r replica' lengths frame' command' g =
      answers-as possible t (numbered_step r) o.answer (ap numbered_step g.answer ∙ step-number o.answer a.listed) a.among
      (RecordStepKept replica replica' lengths frame frame' command command') (λ n. still n (a.kept n))
    where
      still : o.answer ≢ Done → Still (held_in (read_replica replica).held) o → RecordStepKept replica replica' lengths frame frame' command command'
      still n k = record {
        replica = g.replica ∙ record-left replica o n;
        frame-area = g.frame-bytes ∙ ap (λ m. over (sent_bytes (settings_in replica).law.n (settings_in replica).law.m m) frame) k.sent;
        command-area = g.command-bytes ∙ ap (λ c. over (issued_bytes (settings_in replica).law.p c) command) k.command;
        no_bytes =
            g.written
            ∙ (λ i. length (sent_bytes (settings_in replica).law.n (settings_in replica).law.m (k.sent i))
            ∷ length (issued_bytes (settings_in replica).law.p (k.command i)) ∷ []);
      }

module _ (replica frame command : List ℕ) where
  pub tick-area-answers : (y : Readings)
      → StepAreaAnswers ticking_record replica (step_at replica (λ x. tick_outcome x y (length frame) (length command))) frame command
  tick-area-answers y =
      step-area-answers ticking_record tt replica _ frame command
      (at-answers ticking_record tt replica (λ x. tick_outcome x y (length frame) (length command)) (inl refl) tt
      (λ four. tick-outcome ticking_record tt (inl refl) (replica_in replica) tt four (length frame) (length command) tt tt tt y))

  pub give-up-area-answers : StepAreaAnswers giving_up_record replica (step_at replica (λ x. give_up_outcome x (length frame) (length command))) frame command
  give-up-area-answers =
      step-area-answers giving_up_record tt replica _ frame command
      (at-answers giving_up_record tt replica (λ x. give_up_outcome x (length frame) (length command)) (inl refl) tt
      (λ four. give-up-outcome giving_up_record tt (inl refl) (replica_in replica) tt four (length frame) (length command) (inr (inl refl)) tt))

  pub arrive-area-answers : (bytes : List ℕ)
      → StepAreaAnswers arriving_record replica (step_at replica (λ x. arrive_outcome x bytes (length frame) (length command))) frame command
  arrive-area-answers bytes =
      step-area-answers arriving_record tt replica _ frame command
      (at-answers arriving_record tt replica (λ x. arrive_outcome x bytes (length frame) (length command)) (inl refl) tt
      (λ four. arrive-outcome arriving_record tt (inl refl) (replica_in replica) tt four (length frame) (length command) (inr (inl refl)) tt tt tt tt bytes))

-- ---- recording and returning

module _ (replica area : List ℕ) where
  recording-area-in : In (numbered (recording_refusal replica (length area))) recording_record
  unfolding recording_refusal
  recording-area-in = first-in recording_record (inl refl) _ tt

  nothing-recorded : (recording_refusal replica (length area) ≡ 0 → ⊥) → recording_at replica (length area) ≡ []
  unfolding recording_at
  nothing-recorded z = pick-false _ _ _ (ne_eqb (recording_refusal replica (length area)) 0 z)

  pub record-area-answers : RecordAreaAnswers replica area
  record-area-answers r area' e same =
      answers recording_record tt r (recording_refusal replica (length area)) e recording-area-in (area' ≡ area)
      (λ z. same ∙ ap (λ b. over b area) (nothing-recorded z))

module _ (missed : ℕ) (stored replica : List ℕ) where
  returning-area-in : In (numbered (returning_refusal missed stored (length replica))) returning_record
  unfolding returning_refusal
  returning-area-in = first-in returning_record (inl refl) _ tt

  nothing-returned : (returning_refusal missed stored (length replica) ≡ 0 → ⊥) → returning_at missed stored (length replica) ≡ []
  unfolding returning_at
  nothing-returned z = pick-false _ _ _ (ne_eqb (returning_refusal missed stored (length replica)) 0 z)

  pub return-area-answers : ReturnAreaAnswers missed stored replica
  return-area-answers r replica' e same =
      answers returning_record tt r (returning_refusal missed stored (length replica)) e returning-area-in (replica' ≡ replica)
      (λ z. same ∙ ap (λ b. over b replica) (nothing-returned z))
