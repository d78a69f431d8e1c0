-- What the replica's four calls answer and leave. Assumes nothing.
use Rattle.std.specs.Prelude.{refl, not, List, ℕ, T, eqb, length, IsErr}
use Rattle.std.proofs.Common.{ap, ◌∙◌, inl, inr}
use Rattle.lists.specs.Choice.{pick}
use Rattle.lists.specs.Refusals.{first_of}
use Rattle.lists.proofs.Choice.{pick-ok}
use Rattle.readings.specs.declared.Readings.{Readings}
use Rattle.scram.specs.Answers.{Answered, Done, Ignored, answered, answered_of}
use Rattle.scram.specs.History.{In}
use Rattle.scram.specs.Events.{refusing}
use Rattle.law.specs.Settings.{refusals}
use Rattle.octets.specs.Areas.{over}
use Rattle.replica.specs.declared.Settings.{Settings}
use Rattle.replica.specs.declared.Replica.{Replica}
use Rattle.replica.specs.Settings.{bad_group, settings_refusals, settings_refusal, blank_settings}
use Rattle.replica.specs.Held.{held_in, held_of}
use Rattle.replica.specs.Frames.{sent_bytes, issued_bytes}
use Rattle.replica.specs.Calls.{Outcomes, short_area, step_refusal, checked, tick_outcome, give_up_outcome, arrive_outcome, made_answer, fresh_of}
use Rattle.answers.specs.Answers.{numbered, making, ticking, giving_up, arriving}
use Rattle.answers.specs.Kept.{StepKept, NoReplica}
use Rattle.answers.specs.Demand1.{MakeAnswers, StepAnswers}
use Rattle.answers.proofs.Numbers.{all_listed, has_number, numbered-in, first-in, refusal-in, answers-as, none_given}
use Rattle.answers.proofs.Outcomes.{Still, Step, refuses, tick-answers, give-up-answers, arrival-answers}

-- ---- making

pub no-replica : NoReplica (fresh_of blank_settings)
unfolding tick_outcome give_up_outcome arrive_outcome checked step_refusal settings_refusal bad_group first_of pick
no-replica = record { tick = λ y frame command. refl; give-up = λ frame command. refl; arrive = λ bytes frame command. refl }

making-in : (s : Settings) → In (made_answer s) making
unfolding settings_refusal refusals
making-in s = first-in making (inl refl) (settings_refusals s) tt

pub make-answers : (s : Settings) → MakeAnswers s
make-answers s r e replica =
    answers-as making tt (answered_of r) (made_answer s) e (making-in s) (IsErr r) (none_given r (made_answer s) e)

-- ---- the outcomes of the three steps

module _ (possible : List Answered) (t : T (all_listed possible)) (done : In Done possible) (given : Replica) where
  -- refusals 1 to 5, which every step makes
  module _ (five : T (has_number possible 5)) (four : In (numbered (settings_refusal given.settings)) possible) (frame command : ℕ) where
    refusal-of-step : In (numbered (step_refusal given.settings frame command)) possible
    unfolding step_refusal pick
    refusal-of-step =
        pick-ok (λ number. In (numbered number) possible) (not (eqb (settings_refusal given.settings) 0)) _ _ (λ _. four)
        (λ _. pick-ok (λ number. In (numbered number) possible) (short_area frame command) 5 0 (λ _. numbered-in possible done 5 five) (λ _. done))

    checked-answers : (o : Outcomes) → Step possible (held_in given.held) o → Step possible (held_in given.held) (checked given frame command o)
    unfolding checked
    checked-answers o a =
        let number = step_refusal given.settings frame command in
        pick-ok (Step possible (held_in given.held)) (eqb number 0) o (refusing (held_in given.held) number) (λ _. a)
        (λ n. refuses possible t (held_in given.held) number (refusal-in possible number n refusal-of-step))

    pub tick-outcome : T (has_number possible 6) → T (has_number possible 7) → T (has_number possible 12) → (y : Readings)
        → Step possible (held_in given.held) (tick_outcome given y frame command)
    unfolding tick_outcome
    tick-outcome six seven twelve y = checked-answers _ (tick-answers _ _ _ possible t done (held_in given.held) six seven twelve _ _)

    module _ (ignored : In Ignored possible) where
      pub give-up-outcome : T (has_number possible 12) → Step possible (held_in given.held) (give_up_outcome given frame command)
      unfolding give_up_outcome
      give-up-outcome twelve = checked-answers _ (give-up-answers _ _ _ possible t done (held_in given.held) ignored twelve)

      pub arrive-outcome : T (has_number possible 8) → T (has_number possible 9) → T (has_number possible 10) → T (has_number possible 11)
          → (bytes : List ℕ) → Step possible (held_in given.held) (arrive_outcome given bytes frame command)
      unfolding arrive_outcome
      arrive-outcome eight nine ten eleven bytes =
          checked-answers _ (arrival-answers _ _ _ possible t done (held_in given.held) ignored eight nine ten eleven _)

  -- what the outcome says, the call gives
  step-answers : (o : Outcomes) (frame command : List ℕ) → Step possible (held_in given.held) o → StepAnswers possible given o frame command
  step-answers o frame command a r frame' command' g =
      answers-as possible t (answered r.answer) o.answer g.answer a.among (StepKept given r frame frame' command command')
      (λ n. still (a.kept n))
    where
      still : Still (held_in given.held) o → StepKept given r frame frame' command command'
      still k = record {
        replica = g.replica ∙ ap (λ h. record { settings = given.settings; held = held_of h }) k.held;
        frame-area = g.frame-bytes ∙ ap (λ m. over (sent_bytes given.settings.law.n given.settings.law.m m) frame) k.sent;
        command-area = g.command-bytes ∙ ap (λ c. over (issued_bytes given.settings.law.p c) command) k.command;
        no-frame = g.frame-length ∙ ap (λ m. length (sent_bytes given.settings.law.n given.settings.law.m m)) k.sent;
        no-command = g.command-length ∙ ap (λ c. length (issued_bytes given.settings.law.p c)) k.command;
      }

-- ---- the three steps

module _ (given : Replica) (frame command : List ℕ) where
  pub tick-call : (y : Readings) → StepAnswers ticking given (tick_outcome given y (length frame) (length command)) frame command
  unfolding settings_refusal refusals
  tick-call y =
      step-answers ticking tt (inl refl) given _ frame command
      (tick-outcome ticking tt (inl refl) given tt (first-in ticking (inl refl) (settings_refusals given.settings) tt) (length frame) (length command)
      tt tt tt y)

  pub give-up-call : StepAnswers giving_up given (give_up_outcome given (length frame) (length command)) frame command
  unfolding settings_refusal refusals
  give-up-call =
      step-answers giving_up tt (inl refl) given _ frame command
      (give-up-outcome giving_up tt (inl refl) given tt (first-in giving_up (inl refl) (settings_refusals given.settings) tt) (length frame) (length command)
      (inr (inl refl)) tt)

  pub arrive-call : (bytes : List ℕ) → StepAnswers arriving given (arrive_outcome given bytes (length frame) (length command)) frame command
  unfolding settings_refusal refusals
  arrive-call bytes =
      step-answers arriving tt (inl refl) given _ frame command
      (arrive-outcome arriving tt (inl refl) given tt (first-in arriving (inl refl) (settings_refusals given.settings) tt) (length frame) (length command)
      (inr (inl refl)) tt tt tt tt bytes)
