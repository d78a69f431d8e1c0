-- What the calls of a replica with tickets answer and leave. Assumes nothing.
use Rattle.std.specs.Prelude.{◌≡◌, refl, ◌≢◌, Bool, true, false, not, List, [], ℕ, T, eqb, length, ℤ, IsErr}
use Rattle.std.proofs.Common.{sym, ap, subst, ◌∙◌, inl, inr}
use Rattle.lists.specs.Choice.{pick}
use Rattle.lists.proofs.Choice.{pick-holds, pick-false}
use Rattle.readings.specs.declared.Readings.{Readings}
use Rattle.scram.specs.Answers.{Answered, Done, Ignored, Refused, answered, answered_of}
use Rattle.scram.specs.History.{In}
use Rattle.scram.specs.Held.{Held}
use Rattle.law.specs.Settings.{refusals}
use Rattle.octets.specs.Areas.{over}
use Rattle.replica.specs.Settings.{settings_refusals, settings_refusal}
use Rattle.replica.specs.Held.{held_in, held_of}
use Rattle.replica.specs.Frames.{sent_bytes, issued_bytes}
use Rattle.replica.specs.Calls.{Outcomes, tick_outcome, give_up_outcome, arrive_outcome}
use Rattle.records.specs.Recording.{record_refusal}
use Rattle.records.specs.Reading.{is_done}
use Rattle.tickets.specs.Tickets.{is_spent, commits}
use Rattle.tickets.proofs.Laws.{step-not-made}
use Rattle.asks.specs.declared.Ticketed.{Ticketed}
use Rattle.asks.specs.Asking.{tickets_of, tickets_in, answer_before, outcome_after, ask_outcome, asked_record, commit_answer}
use Rattle.answers.specs.Answers.{numbered, ticking, giving_up, arriving, asking_tick, asking_give_up, asking_arrive, committing}
use Rattle.answers.specs.Kept.{AskKept, TicketedKept}
use Rattle.answers.specs.Demand1.{AskAnswers, CommitAnswers, TicketedAnswers}
use Rattle.answers.proofs.Numbers.{all_listed, first-in, refusal-in, answers-as, none_given, not_done}
use Rattle.answers.proofs.Outcomes.{Still, Step, refuses, ignores}
use Rattle.answers.proofs.Replica.{tick-outcome, give-up-outcome, arrive-outcome}

-- ---- asks

module _ (possible : List Answered) (t : T (all_listed possible)) (given : Ticketed) where
  -- what an ask answers: after the largest ticket it is ignored, 1 to 5 as for recording, and else what the event answers
  pub ask-outcome : (area : ℕ) (o : Outcomes) → In Ignored possible → In (numbered (record_refusal given.replica.settings area)) possible
      → Step possible (held_in given.replica.held) o → Step possible (held_in given.replica.held) (ask_outcome given area o)
  unfolding ask_outcome answer_before
  ask-outcome area o ignored refused a =
      pick-holds with (is_spent (tickets_of given.tickets)) Ignored _ (λ _. ignores possible t h ignored)
      (λ _. pick-holds with (eqb number 0) Done (Refused number) (λ _. a)
      (λ e. refuses possible t h number (refusal-in possible number (subst (λ b. T (not b)) (sym e) tt) refused)))
    where
      h : Held (List ℤ) Readings
      h = held_in given.replica.held

      number : ℕ
      number = record_refusal given.replica.settings area

      with : Answered → Type 0
      with x = Step possible (held_in given.replica.held) (outcome_after given.replica.held x o)

  -- what the outcome says, the ask gives
  ask-answers : (o : Outcomes) (area frame command : List ℕ) → Step possible (held_in given.replica.held) (ask_outcome given (length area) o)
      → AskAnswers possible given o area frame command
  unfolding asked_record
  ask-answers o area frame command a r area' frame' command' g =
      answers-as possible t (answered r.answer) p.answer g.answer a.among (AskKept given r area area' frame frame' command command')
      (λ n. still n (a.kept n))
    where
      p : Outcomes
      p = ask_outcome given (length area) o

      nothing : p.answer ≢ Done → asked_record given p (length area) ≡ []
      nothing n = pick-false _ _ _ (not_done p.answer n)

      still : p.answer ≢ Done → Still (held_in given.replica.held) p → AskKept given r area area' frame frame' command command'
      still n k = record {
        replica = g.replica;
        lent-area = g.record-bytes ∙ ap (λ b. over b area) (nothing n);
        frame-area = g.frame-bytes ∙ ap (λ m. over (sent_bytes given.replica.settings.law.n given.replica.settings.law.m m) frame) k.sent;
        command-area = g.command-bytes ∙ ap (λ c. over (issued_bytes given.replica.settings.law.p c) command) k.command;
        no-frame = g.frame-length ∙ ap (λ m. length (sent_bytes given.replica.settings.law.n given.replica.settings.law.m m)) k.sent;
        no-command = g.command-length ∙ ap (λ c. length (issued_bytes given.replica.settings.law.p c)) k.command;
      }

module _ (given : Ticketed) (area frame command : List ℕ) where
  pub ask-tick-call : (y : Readings)
      → AskAnswers asking_tick given (tick_outcome given.replica y (length frame) (length command)) area frame command
  unfolding settings_refusal record_refusal refusals
  ask-tick-call y =
      ask-answers asking_tick tt given _ area frame command
      (ask-outcome asking_tick tt given (length area) _ (inr (inl refl)) (first-in asking_tick (inl refl) _ tt)
      (tick-outcome asking_tick tt (inl refl) given.replica tt (first-in asking_tick (inl refl) (settings_refusals given.replica.settings) tt) (length frame)
      (length command) tt tt tt y))

  pub ask-give-up-call : AskAnswers asking_give_up given (give_up_outcome given.replica (length frame) (length command)) area frame command
  unfolding settings_refusal record_refusal refusals
  ask-give-up-call =
      ask-answers asking_give_up tt given _ area frame command
      (ask-outcome asking_give_up tt given (length area) _ (inr (inl refl)) (first-in asking_give_up (inl refl) _ tt)
      (give-up-outcome asking_give_up tt (inl refl) given.replica tt (first-in asking_give_up (inl refl) (settings_refusals given.replica.settings) tt)
      (length frame) (length command) (inr (inl refl)) tt))

  pub ask-arrive-call : (bytes : List ℕ)
      → AskAnswers asking_arrive given (arrive_outcome given.replica bytes (length frame) (length command)) area frame command
  unfolding settings_refusal record_refusal refusals
  ask-arrive-call bytes =
      ask-answers asking_arrive tt given _ area frame command
      (ask-outcome asking_arrive tt given (length area) _ (inr (inl refl)) (first-in asking_arrive (inl refl) _ tt)
      (arrive-outcome asking_arrive tt (inl refl) given.replica tt (first-in asking_arrive (inl refl) (settings_refusals given.replica.settings) tt)
      (length frame) (length command) (inr (inl refl)) tt tt tt tt bytes))

-- ---- commits

committing-in : (b : Bool) → In (pick b Done (Refused 17)) committing
unfolding pick
committing-in true = inl refl
committing-in false = inr (inl refl)

pub commit-call : (given : Ticketed) (ticket : ℕ) → CommitAnswers given ticket
commit-call given ticket r e ticketed =
    answers-as committing tt (answered_of r) (commit_answer given ticket) e (committing-in (commits (tickets_of given.tickets) ticket)) (IsErr r)
    (none_given r (commit_answer given ticket) e)

-- ---- steps that were not asked

module _ (possible : List Answered) (t : T (all_listed possible)) (given : Ticketed) where
  ticketed-answers : (o : Outcomes) (frame command : List ℕ) → Step possible (held_in given.replica.held) o
      → TicketedAnswers possible given o frame command
  ticketed-answers o frame command a r frame' command' g =
      answers-as possible t (answered r.answer) o.answer g.answer a.among (TicketedKept given r frame frame' command command')
      (λ n. still n (a.kept n))
    where
      still : o.answer ≢ Done → Still (held_in given.replica.held) o → TicketedKept given r frame frame' command command'
      still n k = record {
        ticketed =
            λ i. record {
              replica = (g.replica ∙ ap (λ h. record { settings = given.replica.settings; held = held_of h }) k.held) i;
              tickets = (g.tickets ∙ ap tickets_in (step-not-made (tickets_of given.tickets) (is_done o.answer) (not_done o.answer n))) i;
            };
        frame-area = g.frame-bytes ∙ ap (λ m. over (sent_bytes given.replica.settings.law.n given.replica.settings.law.m m) frame) k.sent;
        command-area = g.command-bytes ∙ ap (λ c. over (issued_bytes given.replica.settings.law.p c) command) k.command;
        no-frame = g.frame-length ∙ ap (λ m. length (sent_bytes given.replica.settings.law.n given.replica.settings.law.m m)) k.sent;
        no-command = g.command-length ∙ ap (λ c. length (issued_bytes given.replica.settings.law.p c)) k.command;
      }

module _ (given : Ticketed) (frame command : List ℕ) where
  pub ticketed-tick-call : (y : Readings) → TicketedAnswers ticking given (tick_outcome given.replica y (length frame) (length command)) frame command
  unfolding settings_refusal refusals
  ticketed-tick-call y =
      ticketed-answers ticking tt given _ frame command
      (tick-outcome ticking tt (inl refl) given.replica tt (first-in ticking (inl refl) (settings_refusals given.replica.settings) tt) (length frame)
      (length command) tt tt tt y)

  pub ticketed-give-up-call : TicketedAnswers giving_up given (give_up_outcome given.replica (length frame) (length command)) frame command
  unfolding settings_refusal refusals
  ticketed-give-up-call =
      ticketed-answers giving_up tt given _ frame command
      (give-up-outcome giving_up tt (inl refl) given.replica tt (first-in giving_up (inl refl) (settings_refusals given.replica.settings) tt)
      (length frame) (length command) (inr (inl refl)) tt)

  pub ticketed-arrive-call : (bytes : List ℕ)
      → TicketedAnswers arriving given (arrive_outcome given.replica bytes (length frame) (length command)) frame command
  unfolding settings_refusal refusals
  ticketed-arrive-call bytes =
      ticketed-answers arriving tt given _ frame command
      (arrive-outcome arriving tt (inl refl) given.replica tt (first-in arriving (inl refl) (settings_refusals given.replica.settings) tt)
      (length frame) (length command) (inr (inl refl)) tt tt tt tt bytes)
