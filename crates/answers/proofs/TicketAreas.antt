-- What the calls of C programs on a replica with tickets answer and leave. Assumes nothing.
use Rattle.std.specs.Prelude.{◌≡◌, refl, ◌≢◌, Bool, true, false, List, [], ◌∷◌, ◌++◌, ℕ, T, ltb, length, take}
use Rattle.std.proofs.Common.{sym, ap, subst, ◌∙◌, inl, inr, ne_eqb}
use Rattle.std.proofs.Math.Seq.{take-append_seam}
use Rattle.lists.specs.Choice.{pick}
use Rattle.lists.proofs.Choice.{pick-holds, pick-false}
use Rattle.readings.specs.declared.Readings.{Readings}
use Rattle.scram.specs.Answers.{Answered, Done, Ignored}
use Rattle.scram.specs.History.{In}
use Rattle.octets.specs.Areas.{over}
use Rattle.replica.specs.declared.Replica.{Replica}
use Rattle.replica.specs.Settings.{settings_refusal}
use Rattle.replica.specs.Held.{held_in}
use Rattle.replica.specs.Frames.{sent_bytes, issued_bytes}
use Rattle.replica.specs.Calls.{Outcomes, tick_outcome, give_up_outcome, arrive_outcome}
use Rattle.records.specs.Lengths.{record_length}
use Rattle.records.specs.Recording.{record_refusal}
use Rattle.records.proofs.IsRecord.{record-stands}
use Rattle.records.proofs.Recorded.{refused-short, not-refused}
use Rattle.asks.specs.Asking.{asked_record}
use Rattle.ticketed.specs.TicketsPart.{ticket_bytes}
use Rattle.ticketed.specs.Reading.{record_of, ticketed_in, is_ticketed}
use Rattle.ticketed.specs.Calls.{tickets_refusal, with_tickets, ask_at, asked_area, tickets_after, committing_refusal, committing, step_at, stepped_area}
use Rattle.ticketed.proofs.Judged.{judged, record-length}
use Rattle.answers.specs.Answers.{numbered, numbered_step}
use Rattle.answers.specs.Answers.{ticking_record, giving_up_record, arriving_record, adding_tickets, asking_tick_area, committing_area}
use Rattle.answers.specs.Kept.{RecordStepKept, AskAreaKept}
use Rattle.answers.specs.Demand1.{TicketsAreaAnswers, AskAreaAnswers, CommitAreaAnswers, TicketedAreaAnswers}
use Rattle.answers.proofs.Numbers.{all_listed, has_number, refused-in, first-in, answers-as, answers, not_done, step-number}
use Rattle.answers.proofs.Outcomes.{Still, Step, refuses}
use Rattle.answers.proofs.Replica.{tick-outcome, give-up-outcome, arrive-outcome}
use Rattle.answers.proofs.Asks.{ask-outcome}

-- ---- tickets for a record

module _ (replica area : List ℕ) where
  tickets-in : In (numbered (tickets_refusal replica (length area))) adding_tickets
  unfolding tickets_refusal
  tickets-in = first-in adding_tickets (inl refl) _ tt

  nothing-added : (tickets_refusal replica (length area) ≡ 0 → ⊥) → with_tickets replica (length area) ≡ []
  unfolding with_tickets
  nothing-added z = pick-false _ _ _ (ne_eqb (tickets_refusal replica (length area)) 0 z)

  pub tickets-area-answers : TicketsAreaAnswers replica area
  tickets-area-answers r area' e same =
      answers adding_tickets tt r (tickets_refusal replica (length area)) e tickets-in (area' ≡ area)
      (λ z. same ∙ ap (λ b. over b area) (nothing-added z))

-- ---- commits

module _ (replica : List ℕ) (ticket : ℕ) where
  committing-in : In (numbered (committing_refusal replica ticket)) committing_area
  unfolding committing_refusal
  committing-in = first-in committing_area (inl refl) _ tt

  not-committed : (committing_refusal replica ticket ≡ 0 → ⊥) → committing replica ticket ≡ replica
  unfolding committing
  not-committed z = pick-false _ _ _ (ne_eqb (committing_refusal replica ticket) 0 z)

  pub commit-area-answers : CommitAreaAnswers replica ticket
  commit-area-answers r replica' e same =
      answers committing_area tt r (committing_refusal replica ticket) e committing-in (replica' ≡ replica) (λ z. same ∙ not-committed z)

-- ---- at the replica in the area

module _ (possible : List Answered) (t : T (all_listed possible)) (done : In Done possible) (fifteen : T (has_number possible 15)) (b : List ℕ) where
  abbrev x : Replica
  x = (ticketed_in b).replica

  -- the settings in it are not refused
  stands : is_ticketed b ≡ true → settings_refusal x.settings ≡ 0
  unfolding ticketed_in
  stands e = record-stands (record_of b) (judged b e).stored

  settings-in : is_ticketed b ≡ true → In (numbered (settings_refusal x.settings)) possible
  unfolding pick
  settings-in e = subst (λ number. In (numbered number) possible) (sym (stands e)) done

  -- of what recording refuses only 5 is left
  recording-in : (area : ℕ) → T (has_number possible 5) → is_ticketed b ≡ true → In (numbered (record_refusal x.settings area)) possible
  unfolding pick
  recording-in area five e = by (ltb area record_length) refl
    where
      by : (c : Bool) → ltb area record_length ≡ c → In (numbered (record_refusal x.settings area)) possible
      by true short = subst (λ number. In (numbered number) possible) (refused-short x.settings area (stands e) short) (refused-in possible 5 five)
      by false long = subst (λ number. In (numbered number) possible) (not-refused x.settings area (stands e) long) done

  -- 15, and else the ask
  asked-at : (area : ℕ) (event : Replica → Outcomes) → In Ignored possible → T (has_number possible 5)
      → (In (numbered (settings_refusal x.settings)) possible → Step possible (held_in x.held) (event x))
      → Step possible (held_in x.held) (ask_at b area event)
  unfolding ask_at
  asked-at area event ignored five a =
      pick-holds (Step possible (held_in x.held)) (is_ticketed b) _ _
      (λ e. ask-outcome possible t (ticketed_in b) area (event x) ignored (recording-in area five e) (a (settings-in e)))
      (λ _. refuses possible t (held_in x.held) 15 (refused-in possible 15 fifteen))

  -- 15, and else the step
  stepped-at : (event : Replica → Outcomes) → (In (numbered (settings_refusal x.settings)) possible → Step possible (held_in x.held) (event x))
      → Step possible (held_in x.held) (step_at b event)
  unfolding step_at
  stepped-at event a =
      pick-holds (Step possible (held_in x.held)) (is_ticketed b) _ _ (λ e. a (settings-in e))
      (λ _. refuses possible t (held_in x.held) 15 (refused-in possible 15 fifteen))

  -- ---- what the calls leave

  -- no ask touches the record
  record-stays : (o : Outcomes) (area : ℕ) → record_of (asked_area b o area) ≡ record_of b
  unfolding asked_area
  record-stays o area =
      pick-holds (λ (l : List ℕ). record_of l ≡ record_of b) (is_ticketed b) _ _
      (λ e. ap (λ (k : ℕ). take k (record_of b ++ ticket_bytes (tickets_after b o area))) (sym (record-length (record_of b) (judged b e).stored))
      ∙ take-append_seam (record_of b) (ticket_bytes (tickets_after b o area)))
      (λ _. refl)

  ask-area-answers : (o : Outcomes) (area frame command : List ℕ) → Step possible (held_in x.held) o → AskAreaAnswers possible b o area frame command
  unfolding asked_record
  ask-area-answers o area frame command a r b' lengths ticket area' frame' command' g =
      answers-as possible t (numbered_step r) o.answer (ap numbered_step g.answer ∙ step-number o.answer a.listed) a.among
      (AskAreaKept b b' lengths area area' frame frame' command command') (λ n. still n (a.kept n))
    where
      still : o.answer ≢ Done → Still (held_in x.held) o → AskAreaKept b b' lengths area area' frame frame' command command'
      still n k = record {
        replica = ap record_of g.replica ∙ record-stays o (length area);
        lent-area = g.record-bytes ∙ ap (λ l. over l area) (pick-false _ _ _ (not_done o.answer n));
        frame-area = g.frame-bytes ∙ ap (λ m. over (sent_bytes x.settings.law.n x.settings.law.m m) frame) k.sent;
        command-area = g.command-bytes ∙ ap (λ c. over (issued_bytes x.settings.law.p c) command) k.command;
        no_bytes =
            g.written
            ∙ (λ i. length (sent_bytes x.settings.law.n x.settings.law.m (k.sent i)) ∷ length (issued_bytes x.settings.law.p (k.command i)) ∷ []);
      }

  ticketed-area-answers : (o : Outcomes) (frame command : List ℕ) → Step possible (held_in x.held) o → TicketedAreaAnswers possible b o frame command
  unfolding stepped_area
  ticketed-area-answers o frame command a r b' lengths frame' command' g =
      answers-as possible t (numbered_step r) o.answer (ap numbered_step g.answer ∙ step-number o.answer a.listed) a.among
      (RecordStepKept b b' lengths frame frame' command command') (λ n. still n (a.kept n))
    where
      still : o.answer ≢ Done → Still (held_in x.held) o → RecordStepKept b b' lengths frame frame' command command'
      still n k = record {
        replica = g.replica ∙ pick-false _ _ _ (not_done o.answer n);
        frame-area = g.frame-bytes ∙ ap (λ m. over (sent_bytes x.settings.law.n x.settings.law.m m) frame) k.sent;
        command-area = g.command-bytes ∙ ap (λ c. over (issued_bytes x.settings.law.p c) command) k.command;
        no_bytes =
            g.written
            ∙ (λ i. length (sent_bytes x.settings.law.n x.settings.law.m (k.sent i)) ∷ length (issued_bytes x.settings.law.p (k.command i)) ∷ []);
      }

-- ---- asks

module _ (b area frame command : List ℕ) where
  pub ask-tick-area-answers : (y : Readings)
      → AskAreaAnswers asking_tick_area b (ask_at b (length area) (λ x. tick_outcome x y (length frame) (length command))) area frame command
  ask-tick-area-answers y =
      ask-area-answers asking_tick_area tt (inl refl) tt b _ area frame command
      (asked-at asking_tick_area tt (inl refl) tt b (length area) (λ x. tick_outcome x y (length frame) (length command)) (inr (inl refl)) tt
      (λ four. tick-outcome asking_tick_area tt (inl refl) (ticketed_in b).replica tt four (length frame) (length command) tt tt tt y))

  pub ask-give-up-area-answers : AskAreaAnswers giving_up_record b (ask_at b (length area) (λ x. give_up_outcome x (length frame) (length command))) area frame command
  ask-give-up-area-answers =
      ask-area-answers giving_up_record tt (inl refl) tt b _ area frame command
      (asked-at giving_up_record tt (inl refl) tt b (length area) (λ x. give_up_outcome x (length frame) (length command)) (inr (inl refl)) tt
      (λ four. give-up-outcome giving_up_record tt (inl refl) (ticketed_in b).replica tt four (length frame) (length command) (inr (inl refl)) tt))

  pub ask-arrive-area-answers : (bytes : List ℕ)
      → AskAreaAnswers arriving_record b (ask_at b (length area) (λ x. arrive_outcome x bytes (length frame) (length command))) area frame command
  ask-arrive-area-answers bytes =
      ask-area-answers arriving_record tt (inl refl) tt b _ area frame command
      (asked-at arriving_record tt (inl refl) tt b (length area) (λ x. arrive_outcome x bytes (length frame) (length command)) (inr (inl refl)) tt
      (λ four. arrive-outcome arriving_record tt (inl refl) (ticketed_in b).replica tt four (length frame) (length command) (inr (inl refl)) tt tt tt tt bytes))

-- ---- steps that were not asked

module _ (b frame command : List ℕ) where
  pub ticketed-tick-area-answers : (y : Readings)
      → TicketedAreaAnswers ticking_record b (step_at b (λ x. tick_outcome x y (length frame) (length command))) frame command
  ticketed-tick-area-answers y =
      ticketed-area-answers ticking_record tt (inl refl) tt b _ frame command
      (stepped-at ticking_record tt (inl refl) tt b (λ x. tick_outcome x y (length frame) (length command))
      (λ four. tick-outcome ticking_record tt (inl refl) (ticketed_in b).replica tt four (length frame) (length command) tt tt tt y))

  pub ticketed-give-up-area-answers : TicketedAreaAnswers giving_up_record b (step_at b (λ x. give_up_outcome x (length frame) (length command))) frame command
  ticketed-give-up-area-answers =
      ticketed-area-answers giving_up_record tt (inl refl) tt b _ frame command
      (stepped-at giving_up_record tt (inl refl) tt b (λ x. give_up_outcome x (length frame) (length command))
      (λ four. give-up-outcome giving_up_record tt (inl refl) (ticketed_in b).replica tt four (length frame) (length command) (inr (inl refl)) tt))

  pub ticketed-arrive-area-answers : (bytes : List ℕ)
      → TicketedAreaAnswers arriving_record b (step_at b (λ x. arrive_outcome x bytes (length frame) (length command))) frame command
  ticketed-arrive-area-answers bytes =
      ticketed-area-answers arriving_record tt (inl refl) tt b _ frame command
      (stepped-at arriving_record tt (inl refl) tt b (λ x. arrive_outcome x bytes (length frame) (length command))
      (λ four. arrive-outcome arriving_record tt (inl refl) (ticketed_in b).replica tt four (length frame) (length command) (inr (inl refl)) tt tt tt tt bytes))
