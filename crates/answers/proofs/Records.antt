-- What the record's calls answer and leave. Assumes nothing.
use Rattle.std.specs.Prelude.{ℕ, ◌≡◌, List, [], ◌∷◌, ◌++◌, length, IsErr, refl}
use Rattle.std.proofs.Common.{ap, ◌∙◌, inl}
use Rattle.lists.proofs.Choice.{pick-holds}
use Rattle.scram.specs.Answers.{Done, Refused, answered_of}
use Rattle.scram.specs.History.{In}
use Rattle.law.specs.Settings.{refusals}
use Rattle.octets.specs.Areas.{over}
use Rattle.replica.specs.declared.Settings.{Settings}
use Rattle.replica.specs.declared.Replica.{Replica}
use Rattle.replica.specs.Settings.{settings_refusals}
use Rattle.records.specs.Recording.{short_record, record_refusal, record_answer}
use Rattle.records.specs.Reading.{is_record, read_answer}
use Rattle.records.specs.Returning.{misses_too_many, stay_answer, return_refusal, return_answer}
use Rattle.records.proofs.Recorded.{record-refused}
use Rattle.answers.specs.Answers.{recording, reading_record, staying_up, returning}
use Rattle.answers.specs.Demand1.{RecordAnswers, ReadRecordAnswers, StayAnswers, ReturnAnswers}
use Rattle.answers.proofs.Numbers.{refused-in, first-in, answers-as, not-zero, none_given}

-- ---- recording

pub recording-in : (s : Settings) (area : ℕ) → In (record_answer s area) recording
unfolding record_refusal refusals
recording-in s area = first-in recording (inl refl) (settings_refusals s ++ (short_record area ∷ [])) tt

pub record-answers : (given : Replica) (area : List ℕ) → RecordAnswers given area
record-answers given area r area' e same =
    answers-as recording tt (answered_of r) (record_answer given.settings (length area)) e (recording-in given.settings (length area)) (area' ≡ area)
    (λ n. same ∙ ap (λ b. over b area) (record-refused given (length area) (not-zero _ n)).1)

-- ---- reading

module _ (bytes : List ℕ) where
  read-in : In (read_answer bytes) reading_record
  read-in = pick-holds (λ a. In a reading_record) (is_record bytes) Done (Refused 15) (λ _. inl refl) (λ _. refused-in reading_record 15 tt)

  pub read-record-answers : ReadRecordAnswers bytes
  read-record-answers r e replica =
      answers-as reading_record tt (answered_of r) (read_answer bytes) e read-in (IsErr r) (none_given r (read_answer bytes) e)

-- ---- staying up

module _ (missed : ℕ) (given : Replica) where
  stay-in : In (stay_answer missed given) staying_up
  stay-in = pick-holds (λ a. In a staying_up) (misses_too_many missed given) (Refused 16) Done (λ _. refused-in staying_up 16 tt) (λ _. inl refl)

  pub stay-answers : StayAnswers missed given
  stay-answers r e replica =
      answers-as staying_up tt (answered_of r) (stay_answer missed given) e stay-in (IsErr r) (none_given r (stay_answer missed given) e)

-- ---- returning

module _ (missed : ℕ) (bytes : List ℕ) where
  return-in : In (return_answer missed bytes) returning
  unfolding return_refusal
  return-in = first-in returning (inl refl) _ tt

  pub return-answers : ReturnAnswers missed bytes
  return-answers r e replica =
      answers-as returning tt (answered_of r) (return_answer missed bytes) e return-in (IsErr r) (none_given r (return_answer missed bytes) e)
