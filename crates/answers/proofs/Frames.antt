-- What the frames' calls answer and leave, in Rattle and for C programs. Assumes nothing.
use Rattle.std.specs.Prelude.{◌≡◌, refl, Bool, List, [], ℕ, T, length, ℤ, IsErr}
use Rattle.std.proofs.Common.{sym, ap, ◌∙◌, inl}
use Rattle.refusal.specs.Numbers.{number_of}
use Rattle.scram.specs.Answers.{Answered}
use Rattle.scram.specs.History.{In}
use Rattle.octets.specs.Areas.{over}
use Rattle.frame.specs.declared.Frame.{Frame}
use Rattle.frame.specs.Reading.{read_refusal}
use Rattle.frame.specs.Writing.{write_refusal, written}
use Rattle.frame.specs.Command.{command_refusal, command_written}
use Rattle.frame.specs.CommandReading.{read_command_refusal}
use Rattle.frame.proofs.Refusals.{nothing_written, no-command}
use Rattle.winder.specs.Areas.{unless_refused}
use Rattle.winder.proofs.Refused.{refused}
use Rattle.answers.specs.Answers.{numbered, reading, writing, writing_command}
use Rattle.answers.specs.Kept.{WriteKept, FrameAreas, CommandAreas, WriteAreas}
use Rattle.answers.specs.Demand1.{ReadAnswers, ReadCommandAnswers, WriteAnswers, ReadAreaAnswers, ReadCommandAreaAnswers, WriteAreaAnswers}
use Rattle.answers.proofs.Numbers.{all_listed, first-in, answers, positive, none_numbered}

-- an area of a refused call
left : {A : Type 0} (number : ℕ) (area' given held : A) → (number ≡ 0 → ⊥) → area' ≡ unless_refused number given held → area' ≡ held
left number area' given held z e = e ∙ sym (refused number given held z)

-- ---- reading

module _ (n m : ℕ) (bytes : List ℕ) where
  reading-in : In (numbered (read_refusal n m bytes)) reading
  unfolding read_refusal
  reading-in = first-in reading (inl refl) _ tt

  pub read-answers : ReadAnswers n m bytes
  read-answers r e frame =
      answers reading tt (number_of r) (read_refusal n m bytes) e reading-in (IsErr r) (none_numbered r (read_refusal n m bytes) e)

  pub read-area-answers : (areas : FrameAreas) → ReadAreaAnswers n m bytes areas
  read-area-answers areas r areas' e kind_and_sender counters state present values =
      answers reading tt r (read_refusal n m bytes) e reading-in (areas' ≡ areas)
      (λ z i. record {
        kind_and_sender = left _ _ _ _ z kind_and_sender i;
        counters = left _ _ _ _ z counters i;
        state = left _ _ _ _ z state i;
        present = left _ _ _ _ z present i;
        values = left _ _ _ _ z values i;
      })

module _ (p : ℕ) (bytes : List ℕ) where
  reading-command-in : In (numbered (read_command_refusal p bytes)) reading
  unfolding read_command_refusal
  reading-command-in = first-in reading (inl refl) _ tt

  pub read-command-answers : ReadCommandAnswers p bytes
  read-command-answers r e command =
      answers reading tt (number_of r) (read_command_refusal p bytes) e reading-command-in (IsErr r) (none_numbered r (read_command_refusal p bytes) e)

  pub read-command-area-answers : (areas : CommandAreas) → ReadCommandAreaAnswers p bytes areas
  read-command-area-answers areas r areas' e period commands limited =
      answers reading tt r (read_command_refusal p bytes) e reading-command-in (areas' ≡ areas)
      (λ z i. record { period = left _ _ _ _ z period i; commands = left _ _ _ _ z commands i; limited = left _ _ _ _ z limited i })

-- ---- writing

-- a call that writes nothing where it is refused
pub write-answers-of : (possible : List Answered) → T (all_listed possible) → (refused : ℕ) → In (numbered refused) possible
    → (bytes area : List ℕ) → ((refused ≡ 0 → ⊥) → bytes ≡ []) → WriteAnswers possible refused bytes area
write-answers-of possible t refused i bytes area nothing r area' e count same =
    answers possible t (number_of r) refused e i (WriteKept r area area')
    (λ z. record { lent-area = same ∙ ap (λ b. over b area) (nothing z); no_bytes = none_numbered r refused e z })

module _ (n m : ℕ) (f : Frame) (area : List ℕ) where
  writing-in : In (numbered (write_refusal n m f area)) writing
  unfolding write_refusal
  writing-in = first-in writing (inl refl) _ tt

  pub write-answers : WriteAnswers writing (write_refusal n m f area) (written n m f area) area
  write-answers = write-answers-of writing tt (write_refusal n m f area) writing-in (written n m f area) area
      (λ z. nothing_written n m f area _ (positive _ z))

pub write-area-answers : (n m : ℕ) (f : Frame) (areas : WriteAreas) → WriteAreaAnswers n m f areas
write-area-answers n m f areas r areas' e area count =
    answers writing tt r (write_refusal n m f areas.area) e (writing-in n m f areas.area) (areas' ≡ areas)
    (λ z i. record {
      area = (area ∙ ap (λ b. over b areas.area) (nothing_written n m f areas.area _ (positive _ z))) i;
      length = (count ∙ sym (refused (write_refusal n m f areas.area) (length (written n m f areas.area)) areas.length z)) i;
    })

module _ (p period : ℕ) (values : List ℤ) (limited : Bool) (area : List ℕ) where
  command-in : In (numbered (command_refusal p area)) writing_command
  unfolding command_refusal
  command-in = first-in writing_command (inl refl) _ tt

  pub write-command-answers : WriteAnswers writing_command (command_refusal p area) (command_written p period values limited area) area
  write-command-answers =
      write-answers-of writing_command tt (command_refusal p area) command-in (command_written p period values limited area) area
      (λ z. no-command p area period values limited _ (positive _ z))
