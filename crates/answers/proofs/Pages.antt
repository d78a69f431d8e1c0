-- What the shift page's calls answer and leave, in Rattle and for C programs. Assumes nothing.
use Rattle.std.specs.Prelude.{◌≡◌, refl, List, [], ℕ, length, IsErr}
use Rattle.std.proofs.Common.{sym, ap, ◌∙◌, inl}
use Rattle.refusal.specs.Numbers.{number_of}
use Rattle.scram.specs.History.{In}
use Rattle.octets.specs.Areas.{over}
use Rattle.pages.specs.declared.entries.Entry.{Entry}
use Rattle.pages.specs.Writing.{write_refusal, written}
use Rattle.pages.specs.Reading.{read_refusal}
use Rattle.pages.proofs.WritingLaws.{nothing_written}
use Rattle.winder.proofs.Refused.{refused}
use Rattle.answers.specs.Answers.{numbered, writing_page, reading_page}
use Rattle.answers.specs.Kept.{WriteAreas}
use Rattle.answers.specs.Demand1.{WritePageAnswers, ReadPageAnswers, WritePageAreaAnswers}
use Rattle.answers.proofs.Numbers.{first-in, answers, positive, none_numbered}
use Rattle.answers.proofs.Frames.{write-answers-of}

module _ (p : ℕ) (entries : List Entry) (area : List ℕ) where
  writing-in : In (numbered (write_refusal p entries area)) writing_page
  unfolding write_refusal
  writing-in = first-in writing_page (inl refl) _ tt

  nothing : (write_refusal p entries area ≡ 0 → ⊥) → written p entries area ≡ []
  nothing z = nothing_written p entries area _ (positive _ z)

  pub write-page-answers : WritePageAnswers p entries area
  write-page-answers = write-answers-of writing_page tt (write_refusal p entries area) writing-in (written p entries area) area nothing

pub write-page-area-answers : (p : ℕ) (entries : List Entry) (areas : WriteAreas) → WritePageAreaAnswers p entries areas
write-page-area-answers p entries areas r areas' e area count =
    answers writing_page tt r (write_refusal p entries areas.area) e (writing-in p entries areas.area) (areas' ≡ areas)
    (λ z i. record {
      area = (area ∙ ap (λ b. over b areas.area) (nothing p entries areas.area z)) i;
      length = (count ∙ sym (refused (write_refusal p entries areas.area) (length (written p entries areas.area)) areas.length z)) i;
    })

module _ (p : ℕ) (bytes : List ℕ) where
  reading-in : In (numbered (read_refusal p bytes)) reading_page
  unfolding read_refusal
  reading-in = first-in reading_page (inl refl) _ tt

  pub read-page-answers : ReadPageAnswers p bytes
  read-page-answers r e page =
      answers reading_page tt (number_of r) (read_refusal p bytes) e reading-in (IsErr r) (none_numbered r (read_refusal p bytes) e)
