-- What the law's calls answer and leave, in Rattle and for C programs. Assumes nothing.
use Rattle.std.specs.Prelude.{ℕ, List, ℤ, ◌≡◌, IsErr, refl}
use Rattle.std.proofs.Common.{sym, ◌∙◌, inl}
use Rattle.readings.specs.declared.Readings.{Readings}
use Rattle.refusal.specs.Numbers.{number_of}
use Rattle.scram.specs.History.{In}
use Rattle.law.specs.declared.Settings.{Settings}
use Rattle.law.specs.Settings.{refusals, refusal}
use Rattle.law.specs.Law.{commanded}
use Rattle.law.proofs.Laws.{updated-refused}
use Rattle.winder.specs.LawAreas.{readings_of}
use Rattle.winder.proofs.Refused.{refused}
use Rattle.answers.specs.Answers.{numbered, using_law}
use Rattle.answers.specs.Demand1.{CheckAnswers, UpdateAnswers, CommandAnswers, UpdateAreaAnswers, CommandAreaAnswers}
use Rattle.answers.proofs.Numbers.{first-in, answers, none_numbered}

module _ (s : Settings) where
  law-in : In (numbered (refusal s)) using_law
  unfolding refusal refusals
  law-in = first-in using_law (inl refl) (refusals s) tt

  pub check-answers : CheckAnswers s
  check-answers r e = answers using_law tt (number_of r) (refusal s) e law-in (Unit {0}) (λ _. tt)

  pub update-answers : (x : List ℤ) (y : Readings) → UpdateAnswers s x y
  update-answers x y r e state mark = answers using_law tt (number_of r) (refusal s) e law-in (IsErr r) (none_numbered r (refusal s) e)

  pub commanded-answers : (x : List ℤ) → CommandAnswers s x
  commanded-answers x r e values mark = answers using_law tt (number_of r) (refusal s) e law-in (IsErr r) (none_numbered r (refusal s) e)

  pub update-area-answers : (present : List ℕ) (values state : List ℤ) (limited : ℕ) → UpdateAreaAnswers s present values state limited
  update-area-answers present values state limited r state' limited' e same mark =
      answers using_law tt r (refusal s) e law-in ((state' ≡ state) × (limited' ≡ limited))
      (λ n. (same ∙ sym (updated-refused s state (readings_of present values) n), mark ∙ sym (refused (refusal s) _ limited n)))

  pub command-area-answers : (state commands : List ℤ) (limited : ℕ) → CommandAreaAnswers s state commands limited
  command-area-answers state commands limited r commands' limited' e same mark =
      answers using_law tt r (refusal s) e law-in ((commands' ≡ commands) × (limited' ≡ limited))
      (λ n. (same ∙ sym (refused (refusal s) (commanded s state) commands n), mark ∙ sym (refused (refusal s) _ limited n)))
