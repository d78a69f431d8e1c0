-- Settings whose tables are lent one by one are refused as the settings themselves: the starting state is not looked at. And the law's refusals in the
-- place of another list. Assumes nothing.
use Rattle.std.proofs.Common.{◌≡◌, refl, sym, ◌∙◌, List, ◌++◌}
use Rattle.std.proofs.Math.Dec.{lit≤}
use Rattle.lists.specs.Refusals.{Refusal, first_of}
use Rattle.lists.proofs.Refusals.{refused-first, then-passed}
use Rattle.law.specs.declared.Settings.{Settings}
use Rattle.law.specs.Settings.{lent, refusals, refusal}

module _ (s : Settings) where
  pub refusal-lent : refusal (lent s) ≡ refusal s
  unfolding refusal refusals
  refusal-lent = refl

  -- the law's refusals, after others
  pub refusal-first : first_of (refusals s) ≡ refusal s
  unfolding refusal
  refusal-first = refl

  -- the law's refusals, before others: one of them is made, and comes first
  pub refusals-made : (more : List Refusal) → (refusal s ≡ 0 → ⊥) → first_of (refusals s ++ more) ≡ refusal s
  refusals-made more n = sym (refused-first (refusals s) more (λ z. n (sym refusal-first ∙ z))) ∙ refusal-first

  -- or none is, and the others decide
  pub refusals-passed : (more : List Refusal) → refusal s ≡ 0 → first_of (refusals s ++ more) ≡ first_of more
  unfolding refusals
  refusals-passed more e =
      then-passed 2 _ _ _ (lit≤ tt) (refusal-first ∙ e)
      (λ e. then-passed 3 _ _ _ (lit≤ tt) e
      (λ e. then-passed 4 _ _ _ (lit≤ tt) e (λ _. refl)))
