-- What `limits_change` tells: whether a number's limits give another one. Assumes nothing.
use Rattle.std.proofs.Common.{◌≡◌, refl, sym, subst, ◌∙◌, Bool, true, false, ◌||◌, arith, ℤ, pos, negsuc}
use Rattle.std.specs.Int.Signed.{lt_z}
use Rattle.std.proofs.lemmas.Bool.{ltb-true}
use Rattle.lists.proofs.Booleans.{never}
use Rattle.lists.proofs.Choice.{pick_true, pick-false}
use Rattle.law.specs.Fixed.{limited, limits_change}
use Rattle.law.specs.Limits.{Tells}

not-below-itself : (z : ℤ) → lt_z z z ≡ true → ⊥
not-below-itself (pos a) e = omega (arith, ltb-true a a e)
not-below-itself (negsuc a) e = omega (arith, ltb-true a a e)

module _ (lower upper z : ℤ) where
  below : lt_z z lower ≡ true → limited lower upper z ≡ lower
  unfolding limited
  below e = pick_true _ _ _ e

  above : lt_z z lower ≡ false → lt_z upper z ≡ true → limited lower upper z ≡ upper
  unfolding limited
  above e f = pick-false _ _ _ e ∙ pick_true _ _ _ f

  between : lt_z z lower ≡ false → lt_z upper z ≡ false → limited lower upper z ≡ z
  unfolding limited
  between e f = pick-false _ _ _ e ∙ pick-false _ _ _ f

  -- the three cases, with the mark that each has
  tells : (low high : Bool) → lt_z z lower ≡ low → lt_z upper z ≡ high → Tells lower upper z (low || high)
  tells true high e f = record {
    changed = λ _ same. not-below-itself z (subst (λ (l : ℤ). lt_z z l ≡ true) (sym (below e) ∙ same) e);
    unchanged = λ no. never (sym no);
  }
  tells false true e f = record {
    changed = λ _ same. not-below-itself z (subst (λ (h : ℤ). lt_z h z ≡ true) (sym (above e f) ∙ same) f);
    unchanged = λ no. never (sym no);
  }
  tells false false e f = record { changed = λ yes _. never yes; unchanged = λ _. between e f }

  pub changes-means : Tells lower upper z (limits_change lower upper z)
  unfolding limits_change
  changes-means = tells (lt_z z lower) (lt_z upper z) refl refl
