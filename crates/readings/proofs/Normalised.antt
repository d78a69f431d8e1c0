-- Laws of `normalised` for callers: twice is once, and no mark is out of place. Assumes nothing.
use mathlib.Core.Path.{◌≡◌, refl, ap₂, ◌∙◌}
use mathlib.Core.Bool.{Bool, true, false}
use mathlib.Core.List.{List}
use Prim.Native.Nat.{ℕ, ◌<◌}
use lib.ListN.{length}
use lib.IntN.{ℤ, pos}
use Rattle.readings.specs.declared.Readings.{Readings}
use Rattle.lists.specs.Choice.{pick}
use Rattle.lists.specs.Places.{entry}
use Rattle.readings.specs.Readings.{present, value, normalised, no_readings}
use Rattle.lists.proofs.Choice.{pick-ok}
use Rattle.lists.proofs.Places.{filled_at, filled-length, filled-same, filled-each, filled-blank, blank-at}

module _ (m : ℕ) (y : Readings) where
  pub present-same : (j : ℕ) → j < m → j < 4 → present (normalised m y) j ≡ present y j
  unfolding normalised
  present-same j l k = filled_at false 4 m j (present y) l k

  read_twice : (b : Bool) (z : ℤ) → pick b (pick b z (pos 0)) (pos 0) ≡ pick b z (pos 0)
  unfolding pick
  read_twice true z = refl
  read_twice false z = refl

  pub value_same : (j : ℕ) → j < m → j < 4 → value (normalised m y) j ≡ value y j
  unfolding normalised
  value_same j l k =
      ap₂ (λ (b : Bool) (z : ℤ). pick b z (pos 0)) (filled_at false 4 m j (present y) l k) (filled_at (pos 0) 4 m j (value y) l k)
      ∙ read_twice (present y j) (entry y.values j)

  pub normalised-twice : normalised m (normalised m y) ≡ normalised m y
  unfolding normalised
  normalised-twice =
      ap₂ (λ (p : List Bool) (v : List ℤ). record { present = p; values = v })
      (filled-same false 4 m (present (normalised m y)) (present y) present-same)
      (filled-same (pos 0) 4 m (value (normalised m y)) (value y) value_same)

  pub normalised-marks : length (normalised m y).present ≡ 4
  unfolding normalised
  normalised-marks = filled-length false 4 m (present y)

  pub normalised-values : length (normalised m y).values ≡ 4
  unfolding normalised
  normalised-values = filled-length (pos 0) 4 m (value y)

  -- what holds of 0 and of each value given holds of each value read
  pub normalised-each {ℓ} : (P : ℤ → Type ℓ) → P (pos 0) → ((j : ℕ) → P (entry y.values j)) → (j : ℕ) → P (entry (normalised m y).values j)
  unfolding normalised
  normalised-each P z h j = filled-each (pos 0) P 4 m (value y) z (λ i. pick-ok P (present y i) (entry y.values i) (pos 0) (λ _. h i) (λ _. z)) j

-- no reading is read as no reading
pub normalised-none : (m : ℕ) → normalised m no_readings ≡ no_readings
unfolding normalised
normalised-none m =
    ap₂ (λ (p : List Bool) (v : List ℤ). record { present = p; values = v })
    (filled-same false 4 m _ (λ _. false) (λ j _ _. blank-at false 4 j) ∙ filled-blank false 4 m)
    (filled-same (pos 0) 4 m _ (λ _. pos 0) (λ j _ _. zero j) ∙ filled-blank (pos 0) 4 m)
  where
    zero : (j : ℕ) → value no_readings j ≡ pos 0
    zero j = pick-ok (λ (z : ℤ). z ≡ pos 0) (present no_readings j) _ _ (λ _. blank-at (pos 0) 4 j) (λ _. refl)
