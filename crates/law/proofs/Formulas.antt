-- Laws of the formulas: they look at the places in use alone, and at readings as `normalised` has them. Assumes nothing.
use Rattle.std.proofs.Common.{◌≡◌, refl, ap, ◌∙◌, Bool, ◌&&◌, List, ℕ, ◌≤◌, ◌<◌, ℤ, pos, ◌-ℤ◌, ◌*ℤ◌}
use Rattle.std.proofs.Math.Path.{ap₂, fun_ext}
use Rattle.std.proofs.Math.Nat.{lt_of_lt_of_le}
use Rattle.readings.specs.declared.Readings.{Readings}
use Rattle.lists.specs.Choice.{pick}
use Rattle.lists.specs.Places.{entry, filled}
use Rattle.lists.proofs.Places.{filled_at}
use Rattle.readings.specs.Readings.{normalised}
use Rattle.readings.proofs.Normalised.{present-same, value_same}
use Rattle.law.specs.Fixed.{divided, sum, clamp, clamp_changes}
use Rattle.law.specs.Law.{e, e_changed, next, next_changed}
use Rattle.law.proofs.Sums.{sum_same}

-- equal in the first n places
abbrev pub Agree : {X : Type 0} → ℕ → (ℕ → X) → (ℕ → X) → Type 0
Agree n f g = (i : ℕ) → i < n → f i ≡ g i

products-same : (n : ℕ) (row f g : ℕ → ℤ) → Agree n f g → sum n (λ i. row i *ℤ f i) ≡ sum n (λ i. row i *ℤ g i)
products-same n row f g h = sum_same n (λ i. row i *ℤ f i) (λ i. row i *ℤ g i) (λ i l. ap (λ (z : ℤ). row i *ℤ z) (h i l))

pub next-same : (A L : ℕ → ℕ → ℤ) (n m : ℕ) (x x' : List ℤ) (f g : ℕ → ℤ) → Agree n (entry x) (entry x') → Agree m f g → next A L n m x f ≡ next A L n m x' g
unfolding next
next-same A L n m x x' f g hx he = fun_ext (λ i. rw (products-same n (A i) (entry x) (entry x'), products-same m (L i) f g))

pub next-changed-same : (A L : ℕ → ℕ → ℤ) (n m : ℕ) (x : List ℤ) (f g : ℕ → ℤ) → Agree m f g → next_changed A L n m x f ≡ next_changed A L n m x g
unfolding next_changed
next-changed-same A L n m x f g h = fun_ext (λ i. rw (products-same m (L i) f g h))

-- e(j) kept in a list of four places
module _ (A L : ℕ → ℕ → ℤ) (n m : ℕ) (x : List ℤ) (f : ℕ → ℤ) (kept : List ℤ) (h : m ≤ 4) (same : kept ≡ filled (pos 0) 4 m f) where
  kept-agrees : Agree m (entry kept) f
  kept-agrees j l = ap (λ (r : List ℤ). entry r j) same ∙ filled_at (pos 0) 4 m j f l (lt_of_lt_of_le l h)

  pub next-filled : next A L n m x (entry kept) ≡ next A L n m x f
  next-filled = next-same A L n m x x (entry kept) f (λ _ _. refl) kept-agrees

  pub changed-filled : next_changed A L n m x (entry kept) ≡ next_changed A L n m x f
  changed-filled = next-changed-same A L n m x (entry kept) f kept-agrees

pub e-normalised : (C : ℕ → ℕ → ℤ) (n m : ℕ) (x : List ℤ) (y : Readings) → m ≤ 4 → Agree m (e C n x (normalised m y)) (e C n x y)
unfolding e
e-normalised C n m x y h j l =
    let q = divided (sum n (λ i. C j i *ℤ entry x i)) in
    let inside : j < 4 = lt_of_lt_of_le l h in
    ap₂ (λ (mark : Bool) (v : ℤ). pick mark (clamp (v -ℤ q)) (pos 0)) (present-same m y j l inside) (value_same m y j l inside)

pub e-changed-normalised : (C : ℕ → ℕ → ℤ) (n m : ℕ) (x : List ℤ) (y : Readings) → m ≤ 4 → Agree m (e_changed C n x (normalised m y)) (e_changed C n x y)
unfolding e_changed
e-changed-normalised C n m x y h j l =
    let q = divided (sum n (λ i. C j i *ℤ entry x i)) in
    let inside : j < 4 = lt_of_lt_of_le l h in
    ap₂ (λ (mark : Bool) (v : ℤ). mark && clamp_changes (v -ℤ q)) (present-same m y j l inside) (value_same m y j l inside)
