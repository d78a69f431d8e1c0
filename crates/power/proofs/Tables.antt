-- Laws of tables with one place changed. Assumes nothing.
use mathlib.Core.Path.{◌≡◌, refl, sym, ap, ◌∙◌}
use mathlib.Core.Logic.{◌⊎◌, inl, inr, ◌≢◌}
use mathlib.Core.Bool.{Bool, true, false, not}
use Prim.Native.Nat.{ℕ, ◌<◌}
use native.Mathlib.Omega.{arith}
use lib.Dec.{T, not_T, eqb, eqb→eq, eqb_refl}
use Rattle.lists.proofs.Booleans.{eqb_no}
use Rattle.lists.proofs.Choice.{pick-ok}
use Rattle.power.specs.Demand3.{put}
use Rattle.power.proofs.Plain.{pick_yes, pick_no}

-- two numbers are equal, or not
pub same_or_not : (a b : ℕ) → (a ≡ b) ⊎ (a ≢ b)
same_or_not a b = go (eqb a b) (eqb→eq a b) (eqb_no a b)
  where
    go : (c : Bool) → (T c → a ≡ b) → (T (not c) → a ≢ b) → (a ≡ b) ⊎ (a ≢ b)
    go true f g = inl (f tt)
    go false f g = inr (g tt)

-- the place that was changed, and any other
pub put-own : {A : Type 0} (f : ℕ → A) (i : ℕ) (x : A) → put f i x i ≡ x
put-own f i x = pick_yes (eqb i i) x (f i) (eqb_refl i)

pub put_other : {A : Type 0} (f : ℕ → A) (i : ℕ) (x : A) (j : ℕ) → j ≢ i → put f i x j ≡ f j
put_other f i x j ne = pick_no (eqb j i) x (f j) (not_T (eqb j i) (λ t. ne (eqb→eq j i t)))

-- what stands there is put where it stands, once and twice
pub put_same : {A : Type 0} (f : ℕ → A) (i j : ℕ) → put f i (f i) j ≡ f j
put_same f i j = pick-ok (λ z. z ≡ f j) (eqb j i) (f i) (f j) (λ t. ap f (sym (eqb→eq j i t))) (λ _. refl)

pub put-same-twice : {A : Type 0} (f : ℕ → A) (i j : ℕ) (x : A) → x ≡ f i → put (put f i (f i)) i x j ≡ f j
put-same-twice f i j x e =
    pick-ok (λ z. z ≡ f j) (eqb j i) x (put f i (f i) j) (λ t. e ∙ ap f (sym (eqb→eq j i t))) (λ _. put_same f i j)

-- the places after the one changed
pub put-before : {A : Type 0} (f : ℕ → A) (n : ℕ) (x : A) (k : ℕ) → n < k → put f n x k ≡ f k
put-before f n x k lt = put_other f n x k (λ e. absurd (omega arith))

-- one table is another one, but that x stands at place i
pub record Changed {A : Type 0} (f f' : ℕ → A) (i : ℕ) (x : A) : Type 0 where
  pub own : f' i ≡ x
  pub others : (j : ℕ) → j ≢ i → f' j ≡ f j

pub as_it_was : {A : Type 0} (f : ℕ → A) (i : ℕ) → Changed f f i (f i)
as_it_was f i = record { own = refl; others = λ j _. refl }

pub put-changed : {A : Type 0} (f : ℕ → A) (i : ℕ) (x : A) → Changed f (put f i x) i x
put-changed f i x = record { own = put-own f i x; others = put_other f i x }

pub put-again : {A : Type 0} (f : ℕ → A) (i : ℕ) (x y : A) → Changed (put f i x) (put f i y) i y
put-again f i x y = record { own = put-own f i y; others = λ j ne. put_other f i y j ne ∙ sym (put_other f i x j ne) }
