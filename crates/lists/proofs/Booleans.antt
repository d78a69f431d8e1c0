-- Laws of tests: what a test that holds, or does not, tells. `T b` says that b holds. Assumes nothing.
use mathlib.Core.Path.{◌≡◌, refl}
use mathlib.Core.Logic.{◌⊎◌, inl, inr, ◌≢◌}
use mathlib.Core.Bool.{Bool, true, false, not, ◌&&◌, ◌||◌, false≢true}
use Prim.Native.Nat.{ℕ}
use lib.Dec.{T, T_not, eqb, eqb_refl}

pub and_left : (a b : Bool) → T (a && b) → T a
and_left true b t = tt
and_left false b t = t

pub and_right : (a b : Bool) → T (a && b) → T b
and_right true b t = t
and_right false b t = absurd t

pub or_cases : (a b : Bool) → T (a || b) → T a ⊎ T b
or_cases true b t = inl tt
or_cases false b t = inr t

pub nor-left : (a b : Bool) → T (not (a || b)) → T (not a)
nor-left true b t = t
nor-left false b t = tt

pub nor-right : (a b : Bool) → T (not (a || b)) → T (not b)
nor-right true b t = absurd t
nor-right false b t = t

pub nand-right : (a b : Bool) → T (not (a && b)) → T a → T (not b)
nand-right true b t u = t
nand-right false b t u = absurd u

pub not-not : (b : Bool) → T (not (not b)) → T b
not-not true t = tt
not-not false t = t

pub is_true : (b : Bool) → T b → b ≡ true
is_true true t = refl
is_true false t = absurd t

pub is_false : (b : Bool) → T (not b) → b ≡ false
is_false true t = absurd t
is_false false t = refl

pub eqb_no : (a b : ℕ) → T (not (eqb a b)) → a ≢ b
eqb_no a b t e = T_not (eqb a b) t (rw e (eqb_refl b))

-- ---- the same as equations

pub never : {X : Type 0} → false ≡ true → X
never e = absurd (false≢true e)

pub both : (a b : Bool) → (a && b) ≡ true → (a ≡ true) × (b ≡ true)
both true b e = (refl, e)
both false b e = never e

pub or-true : (a : Bool) → (a || true) ≡ true
or-true true = refl
or-true false = refl

pub second-fails : (a b : Bool) → b ≡ false → (a && b) ≡ false
second-fails true b e = e
second-fails false b e = refl
