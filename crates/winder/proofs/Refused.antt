-- Laws of `unless_refused`. Assumes nothing.
use mathlib.Core.Path.{◌≡◌, sym}
use Prim.Native.Nat.{ℕ}
use lib.Dec.{eqb}
use borrow.Author.Tests.{eq-eqb, ne_eqb}
use Rattle.lists.proofs.Choice.{pick_true, pick-false}
use Rattle.winder.specs.Areas.{unless_refused}

pub done : {A : Type 0} (number : ℕ) (given held : A) → number ≡ 0 → given ≡ unless_refused number given held
unfolding unless_refused
done number given held h = sym (pick_true (eqb number 0) given held (eq-eqb number 0 h))

pub refused : {A : Type 0} (number : ℕ) (given held : A) → (number ≡ 0 → ⊥) → held ≡ unless_refused number given held
unfolding unless_refused
refused number given held h = sym (pick-false (eqb number 0) given held (ne_eqb number 0 h))
