-- Laws of the first line of `rig`: small products, and sizes in range. Assumes nothing.
use Rattle.std.proofs.Common.{◌≡◌, refl, sym, Bool, true, false, not, ◌||◌, ℕ, ◌*◌, ◌≤◌, eqb, leb, ltb, Option, Some, None, is_some}
use native.Mathlib.Nat.{mul-le-mul}
use borrow.Author.Tests.{ltb-false, leb-true}
use Rattle.std.proofs.lemmas.Option.{none-some}
use Rattle.refusal.specs.declared.Refusal.{Refusal}
use Rattle.refusal.specs.declared.Refusal.TheVariants as Ground
use Rattle.lists.specs.Choice.{pick}
use Rattle.lists.proofs.Booleans.{both, never}
use Rattle.opening.specs.declared.Sizes.{Sizes}
use Rattle.opening.specs.Opening.{from_one, sizes_refusal}

-- a table has at most 36 entries
pub small : (rows columns : ℕ) → rows ≤ 6 → columns ≤ 6 → rows * columns ≤ 36
small rows columns h k = mul-le-mul h k

-- ---- sizes

-- nothing is refused
pub not-some : {A : Type 0} (o : Option A) → is_some o ≡ false → o ≡ None
not-some None e = refl
not-some (Some x) e = never (sym e)

-- sizes that are not refused
pub record InRange (s : Sizes) : Type 0 where
  pub three : 3 ≤ s.boxes
  pub boxes : s.boxes ≤ 9
  pub n : s.n ≤ 6
  pub m : s.m ≤ 4
  pub p : s.p ≤ 4

not-refused : (a b t : Bool) → ◌≡◌ {A = Option Refusal} (pick (a || b) (Some Ground.Group) (pick t None (Some Ground.Sizes))) None
    → (a ≡ false) × (b ≡ false) × (t ≡ true)
unfolding pick
not-refused true b t e = absurd (none-some Ground.Group (sym e))
not-refused false true t e = absurd (none-some Ground.Group (sym e))
not-refused false false true e = (refl, refl, refl)
not-refused false false false e = absurd (none-some Ground.Sizes (sym e))

at_most : (size most : ℕ) → from_one size most ≡ true → size ≤ most
unfolding from_one
at_most size most e = leb-true size most (both (not (eqb size 0)) (leb size most) e).1

pub in-range : (s : Sizes) → sizes_refusal s ≡ None → InRange s
unfolding sizes_refusal pick
in-range s e =
    let r = not-refused (ltb s.boxes 3) (ltb 9 s.boxes) _ e in
    let q = both (from_one s.n 6) _ r.2 in
    let t = both (from_one s.m 4) _ q.1 in
    record {
      three = ltb-false s.boxes 3 r.0;
      boxes = ltb-false 9 s.boxes r.1;
      n = at_most s.n 6 q.0;
      m = at_most s.m 4 t.0;
      p = at_most s.p 4 t.1;
    }
