-- Laws of `converted_row`: a row is its four places, and its values are i32 where the counts handed are. Assumes nothing.
use mathlib.Core.Path.{◌≡◌, refl, sym, ap, ◌∙◌}
use mathlib.Core.Bool.{Bool, true, false, ◌||◌}
use mathlib.Core.List.{List, [], ◌∷◌}
use Rattle.std.specs.Prelude.{Option, Some, is_some, unwrap_or, map}
use Rattle.std.specs.Fn.{Mut, Called}
use Rattle.std.specs.Array.{IsMapOf}
use Rattle.std.proofs.lemmas.List.{ext_get_or, length-map, get_or-map}
use Rattle.std.proofs.lemmas.Simd.{map-map}
use native.Mathlib.Omega.{arith}
use Prim.Native.Nat.{ℕ, zero, suc}
use lib.Dec.{lit<}
use lib.IntN.{ℤ, pos, negsuc}
use lib.Ieee.{Float}
use lib.ListN.{length}
use lib.Signed.{lt_z}
use mir.Syntax.{w32}
use mir.Val.{SFits}
use Rattle.lists.specs.I32.{AllI32}
use Rattle.lists.specs.Choice.{pick}
use Rattle.lists.proofs.Choice.{pick-ok}
use Rattle.transmitters.specs.declared.Reading.{Reading}
use Rattle.transmitters.specs.declared.Reading.TheVariants.{Count, Newtons, Missing}
use Rattle.transmitters.specs.Conversion.{missing, within_i32, converted_single, converted_newtons, converted, converted_row, CountI32, AllCountsI32}
use Rattle.transmitters.proofs.Bits.{range-fits}

-- ---- the places

-- calls at the elements of a list in turn that give h of each give its map
pub mapped : {F A B : Type 0} (g : Mut F (A × Unit {0}) B) (h : A → B) (f : F) (xs : List A) (ys : List B) (n : ℕ) → A → length xs ≡ n → IsMapOf g f xs ys n
    → ((p : F) (x : A) (y : B) (q : F) → Called g p (x, tt) y q → y ≡ h x) → ys ≡ map h xs
mapped g h f xs ys n d long m one =
    ext_get_or (h d) ys (map h xs) (m.long ∙ sym (length-map xs h ∙ long))
    (λ i l. let c = m.at i d (h d) (omega (arith, m.long)) in one c.0 _ _ c.1 c.2 ∙ sym (get_or-map h xs i d (h d) (omega (arith, m.long))))

-- the row that the code makes of the counts of four readings
pub row-of : (y : List Reading) (counts : List (Option ℤ)) (present : List Bool) (values : List ℤ)
    → counts ≡ map converted y → present ≡ map is_some counts → values ≡ map (λ x. unwrap_or x (pos 0)) counts
    → record { present = present; values = values } ≡ converted_row y
unfolding converted_row
row-of y counts present values c p v =
    let marks = p ∙ ap (map is_some) c ∙ map-map is_some converted y in
    let numbers = v ∙ ap (map (λ x. unwrap_or x (pos 0))) c ∙ map-map (λ x. unwrap_or x (pos 0)) converted y in
    λ i. record { present = marks i; values = numbers i }

-- ---- the values

-- its value is an i32
record FitsI32 (c : Option ℤ) : Type 0 where
  fits : SFits w32 (unwrap_or c (pos 0))

missing-fits : FitsI32 missing
missing-fits = record { fits = record { sfits = lit< tt } }

within-fits : (z : ℤ) → FitsI32 (within_i32 z)
unfolding within_i32 pick
within-fits z = by (lt_z z (negsuc 2147483647)) (lt_z (pos 2147483647) z) refl refl
  where
    by : (a b : Bool) → lt_z z (negsuc 2147483647) ≡ a → lt_z (pos 2147483647) z ≡ b → FitsI32 (pick (a || b) missing (Some z))
    by true b p q = missing-fits
    by false true p q = missing-fits
    by false false p q = record { fits = range-fits z p q }

newtons-fit : (x : Float) → FitsI32 (converted_newtons x)
unfolding converted_newtons converted_single
newtons-fit x = pick-ok FitsI32 _ _ _ (λ _. missing-fits) (λ _. pick-ok FitsI32 _ _ _ (λ _. missing-fits) (λ _. within-fits _))

converted-fits : (r : Reading) → CountI32 r → FitsI32 (converted r)
unfolding converted
converted-fits (Count n) h = record { fits = h }
converted-fits (Newtons x) h = newtons-fit x
converted-fits Missing h = missing-fits

pub row-i32 : (y : List Reading) → AllCountsI32 y → AllI32 (converted_row y).values
unfolding converted_row
row-i32 [] h j = missing-fits.fits
row-i32 (r ∷ y) h zero = (converted-fits r (h 0)).fits
row-i32 (r ∷ y) h (suc j) = row-i32 y (λ k. h (suc k)) j
