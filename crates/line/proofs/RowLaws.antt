-- Laws of a row of readings that is read field by field, and place by place. Assumes nothing.
use mathlib.Core.Path.{◌≡◌, refl, sym, ap, ◌∙◌}
use mathlib.Core.Bool.{Bool, true, false}
use mathlib.Core.List.{List}
use Prim.Native.Nat.{ℕ, suc, ◌+◌, ◌≤◌, ◌<◌}
use native.Mathlib.Omega.{arith}
use native.Mathlib.Decide.{dec_le}
use lib.ListN.{length, set, replicate}
use lib.Seq.{set_out}
use Rattle.lists.specs.Places.{filled}
use Rattle.lists.specs.Below.{all_below}
use Rattle.lists.proofs.Booleans.{never}
use Rattle.lists.proofs.Places.{filled_none, filled_more, filled-most, filled-length}
use Rattle.lists.proofs.Below.{all_none, all-next, all-at}
use Rattle.transmitters.specs.declared.Reading.{Reading}
use Rattle.transmitters.specs.declared.Reading.TheVariants.{Missing}
use Rattle.line.specs.Fields.{field}
use Rattle.line.specs.Events.{reading_in, is_reading, all_readings, row_of}

-- one reading more; after the places there is none
set_more : {A : Type 0} (blank : A) (width j : ℕ) (f : ℕ → A) → set (filled blank width j f) j (f j) ≡ filled blank width (j + 1) f
set_more blank width j f = by (dec_le (suc j) width)
  where
    by : Dec (suc j ≤ width) → set (filled blank width j f) j (f j) ≡ filled blank width (j + 1) f
    by (yes h) = filled_more blank width j f h
    by (no h) =
        let l : width ≤ j = omega (arith, h) in
        set_out _ j (f j) (omega (arith, filled-length blank width j f))
        ∙ sym (filled-most blank width j width f (λ m. omega arith) (λ m. refl))
        ∙ filled-most blank width (j + 1) width f (λ m. omega arith) (λ m. refl)

module _ (of_rig : Bool) (line : List ℕ) where
  pub row-none : replicate 4 Missing ≡ row_of of_rig 0 line
  unfolding row_of
  row-none = sym (filled_none Missing 4 _)

  pub readings-none : true ≡ all_readings of_rig 0 line
  unfolding all_readings
  readings-none = sym (all_none _)

  pub row-length : (row : List Reading) (j : ℕ) → row ≡ row_of of_rig j line → length row ≡ 4
  unfolding row_of
  row-length row j e = ap length e ∙ filled-length Missing 4 j _

  pub row_more : (row : List Reading) (j : ℕ) → row ≡ row_of of_rig j line
      → set row j (reading_in of_rig (field (j + 2) line)) ≡ row_of of_rig (j + 1) line
  unfolding row_of
  row_more row j e =
      ap (λ (y : List Reading). set y j (reading_in of_rig (field (j + 2) line))) e ∙ set_more Missing 4 j (λ i. reading_in of_rig (field (i + 2) line))

  pub readings-more : (j : ℕ) → true ≡ all_readings of_rig j line → is_reading of_rig (field (j + 2) line) ≡ true → true ≡ all_readings of_rig (j + 1) line
  unfolding all_readings
  readings-more j e h = sym (all-next (λ i. is_reading of_rig (field (i + 2) line)) j ∙ rw (sym e, h))

  -- a field that is no reading
  pub not_all : (m j : ℕ) → j < m → is_reading of_rig (field (j + 2) line) ≡ false → all_readings of_rig m line ≡ false
  unfolding all_readings
  not_all m j l h = by (all_below m (λ i. is_reading of_rig (field (i + 2) line))) refl
    where
      by : (t : Bool) → all_below m (λ i. is_reading of_rig (field (i + 2) line)) ≡ t → all_below m (λ i. is_reading of_rig (field (i + 2) line)) ≡ false
      by true e = never (sym h ∙ all-at (λ i. is_reading of_rig (field (i + 2) line)) m j e l)
      by false e = e
