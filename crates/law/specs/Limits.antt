-- What `limits_change` means, and what it gives below, at and above limits.
use Rattle.std.specs.Prelude.{◌≡◌, refl, Bool, true, false, List, [], ◌∷◌, map, ℤ, pos}
use Rattle.law.specs.Fixed.{minus, limited, limits_change}

-- the mark tells whether what comes out is another number (`changes-means` of proofs/Changes.antt)
pub record Tells (lower upper z : ℤ) (mark : Bool) : Type 0 where
  pub changed : mark ≡ true → limited lower upper z ≡ z → ⊥
  pub unchanged : mark ≡ false → limited lower upper z ≡ z

-- a number, its limits, and whether they change it
record Case : Type 0 where
  lower : ℤ
  upper : ℤ
  number : ℤ
  changed : Bool

abbrev case : ℤ → ℤ → ℤ → Bool → Case
case lower upper number changed = record { lower = lower; upper = upper; number = number; changed = changed }

-- "a value at its limit" is unchanged by it
abbrev cases : List Case
cases =
    case (minus 10) (pos 10) (minus 11) true
    ∷ case (minus 10) (pos 10) (minus 10) false
    ∷ case (minus 10) (pos 10) (pos 0) false
    ∷ case (minus 10) (pos 10) (pos 10) false
    ∷ case (minus 10) (pos 10) (pos 11) true
    ∷ case (pos 5) (pos 5) (pos 4) true
    ∷ case (pos 5) (pos 5) (pos 5) false
    ∷ case (pos 5) (pos 5) (pos 6) true
    ∷ case (minus 2147483648) (pos 2147483647) (minus 2147483649) true
    ∷ case (minus 2147483648) (pos 2147483647) (minus 2147483648) false
    ∷ case (minus 2147483648) (pos 2147483647) (pos 2147483647) false
    ∷ case (minus 2147483648) (pos 2147483647) (pos 2147483648) true
    ∷ []

cases-hold : map (λ (c : Case). limits_change c.lower c.upper c.number) cases ≡ map (λ (c : Case). c.changed) cases
unfolding limits_change
cases-hold = refl
