-- Lists with a fixed number of places, of which the first few are in use.
use Rattle.std.specs.Prelude.{ℕ, zero, suc, List, [], ◌∷◌, get_or, replicate, ℤ, pos}

-- what stands at place i, counted from 0; 0 after the end
abbrev pub entry : List ℤ → ℕ → ℤ
entry xs i = get_or xs i (pos 0)

-- `width` places: f 0 to f (n − 1) in the first n, and `blank` in those that are not in use
unfoldable pub filled {ℓ} : {A : Type ℓ} → A → ℕ → ℕ → (ℕ → A) → List A
filled blank zero n f = []
filled blank (suc width) zero f = replicate (suc width) blank
filled blank (suc width) (suc n) f = f 0 ∷ filled blank width n (λ i. f (suc i))
