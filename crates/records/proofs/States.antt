-- A state's places that are not in use, cleared. Assumes nothing.
use Rattle.std.proofs.Common.{◌≡◌, refl, ap, ◌∙◌, ℕ, zero, suc, ◌-◌, ◌≤◌, List, [], ◌∷◌, ◌++◌, length, take, ℤ, pos, replicate, arith}
use Rattle.lists.specs.Places.{entry, filled}
use Rattle.lists.proofs.Places.{filled-pad}

-- the first places of a list
filled-take : (n : ℕ) (x : List ℤ) → n ≤ length x → take n x ≡ filled (pos 0) n n (entry x)
unfolding filled
filled-take zero x h = refl
filled-take (suc n) [] h = absurd (omega arith)
filled-take (suc n) (z ∷ x) h = ap (λ (t : List ℤ). z ∷ t) (filled-take n x (omega arith))

-- the places from n on are cleared
pub cleared : (n : ℕ) (x : List ℤ) → n ≤ 6 → length x ≡ 6 → take n x ++ replicate (6 - n) (pos 0) ≡ filled (pos 0) 6 n (entry x)
cleared n x h six = ap (λ (t : List ℤ). t ++ replicate (6 - n) (pos 0)) (filled-take n x (omega arith)) ∙ filled-pad (pos 0) 6 n (entry x) h
