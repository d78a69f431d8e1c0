-- `first_values` meets its contract. Assumes nothing.
use Rattle.std.proofs.Common.{◌≡◌, refl, ap, ◌∙◌, ℕ, zero, suc, ◌≤◌, List, [], ◌∷◌, length, take, ℤ, pos, arith}
use Rattle.lists.specs.Places.{entry, filled}
use Rattle.lists.proofs.Places.{filled-pad, drop-blanks}
use Rattle.replica.proofs.moves.first_values.Goals as goal

-- the first values of a list, as places that are all in use
in-use : (n : ℕ) (xs : List ℤ) → n ≤ length xs → take n xs ≡ filled (pos 0) n n (entry xs)
unfolding filled
in-use zero xs l = refl
in-use (suc n) [] l = absurd (omega arith)
in-use (suc n) (x ∷ xs) l = ap (λ (t : List ℤ). x ∷ t) (in-use n xs (omega arith))

pub returns : goal.returns
returns c =
    let n = c.args.n in
    let copied : c.copy_from_slice.new.self ≡ filled (pos 0) n n (entry c.args.values) =
    c.copy_from_slice.ensures.after ∙ in-use n c.args.values (omega arith) in
    rw (copied, drop-blanks (pos 0) n 6) (filled-pad (pos 0) 6 n (entry c.args.values) c.requires)
