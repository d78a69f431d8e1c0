-- Laws of fields: what one byte more, or less, of a line changes. Assumes nothing.
use Rattle.std.proofs.Common.{◌≡◌, refl, List, [], ◌∷◌, ℕ, zero, suc, ◌+◌, ◌<◌, add-one, length, drop, get_or}
use lib.Seq.{drop-cons}
use Rattle.line.specs.Fields.{one_less, after_spaces}

-- a byte before the field that is looked for
pub after_more : (line : List ℕ) (i left : ℕ) → i < length line → (left ≡ 0 → ⊥)
    → after_spaces (drop i line) left ≡ after_spaces (drop (i + 1) line) (one_less (get_or line i 0) left)
unfolding after_spaces
after_more line i zero h n = absurd (n refl)
after_more line i (suc k) h n = rw (add-one, drop-cons line i 0 h)

pub after-found : (bytes : List ℕ) → after_spaces bytes 0 ≡ bytes
unfolding after_spaces
after-found [] = refl
after-found (b ∷ bs) = refl

pub after_none : (k : ℕ) → after_spaces [] k ≡ []
unfolding after_spaces
after_none k = refl
