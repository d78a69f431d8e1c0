-- A line as fields: "single spaces" stand between them. Fields are counted from 0; 32 is a space.
use Rattle.std.specs.Prelude.{ℕ, zero, suc, ◌-◌, List, [], ◌∷◌, eqb, count_by}
use Rattle.lists.specs.Choice.{pick}
use Rattle.text.specs.Lines.{up_to}

-- how many spaces a line has
abbrev pub spaces : List ℕ → ℕ
spaces line = count_by (λ b. eqb b 32) line

-- k, and one less at a space
unfoldable pub one_less : ℕ → ℕ → ℕ
one_less b k = pick (eqb b 32) (k - 1) k

-- what stands after the first k spaces, nothing where there are fewer
unfoldable pub after_spaces : List ℕ → ℕ → List ℕ
after_spaces [] k = []
after_spaces (b ∷ bs) zero = b ∷ bs
after_spaces (b ∷ bs) (suc k) = after_spaces bs (one_less b (suc k))

-- what stands before the first space
abbrev pub up_to_space : List ℕ → List ℕ
up_to_space bytes = up_to 32 bytes

-- field k of a line, empty where the line has fewer
unfoldable pub field : ℕ → List ℕ → List ℕ
field k line = up_to_space (after_spaces line k)
