-- Parts of a text: what stands before and after a byte, and its lines.
use Rattle.std.specs.Prelude.{ℕ, zero, suc, List, [], ◌∷◌, eqb}
use Rattle.lists.specs.Choice.{pick}

-- what stands before the first byte `stop`
unfoldable pub up_to : ℕ → List ℕ → List ℕ
up_to stop [] = []
up_to stop (b ∷ bs) = pick (eqb b stop) [] (b ∷ up_to stop bs)

-- what stands after it, nothing where there is none
unfoldable pub after : ℕ → List ℕ → List ℕ
after stop [] = []
after stop (b ∷ bs) = pick (eqb b stop) bs (after stop bs)

-- what stands before the first line feed, which is 10
abbrev pub first_line : List ℕ → List ℕ
first_line text = up_to 10 text

-- what stands after it
abbrev pub after_line : List ℕ → List ℕ
after_line text = after 10 text

-- the lines of a text, at most k of them: "A last line may lack its line feed."
unfoldable pub lines_of : ℕ → List ℕ → List (List ℕ)
lines_of zero text = []
lines_of (suc k) [] = []
lines_of (suc k) (b ∷ bs) = first_line (b ∷ bs) ∷ lines_of k (after_line (b ∷ bs))
