-- Groups of boxes: majority, coordinator, the boxes heard, and which of two estimates is the better.
use Rattle.std.specs.Prelude.{Bool, true, false, ◌&&◌, ◌||◌, List, ℕ, zero, suc, ◌+◌, ◌/◌, ◌%◌, get_or, set, replicate, eqb, ltb}
use Rattle.lists.specs.Choice.{pick}

-- "a majority is N/2 rounded down, plus 1"
unfoldable pub majority : ℕ → ℕ
majority N = N / 2 + 1

-- "The coordinator of view v is box (v mod N) + 1." No box, 0, coordinates a group of none.
unfoldable pub coordinator : ℕ → ℕ → ℕ
coordinator N v = pick (eqb N 0) 0 (v % N + 1)

-- "Best is the largest base view, then the largest base period, then the lowest box number": whether an estimate with this base
-- view, base period and box comes before another with base view v, base period k and box j
unfoldable pub beats : ℕ → ℕ → ℕ → ℕ → ℕ → ℕ → Bool
beats base_view base_period box v k j =
    ltb v base_view
    || (eqb v base_view && (ltb k base_period || (eqb k base_period && ltb box j)))

-- no box heard; place j is for box j, and place 0 for none
abbrev pub nobody : List Bool
nobody = replicate 10 false

-- whether box j is among those heard
abbrev pub among : List Bool → ℕ → Bool
among heard j = get_or heard j false

-- the boxes heard, with box j entered
abbrev pub with : List Bool → ℕ → List Bool
with heard j = set heard j true

-- how many of the boxes 1 to N are in a set; "boxes above N aren't counted"
unfoldable pub count : (ℕ → Bool) → ℕ → ℕ
count p zero = 0
count p (suc N) = pick (p (suc N)) 1 0 + count p N
