-- Laws of text in columns. Assumes nothing.
use mathlib.Core.Path.{◌≡◌, refl, sym, ap, ◌∙◌}
use mathlib.Core.List.{List, [], ◌∷◌, ◌++◌, append-nil, append_assoc}
use Prim.Native.Nat.{ℕ, zero, suc, ◌+◌, ◌*◌, ◌≤◌, ◌<◌}
use native.Mathlib.Omega.{arith}
use lib.IntN.{ℤ}
use lib.ListN.{length, take, drop, length-append, length-replicate}
use Rattle.lists.specs.Places.{entry}
use Rattle.text.specs.Printing.{with, Puts, signed}
use Rattle.text.proofs.PrintingLaws.{put-within}
use Rattle.text.proofs.PrintingLengths.{signed-length}
use Rattle.pages.specs.Line.{right, command_columns}

-- ---- what was put to an area

-- it ends within the area
pub put-end : {area area' more : List ℕ} {at r : ℕ} → Puts area at more r area' → r ≤ length area'
put-end {area} {area'} {more} {at} {r} p =
    omega (arith, p.count, ap length p.bytes, length-append (with (length area) (take at area) more) (drop r area))

-- at the start of an area that has room for it, it stands there whole: `&area[..r]`
pub put_alone : {area area' more : List ℕ} {r : ℕ} → length more ≤ length area → Puts area 0 more r area' → take r area' ≡ more
put_alone h p = (put-within (omega arith) p).text

-- ---- columns

-- one command more
pub columns-more : (values : List ℤ) (i : ℕ) → i < length values
    → command_columns (take (i + 1) values) ≡ command_columns (take i values) ++ right 12 (signed (entry values i))
unfolding command_columns
columns-more [] i h = absurd (omega arith)
columns-more (z ∷ zs) zero h = append-nil (right 12 (signed z))
columns-more (z ∷ zs) (suc i) h =
    let e : suc i + 1 ≡ suc (i + 1) = omega arith in
    rw e (ap (λ (t : List ℕ). right 12 (signed z) ++ t) (columns-more zs i (omega arith)) ∙ sym (append_assoc (right 12 (signed z)) _ _))

-- what is no longer than its columns fills them
pub right-length : (columns : ℕ) (bytes : List ℕ) → length bytes ≤ columns → length (right columns bytes) ≡ columns
unfolding right
right-length columns bytes h = simp (length-append, length-replicate) (omega arith)

pub commands-length : (values : List ℤ) → length (command_columns values) ≡ 12 * length values
unfolding command_columns
commands-length [] = refl
commands-length (z ∷ zs) =
    let l = signed-length z in
    omega (arith, length-append (right 12 (signed z)) (command_columns zs), right-length 12 (signed z) (omega arith), commands-length zs)
