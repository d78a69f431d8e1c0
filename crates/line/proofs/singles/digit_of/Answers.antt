-- `singles::digit_of` meets its contract. Assumes nothing.
use Rattle.std.proofs.Common.{ap, arith, ◌≡◌, ◌+◌, ◌-◌, ◌≤◌, ℕ, refl, Some, None, true, false}
use Rattle.std.proofs.Common.{Bool, Option}
use borrow.Author.Tests.{le-leb, lt-leb}
use Rattle.lists.specs.Choice.{pick}
use Rattle.text.specs.Numbers.{is_digit}
use Rattle.line.specs.Singles.{is_hex, hex_digit}
use native.Mathlib.Decide.{dec_le}
use Rattle.line.proofs.SingleLaws.{Hex, hex}
use Rattle.line.proofs.singles.digit_of.Goals as goal

-- a byte that is neither a decimal digit nor one of these letters
no_hex : (b : ℕ) (d : Option ℕ) → (48 ≤ b → b ≤ 57 → ⊥) → (97 ≤ b → b ≤ 102 → ⊥) → None ≡ pick (is_hex b) d None
unfolding pick
no_hex b d n m = by (is_hex b) refl
  where
    at : Hex b → Dec (b ≤ 57) → ⊥
    at h (yes l) = n (h.decimal l).0 l
    at h (no l) = m (h.letter (omega (arith, l))).0 h.high

    by : (t : Bool) → is_hex b ≡ t → None ≡ pick t d None
    by true e = absurd (at (hex b e) (dec_le b 57))
    by false e = refl

pub returns-in-48-to-57 : goal.returns-in-48-to-57
unfolding is_hex hex_digit is_digit pick
returns-in-48-to-57 c = let b = c.args.b in rw (le-leb 48 b (omega arith), le-leb b 57 (omega arith)) (ap Some c.from.ensures)

pub returns-in-97-to-102 : goal.returns-in-97-to-102
unfolding is_hex hex_digit is_digit pick
returns-in-97-to-102 c =
    let b = c.args.b in
    let d : b - 97 + 10 ≡ b - 87 = omega arith in
    rw (le-leb 48 b (omega arith), lt-leb b 57 (omega arith), le-leb 97 b (omega arith), le-leb b 102 (omega arith), c.from-in-97-to-102.ensures) (ap Some d)

pub returns-in_default : goal.returns-in_default
returns-in_default c = no_hex _ _ (λ l h. omega arith) (λ l h. omega arith)

pub returns-in_default-2 : goal.returns-in_default-2
returns-in_default-2 c = no_hex _ _ (λ l h. omega arith) (λ l h. omega arith)

pub returns-in_default-3 : goal.returns-in_default-3
returns-in_default-3 c = no_hex _ _ (λ l h. omega arith) (λ l h. omega arith)
