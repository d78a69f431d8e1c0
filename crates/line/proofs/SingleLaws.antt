-- Laws of singles: what a hexadecimal digit is, eight of them one after the other, and that these have 32 bits. Assumes nothing.
use mathlib.Core.Path.{◌≡◌, refl, sym, ap, ◌∙◌}
use mathlib.Core.Bool.{Bool, true, false, ◌&&◌, ◌||◌}
use mathlib.Core.List.{List}
use Prim.Native.Nat.{ℕ, suc, ◌+◌, ◌*◌, ◌-◌, ◌^◌, ◌≤◌, ◌<◌}
use native.Mathlib.Nat.{zero-lt-suc, pow-suc, pow-le-pow_right}
use native.Mathlib.Omega.{arith}
use native.Mathlib.Numerals.{add-one}
use lib.Dec.{eqb, leb}
use lib.Ieee.{binary32, of_bits}
use lib.ListN.{length, get_or, drop}
use lib.Seq.{drop-cons}
use borrow.Author.Tests.{leb-true, eqb-true, eq-eqb, ne_eqb}
use Rattle.lists.specs.Choice.{pick}
use Rattle.lists.proofs.Booleans.{both, second-fails}
use Rattle.lists.proofs.Choice.{pick_true, pick-false}
use Rattle.lists.proofs.Parts.{drop-beyond}
use Rattle.text.specs.Numbers.{is_digit}
use Rattle.std.specs.Prelude.{Option, Some, None}
use Rattle.std.proofs.lemmas.Option.{none-some, same_Some}
use Rattle.text.proofs.NumberLaws.{digit-range, pick-some, pick-none}
use Rattle.transmitters.specs.declared.Reading.TheVariants.{Newtons, Missing}
use Rattle.line.specs.Singles.{is_hex, hex_digit, all_hex, hex_from, is_single, bits_of, single_in}

-- ---- one digit

-- what a hexadecimal digit is: a decimal one, or a letter
pub record Hex (b : ℕ) : Type 0 where
  pub decimal : b ≤ 57 → (48 ≤ b) × (hex_digit b ≡ b - 48)
  pub letter : 57 < b → (97 ≤ b) × (hex_digit b ≡ b - 87)
  pub high : b ≤ 102
  pub below : hex_digit b < 16

pub hex : (b : ℕ) → is_hex b ≡ true → Hex b
unfolding is_hex hex_digit
hex b h = by (is_digit b) refl h
  where
    by : (t : Bool) → is_digit b ≡ t → (is_digit b || (leb 97 b && leb b 102)) ≡ true → Hex b
    by true e h =
        let d = digit-range b e in
        let v : hex_digit b ≡ b - 48 = pick_true _ _ _ e in
        record { decimal = λ _. (d.0, v); letter = λ l. absurd (omega arith); high = omega arith; below = omega arith }
    by false e h =
        let p = both (leb 97 b) (leb b 102) (rw e at h) in
        let low = leb-true 97 b p.0 in
        let high = leb-true b 102 p.1 in
        let v : hex_digit b ≡ b - 87 = pick-false _ _ _ e in
        record { decimal = λ l. absurd (omega arith); letter = λ _. (low, v); high = high; below = omega arith }

-- ---- powers

-- k digits and one more
pub digit-more : (k high d : ℕ) → high < 16 ^ k → d < 16 → high * 16 + d < 16 ^ (k + 1)
digit-more k high d h l = let p : 16 ^ (k + 1) ≡ 16 ^ k * 16 = ap (λ (n : ℕ). 16 ^ n) (add-one k) ∙ pow-suc 16 k in omega arith

-- seven digits have 28 bits, so that there is room for an eighth
pub seven-digits : (k high : ℕ) → high < 16 ^ k → k ≤ 7 → high < 268435456
seven-digits k high h l = let p : 16 ^ k ≤ 16 ^ 7 = pow-le-pow_right (zero-lt-suc 15) l in omega arith

-- ---- a field

-- the bits that digits spell after those that spell `high`
unfoldable pub spelled : ℕ → List ℕ → Option ℕ
spelled high digits = pick (all_hex digits) (Some (hex_from high digits)) None

module _ (digits : List ℕ) (high i : ℕ) where
  -- a turn of the loop that reads the digits
  spelled-next : i < length digits → spelled high (drop i digits)
      ≡ pick (is_hex (get_or digits i 0)) (spelled (high * 16 + hex_digit (get_or digits i 0)) (drop (i + 1) digits)) None
  unfolding spelled all_hex hex_from pick
  spelled-next h = rw (add-one, drop-cons digits i 0 h) (by (is_hex (get_or digits i 0)))
    where
      by : (t : Bool)
          → pick (t && all_hex (drop (suc i) digits)) (Some (hex_from (high * 16 + hex_digit (get_or digits i 0)) (drop (suc i) digits))) None
          ≡ pick t (pick (all_hex (drop (suc i) digits)) (Some (hex_from (high * 16 + hex_digit (get_or digits i 0)) (drop (suc i) digits))) None) None
      by true = refl
      by false = refl

  pub spelled-more : (d : ℕ) → i < length digits → pick (is_hex (get_or digits i 0)) (Some (hex_digit (get_or digits i 0))) None ≡ Some d
      → spelled high (drop i digits) ≡ spelled (high * 16 + d) (drop (i + 1) digits)
  spelled-more d h e =
      spelled-next h ∙ pick-some (is_hex (get_or digits i 0)) _ d (λ (k : ℕ). spelled (high * 16 + k) (drop (i + 1) digits)) e

  pub spelled-stops : i < length digits → pick (is_hex (get_or digits i 0)) (Some (hex_digit (get_or digits i 0))) None ≡ None
      → spelled high (drop i digits) ≡ None
  spelled-stops h e = spelled-next h ∙ pick-none (is_hex (get_or digits i 0)) _ _ e

  pub spelled-ends : length digits ≤ i → spelled high (drop i digits) ≡ Some high
  unfolding spelled all_hex hex_from pick
  spelled-ends h = rw (drop-beyond digits i h)

-- a digit has a value below 16
pub digit-below : (b d : ℕ) → pick (is_hex b) (Some (hex_digit b)) None ≡ Some d → d < 16
unfolding pick
digit-below b d e = by (is_hex b) refl e
  where
    by : (t : Bool) → is_hex b ≡ t → pick t (Some (hex_digit b)) None ≡ Some d → d < 16
    by true h e = let s : hex_digit b ≡ d = same_Some _ _ e in omega (arith, (hex b h).below)
    by false h e = absurd (none-some d e)

module _ (word : List ℕ) where
  pub not_nine : (length word ≡ 9 → ⊥) → single_in word ≡ Missing
  unfolding single_in is_single
  not_nine n = pick-false _ _ _ (rw (ne_eqb (length word) 9 n))

  pub not_f : (get_or word 0 0 ≡ 102 → ⊥) → single_in word ≡ Missing
  unfolding single_in is_single
  not_f n = pick-false _ _ _ (second-fails (eqb (length word) 9) _ (rw (ne_eqb (get_or word 0 0) 102 n)))

  -- `f` and what follows it
  pub single-given : (bits : ℕ) → length word ≡ 9 → get_or word 0 0 ≡ 102 → pick (all_hex (drop 1 word)) (Some (hex_from 0 (drop 1 word))) None ≡ Some bits
      → Newtons (of_bits binary32 bits) ≡ single_in word
  unfolding single_in is_single bits_of pick
  single-given bits n f e = rw (eq-eqb (length word) 9 n, eq-eqb (get_or word 0 0) 102 f) (by (all_hex (drop 1 word)) e)
    where
      by : (t : Bool) → pick t (Some (hex_from 0 (drop 1 word))) None ≡ Some bits
          → Newtons (of_bits binary32 bits) ≡ pick t (Newtons (of_bits binary32 (hex_from 0 (drop 1 word)))) Missing
      by true e = ap (λ (k : ℕ). Newtons (of_bits binary32 k)) (sym (same_Some _ _ e))
      by false e = absurd (none-some bits e)

  pub single-missing : length word ≡ 9 → get_or word 0 0 ≡ 102 → pick (all_hex (drop 1 word)) (Some (hex_from 0 (drop 1 word))) None ≡ None
      → Missing ≡ single_in word
  unfolding single_in is_single bits_of pick
  single-missing n f e = rw (eq-eqb (length word) 9 n, eq-eqb (get_or word 0 0) 102 f) (by (all_hex (drop 1 word)) e)
    where
      by : (t : Bool) → pick t (Some (hex_from 0 (drop 1 word))) None ≡ None
          → Missing ≡ pick t (Newtons (of_bits binary32 (hex_from 0 (drop 1 word)))) Missing
      by true e = absurd (none-some _ (sym e))
      by false e = refl

-- a single has nine bytes
pub single-length : (word : List ℕ) → is_single word ≡ true → length word ≡ 9
unfolding is_single
single-length word e = eqb-true (length word) 9 (both (eqb (length word) 9) _ e).0
