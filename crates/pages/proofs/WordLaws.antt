-- Laws of entries that are handed as words and placed from the last one on. Assumes nothing.
use mathlib.Core.Path.{◌≡◌, sym, ap, ◌∙◌}
use mathlib.Core.List.{List, [], ◌∷◌}
use Prim.Native.Nat.{ℕ, suc, ◌+◌, ◌*◌, ◌-◌, ◌/◌, ◌≤◌, ◌<◌}
use native.Mathlib.Omega.{arith}
use Rattle.std.specs.Prelude.{Option, None, Some}
use lib.IntN.{ℤ}
use borrow.Author.Tests.{eq-eqb, ne_eqb}
use Rattle.lists.proofs.Choice.{pick_true, pick-false}
use lib.ListN.{length, drop, get_or}
use lib.Seq.{drop-drop, get_or-drop}
use Rattle.octets.specs.Words.{from_twos_complement}
use Rattle.pages.specs.declared.entries.Entry.{Entry}
use Rattle.pages.specs.Entries.{command_of, entry_of, first_entries, entries_of}
use Rattle.pages.specs.Page.{placed, on_page}

-- an entry word by word
module _ (words : List ℕ) (at : ℕ) where
  pub no_command : get_or words (at + 2) 0 ≡ 0 → None ≡ command_of (drop at words)
  unfolding command_of
  no_command e = sym (pick_true _ _ _ (rw (get_or-drop at words 2 0) (eq-eqb _ 0 e)))

  pub command-words : (a b c d : ℤ) → (get_or words (at + 2) 0 ≡ 0 → ⊥)
      → a ≡ from_twos_complement (get_or words (at + 3) 0) → b ≡ from_twos_complement (get_or words (at + 4) 0)
      → c ≡ from_twos_complement (get_or words (at + 5) 0) → d ≡ from_twos_complement (get_or words (at + 6) 0)
      → Some (a ∷ b ∷ c ∷ d ∷ []) ≡ command_of (drop at words)
  unfolding command_of
  command-words a b c d n ea eb ec ed =
      sym (pick-false _ _ _ (rw (get_or-drop at words 2 0) (ne_eqb _ 0 n))
      ∙ rw (get_or-drop at words 3 0, get_or-drop at words 4 0, get_or-drop at words 5 0, get_or-drop at words 6 0, ea, eb, ec, ed))

  pub entry-words : (command : Option (List ℤ)) → command ≡ command_of (drop at words)
      → record { period = get_or words at 0; view = get_or words (at + 1) 0; command = command } ≡ entry_of (drop at words)
  unfolding entry_of
  entry-words command e =
      let z : at + 0 ≡ at = omega arith in
      rw (get_or-drop at words 0 0, z, get_or-drop at words 1 0, e)

-- those that stand on a page, of the entries from number i on
abbrev pub standing_from : List ℕ → ℕ → List Entry
standing_from words i = on_page (first_entries (length words / 7 - i) (drop (7 * i) words))

-- behind the last entry there is none
pub none-behind : (words : List ℕ) (i : ℕ) → i ≡ length words / 7 → standing_from words i ≡ []
unfolding on_page first_entries
none-behind words i e =
    let z : length words / 7 - i ≡ 0 = omega arith in
    ap (λ (k : ℕ). on_page (first_entries k (drop (7 * i) words))) z

-- from the first one on they are all
pub all-of-them : (words : List ℕ) → standing_from words 0 ≡ on_page (entries_of words)
unfolding entries_of
all-of-them words =
    let z : length words / 7 - 0 ≡ length words / 7 = omega arith in
    ap (λ (k : ℕ). on_page (first_entries k words)) z

-- one entry before them
pub one-before : (words : List ℕ) (i : ℕ) → 0 < i → i ≤ length words / 7
    → standing_from words (i - 1) ≡ placed (entry_of (drop (7 * (i - 1)) words)) (standing_from words i)
unfolding first_entries on_page
one-before words i some here =
    let more : length words / 7 - (i - 1) ≡ suc (length words / 7 - i) = omega arith in
    let next : drop 7 (drop (7 * (i - 1)) words) ≡ drop (7 * i) words =
    drop-drop 7 (7 * (i - 1)) words ∙ ap (λ (k : ℕ). drop k words) {x = 7 * (i - 1) + 7} {y = 7 * i} (omega arith) in
    ap (λ (k : ℕ). on_page (first_entries k (drop (7 * (i - 1)) words))) more
    ∙ ap (λ (l : List ℕ). placed (entry_of (drop (7 * (i - 1)) words)) (on_page (first_entries (length words / 7 - i) l))) next
