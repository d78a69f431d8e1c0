-- Laws of parts of a text, one byte and one line after the other. Assumes nothing.
use Rattle.std.proofs.Common.{◌≡◌, refl, sym, ap, ◌∙◌, Bool, true, false, not, cond, List, [], ◌∷◌, ℕ, zero, suc, ◌+◌, ◌-◌, ◌≤◌, ◌<◌, arith, length, drop, take, length-drop, eqb, ltb, Some, None}
use Rattle.std.specs.List.{position, position_or_len}
use Rattle.std.specs.Option.{unwrap_or}
use Rattle.std.proofs.lemmas.List.Sums.{prefix_len-le-length}
use lib.Seq.{drop-cons, drop-drop}
use borrow.Author.Tests.{ltb-false}
use Rattle.lists.specs.Choice.{pick}
use Rattle.lists.proofs.Parts.{drop-beyond, to_the_end}
use Rattle.text.specs.Lines.{up_to, after, first_line, after_line, lines_of}

-- ---- where a part ends

abbrev before : ℕ → List ℕ → ℕ
before stop text = position_or_len (λ b. eqb b stop) text

first_or_len : (stop : ℕ) (text : List ℕ) → unwrap_or (position (λ b. eqb b stop) text) (length text) ≡ before stop text
first_or_len stop text = by (ltb (before stop text) (length text)) refl
  where
    by : (t : Bool) → ltb (before stop text) (length text) ≡ t → unwrap_or (cond t (Some (before stop text)) None) (length text) ≡ before stop text
    by true e = refl
    by false e = omega (arith, ltb-false _ _ e, prefix_len-le-length (λ b. not (eqb b stop)) text)

up_to-taken : (stop : ℕ) (text : List ℕ) → take (before stop text) text ≡ up_to stop text
unfolding up_to pick
up_to-taken stop [] = refl
up_to-taken stop (b ∷ bs) = by (eqb b stop) (up_to-taken stop bs)
  where
    by : (t : Bool) → take (before stop bs) bs ≡ up_to stop bs
        → take (cond (not t) (1 + before stop bs) 0) (b ∷ bs) ≡ pick t [] (b ∷ up_to stop bs)
    by true e = refl
    by false e = let s : 1 + before stop bs ≡ suc (before stop bs) = omega arith in rw s (ap (λ (l : List ℕ). b ∷ l) e)

after-dropped : (stop : ℕ) (text : List ℕ) → drop (before stop text + 1) text ≡ after stop text
unfolding after pick
after-dropped stop [] = refl
after-dropped stop (b ∷ bs) = by (eqb b stop) (after-dropped stop bs)
  where
    by : (t : Bool) → drop (before stop bs + 1) bs ≡ after stop bs
        → drop (cond (not t) (1 + before stop bs) 0 + 1) (b ∷ bs) ≡ pick t bs (after stop bs)
    by true e = refl
    by false e = let s : 1 + before stop bs + 1 ≡ suc (before stop bs + 1) = omega arith in rw s e

-- the part of a text that starts at `from`, of so many bytes before `stop`
pub part_ends : (stop : ℕ) (text : List ℕ) (from k : ℕ) → from ≤ length text
    → k ≡ unwrap_or (position (λ b. eqb b stop) (take (length text - from) (drop from text))) (length (take (length text - from) (drop from text)))
    → (from ≤ from + k) × (from + k ≤ length text) × (take (from + k - from) (drop from text) ≡ up_to stop (drop from text))
    × (drop (from + k + 1) text ≡ after stop (drop from text))
part_ends stop text from k h e =
    let rest : k ≡ before stop (drop from text) = e ∙ first_or_len stop (take (length text - from) (drop from text)) ∙ ap (before stop) (to_the_end text from) in
    let n : from + k - from ≡ k = omega arith in
    let m : from + k + 1 ≡ from + (k + 1) = omega arith in (
      omega arith,
      omega (arith, rest, prefix_len-le-length (λ b. not (eqb b stop)) (drop from text), length-drop from text),
      rw (n, rest) (up_to-taken stop (drop from text)),
      rw m (sym (drop-drop (k + 1) from text) ∙ rw rest (after-dropped stop (drop from text))),
    )

-- ---- the lines

pub lines_next : (k : ℕ) (text : List ℕ) (i : ℕ) → i < length text → lines_of (suc k) (drop i text) ≡ first_line (drop i text) ∷ lines_of k (after_line (drop i text))
unfolding lines_of
lines_next k text i h = rw (drop-cons text i 0 h)

pub lines_end : (k : ℕ) (text : List ℕ) (i : ℕ) → length text ≤ i → lines_of k (drop i text) ≡ []
unfolding lines_of
lines_end k text i h = rw (drop-beyond text i h) (none k)
  where
    none : (k : ℕ) → lines_of k [] ≡ []
    none zero = refl
    none (suc k) = refl

pub no_lines : (k : ℕ) (text : List ℕ) → k ≡ 0 → lines_of k text ≡ []
unfolding lines_of
no_lines k text e = rw e
