-- Laws of reading a page back. Assumes nothing.
use mathlib.Core.Path.{◌≡◌, refl, sym, ap, ap₂, ◌∙◌}
use mathlib.Core.Bool.{Bool, true, false, not, ◌&&◌}
use mathlib.Core.List.{List, [], ◌∷◌}
use Prim.Native.Nat.{ℕ, zero, suc, ◌+◌, ◌-◌, ◌*◌, ◌/◌, ◌≤◌, ◌<◌}
use native.Mathlib.Omega.{arith}
use lib.Dec.{eqb, leb, ltb, eqb-suc-zero}
use lib.ListN.{length, drop, take, get_or, replicate, length-drop}
use lib.Seq.{drop-drop, length-take-le}
use borrow.Author.Tests.{eq-eqb, eqb-true, not-false, le-leb, lt-leb, leb-true}
use Rattle.std.specs.Prelude.{cond, slice_index_or, nat_eq}
use Rattle.std.specs.List.{AllAdjacentBelow, IsAllAdjacentAnswer, prefix_len}
use Rattle.std.specs.Cmp.Lexicographic.{pointwise}
use Rattle.lists.specs.Choice.{pick}
use Rattle.lists.specs.Places.{filled}
use Rattle.lists.proofs.Booleans.{both, never, second-fails}
use Rattle.lists.proofs.Choice.{pick_true, pick-false}
use Rattle.lists.proofs.Places.{filled_none, filled-same, take-filled}
use Rattle.lists.proofs.Refusals.{none-holds, first_holds, first-fails, passed}
use Rattle.octets.specs.Words.{part}
use Rattle.pages.specs.declared.entries.Entry.{Entry}
use Rattle.pages.specs.Entries.{commands_ok, blank}
use Rattle.pages.specs.Line.{line_length}
use Rattle.pages.specs.Page.{rises, page_bytes, most_lines}
use Rattle.pages.specs.Reading.{unspaced, entry_in, lines_in, lines_number, entries_in, same, is_page, read_refusal, read_entries, page_of}

-- ---- columns

-- what lies from a to a + k
pub part-to : (bytes : List ℕ) (a k : ℕ) → take (a + k - a) (drop a bytes) ≡ part bytes a k
part-to bytes a k = let e : a + k - a ≡ k = omega arith in rw e

-- it is k long
pub part-to-length : (bytes : List ℕ) (a k : ℕ) → a + k ≤ length bytes → length (take (a + k - a) (drop a bytes)) ≡ k
part-to-length bytes a k h = ap length (part-to bytes a k) ∙ length-take-le k (drop a bytes) (omega (arith, length-drop a bytes))

-- what is left behind the spaces on the left: `&columns[spaces..]`
pub unspaced-prefix : (columns : List ℕ) → unspaced columns ≡ drop (prefix_len (λ b. eqb b 32) columns) columns
unfolding unspaced pick
unspaced-prefix [] = refl
unspaced-prefix (b ∷ bs) = by (eqb b 32) (unspaced-prefix bs)
  where
    n : ℕ
    n = prefix_len (λ b. eqb b 32) bs

    by : (space : Bool) → unspaced bs ≡ drop n bs → pick space (unspaced bs) (b ∷ bs) ≡ drop (cond space (1 + n) 0) (b ∷ bs)
    by true rest = let e : 1 + n ≡ suc n = omega arith in rest ∙ ap (λ (k : ℕ). drop k (b ∷ bs)) (sym e)
    by false rest = refl

-- ---- the same bytes

-- `a == b`
pub same_equal : (a b : List ℕ) → pointwise nat_eq a b ≡ same a b
unfolding same
same_equal [] [] = refl
same_equal [] (y ∷ ys) = refl
same_equal (x ∷ xs) [] = refl
same_equal (x ∷ xs) (y ∷ ys) = ap (λ (t : Bool). eqb x y && t) (same_equal xs ys)

pub same_self : (a : List ℕ) → same a a ≡ true
unfolding same
same_self [] = refl
same_self (x ∷ xs) = rw (eq-eqb x x refl) (same_self xs)

pub same_true : (a b : List ℕ) → same a b ≡ true → a ≡ b
unfolding same
same_true [] [] h = refl
same_true [] (y ∷ ys) h = never h
same_true (x ∷ xs) [] h = never h
same_true (x ∷ xs) (y ∷ ys) h = let t = both (eqb x y) (same xs ys) h in ap₂ (λ (c : ℕ) (l : List ℕ). c ∷ l) (eqb-true x y t.0) (same_true xs ys t.1)

-- ---- rising periods

-- they rise where each is below the next
all-rise : (es : List Entry) → AllAdjacentBelow (λ x y. true ≡ ltb x.period y.period) es (length es) → true ≡ rises es
unfolding rises
all-rise [] h = refl
all-rise (e ∷ []) h = refl
all-rise (e ∷ q ∷ qs) h =
    rw (sym (h 0 e (omega arith)))
    (all-rise (q ∷ qs) (λ k d m. let z : suc k + 1 ≡ suc (k + 1) = omega arith in let next = h (suc k) d (omega arith) in rw z at next))

-- and not where one is not
one-falls : (es : List Entry) (k : ℕ) → k + 1 < length es
    → ((d : Entry) → false ≡ ltb (slice_index_or es k d).period (slice_index_or es (k + 1) d).period) → false ≡ rises es
unfolding rises
one-falls [] k h f = absurd (omega arith)
one-falls (e ∷ []) k h f = absurd (omega arith)
one-falls (e ∷ q ∷ qs) zero h f = rw (sym (f e)) refl
one-falls (e ∷ q ∷ qs) (suc k) h f =
    let z : suc k + 1 ≡ suc (k + 1) = omega arith in
    sym (second-fails (ltb e.period q.period) _ (sym (one-falls (q ∷ qs) k (omega arith) (λ d. let here = f d in rw z at here))))

-- `entries.is_sorted_by(..)`
pub rises-adjacent : (es : List Entry) (r : Bool) → IsAllAdjacentAnswer (λ x y b. b ≡ ltb x.period y.period) es r → r ≡ rises es
rises-adjacent es true h = all-rise es h
rises-adjacent es false h = one-falls es h.0 h.1 h.2

-- ---- the entries that lines show

-- the entry that line i shows
abbrev pub shown_by : ℕ → List ℕ → ℕ → Entry
shown_by p bytes i = entry_in p (part bytes (line_length * i) line_length)

-- n lines show n entries
lines-length : (p n : ℕ) (bytes : List ℕ) → length (lines_in p n bytes) ≡ n
unfolding lines_in
lines-length p zero bytes = refl
lines-length p (suc n) bytes = ap suc (lines-length p n (drop line_length bytes))

-- entry i is the one that line i shows
lines_at : (p n i : ℕ) (bytes : List ℕ) → i < n → get_or (lines_in p n bytes) i blank ≡ shown_by p bytes i
unfolding lines_in
lines_at p zero i bytes h = absurd (omega arith)
lines_at p (suc n) zero bytes h = refl
lines_at p (suc n) (suc i) bytes h =
    let e : line_length + line_length * i ≡ line_length * suc i = omega arith in
    lines_at p n i (drop line_length bytes) (omega arith)
    ∙ ap (λ (l : List ℕ). entry_in p (take line_length l)) (drop-drop (line_length * i) line_length bytes)
    ∙ ap (λ (k : ℕ). entry_in p (part bytes k line_length)) e

-- the entries that a page of n lines shows
pub entries-of : (p : ℕ) (bytes : List ℕ) (n : ℕ) → length bytes / line_length ≡ n → entries_in p bytes ≡ lines_in p n bytes
unfolding entries_in lines_number
entries-of p bytes n e = ap (λ (k : ℕ). lines_in p k bytes) e

pub lines-few : (bytes : List ℕ) (n : ℕ) → length bytes / line_length ≡ n → n ≤ most_lines → lines_number bytes ≤ most_lines
unfolding lines_number
lines-few bytes n e h = omega arith

-- a page of few lines shows few entries
pub few-entries : (p : ℕ) (bytes : List ℕ) → lines_number bytes ≤ most_lines → length (entries_in p bytes) ≤ most_lines
unfolding entries_in
few-entries p bytes h = omega (arith, lines-length p (lines_number bytes) bytes)

-- ---- pages by value

-- a page of no entries
pub page-none : page_of [] ≡ record { lines = replicate most_lines blank; count = 0 }
unfolding page_of
page-none = ap (λ (l : List Entry). record { lines = l; count = 0 }) (filled_none blank most_lines _)

-- a page of the entries that n lines show
pub page-lines : (p n : ℕ) (bytes : List ℕ) → record { lines = filled blank most_lines n (shown_by p bytes); count = n } ≡ page_of (lines_in p n bytes)
unfolding page_of
page-lines p n bytes =
    ap (λ (l : List Entry). record { lines = l; count = n }) (filled-same blank most_lines n _ _ (λ i h k. sym (lines_at p n i bytes h)))
    ∙ ap (λ (k : ℕ). record { lines = filled blank most_lines k (λ i. get_or (lines_in p n bytes) i blank); count = k }) (sym (lines-length p n bytes))

-- as many places as there are entries
filled-whole : (es : List Entry) → filled blank (length es) (length es) (λ i. get_or es i blank) ≡ es
unfolding filled
filled-whole [] = refl
filled-whole (e ∷ es) = ap (λ (l : List Entry). e ∷ l) (filled-whole es)

-- the lines in use of a page of these entries
pub page-shows : (es : List Entry) → length es ≤ most_lines → take (page_of es).count (page_of es).lines ≡ es
unfolding page_of
page-shows es h = take-filled blank most_lines (length es) (λ i. get_or es i blank) h ∙ filled-whole es

-- as many lines are in use as there are entries
pub page-count : (es : List Entry) → (page_of es).count ≡ length es
unfolding page_of
page-count es = refl

-- ---- which refusal is made, and what is then read

-- p is 1 to 4 where it is within its range
pub commands-low : (p : ℕ) → commands_ok p ≡ true → 1 ≤ p
unfolding commands_ok
commands-low p e = leb-true 1 p (both (leb 1 p) (leb p 4) e).0

pub commands-high : (p : ℕ) → commands_ok p ≡ true → p ≤ 4
unfolding commands_ok
commands-high p e = leb-true p 4 (both (leb 1 p) (leb p 4) e).1

module _ (p : ℕ) (bytes : List ℕ) where
  -- p is out of its range
  pub read-sizes : commands_ok p ≡ false → read_refusal p bytes ≡ 2
  unfolding read_refusal
  read-sizes s = first_holds 2 _ _ (ap not s)

  -- p is within it, and the bytes are no page
  pub read-malformed : commands_ok p ≡ true → is_page p bytes ≡ false → read_refusal p bytes ≡ 14
  unfolding read_refusal
  read-malformed s h = first-fails 2 _ _ (ap not s) ∙ first_holds 14 _ _ (ap not h)

  -- they are one
  pub read_done : commands_ok p ≡ true → is_page p bytes ≡ true → read_refusal p bytes ≡ 0
  unfolding read_refusal
  read_done s h = first-fails 2 _ _ (ap not s) ∙ first-fails 14 _ _ (ap not h) ∙ none-holds

  -- a refused call reads nothing
  pub none_read : (k : ℕ) → read_refusal p bytes ≡ suc k → read_entries p bytes ≡ []
  unfolding read_entries
  none_read k e = pick-false _ _ _ (rw (e, eqb-suc-zero))

  -- any other reads what the page shows
  pub entries-read : read_refusal p bytes ≡ 0 → read_entries p bytes ≡ entries_in p bytes
  unfolding read_entries
  entries-read e = pick_true _ _ _ (eq-eqb _ 0 e)

  -- too many lines are no page
  pub too_long : most_lines < lines_number bytes → is_page p bytes ≡ false
  unfolding is_page
  too_long h = rw (lt-leb _ _ h)

  -- nor are lines that do not rise
  pub not-rising : rises (entries_in p bytes) ≡ false → is_page p bytes ≡ false
  unfolding is_page
  not-rising h = second-fails (leb (lines_number bytes) most_lines) _ (rw h)

  -- nor bytes that are not the lines of the entries that they show
  pub not_written : same bytes (page_bytes p (entries_in p bytes)) ≡ false → is_page p bytes ≡ false
  unfolding is_page
  not_written h = second-fails (leb (lines_number bytes) most_lines) _ (second-fails (rises (entries_in p bytes)) _ h)

  -- all others are one
  pub is-page : lines_number bytes ≤ most_lines → rises (entries_in p bytes) ≡ true → same bytes (page_bytes p (entries_in p bytes)) ≡ true
      → is_page p bytes ≡ true
  unfolding is_page
  is-page few r w = rw (le-leb _ _ few, r, w)

  -- what it tells that nothing is refused
  pub record Accepted : Type 0 where
    pub sized : commands_ok p ≡ true
    pub few : lines_number bytes ≤ most_lines
    pub rising : rises (entries_in p bytes) ≡ true
    pub lines : bytes ≡ page_bytes p (entries_in p bytes)

  pub accepted : read_refusal p bytes ≡ 0 → Accepted
  unfolding read_refusal is_page
  accepted e =
      let first = passed 2 _ _ (omega arith) e in
      let second = passed 14 _ _ (omega arith) first.1 in
      let page = both _ _ (not-false _ second.0) in
      let rest = both _ _ page.1 in
      record { sized = not-false _ first.0; few = leb-true _ _ page.0; rising = rest.0; lines = same_true _ _ rest.1 }
