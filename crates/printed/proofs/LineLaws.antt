-- Laws of printed lines: numbers with commas between them, one after the other, and the fields of a line. Assumes nothing.
use mathlib.Core.Path.{◌≡◌, refl, sym, ap, ◌∙◌}
use mathlib.Core.Bool.{Bool, true, false, ◌&&◌, ◌||◌}
use mathlib.Core.List.{List, [], ◌∷◌}
use Prim.Native.Nat.{ℕ, zero, suc, ◌-◌, ◌≤◌, ◌<◌}
use native.Mathlib.Omega.{arith}
use lib.Dec.{eqb}
use lib.IntN.{ℤ, pos}
use lib.ListN.{length, get_or, take, drop, length-drop}
use lib.Seq.{length-take-le, drop-cons}
use borrow.Author.Tests.{lt-ltb, le-ltb}
use Rattle.std.specs.Prelude.{Option, None, Some, nat_eq}
use Rattle.std.specs.Cmp.Lexicographic.{pointwise}
use Rattle.std.specs.Option.{is_some, unwrap_or}
use Rattle.lists.specs.Choice.{pick}
use Rattle.lists.specs.Places.{filled}
use Rattle.lists.proofs.Booleans.{never, both}
use Rattle.lists.proofs.Choice.{pick_true, pick-false, pick-holds}
use Rattle.lists.proofs.Parts.{drop-beyond}
use Rattle.lists.proofs.Places.{take-blanks}
use Rattle.line.specs.Fields.{spaces, field}
use Rattle.text.specs.Numbers.{number_of, value_in, is_whole}
use Rattle.text.specs.Lines.{up_to, after}
use Rattle.printed.specs.declared.values.Values.{Values}
use Rattle.printed.specs.Values.{has_comma, is_list, how_many, value_at, values_of}
use Rattle.printed.specs.Lines.{is_none, is_refusal_number, is_refusal, unstarred, head_ok, counters_ok, is_frame, tail_ok, ten_ok, is_step, commands_in}

-- ---- numbers with commas between them

module _ (list : List ℕ) (at end : ℕ) (from : at ≤ end) (room : end ≤ length list)
    (part : take (end - at) (drop at list) ≡ up_to 44 (drop at list)) where
  -- a part is as long as it is from its start to its end
  part_length : length (up_to 44 (drop at list)) ≡ end - at
  part_length = sym (ap length part) ∙ length-take-le (end - at) (drop at list) (omega (arith, length-drop at list))

  -- a comma stands after a part that ends before the list does
  pub comma-after : end < length list → has_comma (drop at list) ≡ true
  unfolding has_comma
  comma-after h = lt-ltb (length (up_to 44 (drop at list))) (length (drop at list)) (omega (arith, part_length, length-drop at list))

  -- none stands after any other
  pub no-comma-after : length list ≤ end → has_comma (drop at list) ≡ false
  unfolding has_comma
  no-comma-after h = le-ltb (length (up_to 44 (drop at list))) (length (drop at list)) (omega (arith, part_length, length-drop at list))

-- no numbers at all are no list
pub list-none : (k : ℕ) (bytes : List ℕ) → k ≡ 0 → is_list k bytes ≡ false
unfolding is_list
list-none k bytes e = rw e

module _ (k l : ℕ) (bytes : List ℕ) (more : k ≡ suc l) where
  -- a part that is no number makes no list
  pub list-fails : is_whole (number_of (up_to 44 bytes)) ≡ false → is_list k bytes ≡ false
  unfolding is_list
  list-fails w = rw (more, w)

  -- the last part of a list
  pub list-last : is_whole (number_of (up_to 44 bytes)) ≡ true → has_comma bytes ≡ false → is_list k bytes ≡ true
  unfolding is_list
  list-last w h = rw (more, w, h)

  -- it is one number
  pub many-last : has_comma bytes ≡ false → how_many k bytes ≡ 1
  unfolding how_many pick
  many-last h = rw (more, h)

  -- any other part leaves the rest
  pub list-more : is_whole (number_of (up_to 44 bytes)) ≡ true → has_comma bytes ≡ true → is_list k bytes ≡ is_list l (after 44 bytes)
  unfolding is_list
  list-more w h = rw (more, w, h)

  -- it is one number more
  pub many_more : has_comma bytes ≡ true → how_many k bytes ≡ suc (how_many l (after 44 bytes))
  unfolding how_many pick
  many_more h = rw (more, h)

-- the first value of a list
pub value-first : (bytes : List ℕ) → value_at bytes 0 ≡ value_in (number_of (up_to 44 bytes))
unfolding value_at
value-first bytes = refl

-- the others are those after the comma
pub value_after : (bytes : List ℕ) (j : ℕ) → value_at bytes (suc j) ≡ value_at (after 44 bytes) j
unfolding value_at
value_after bytes j = refl

-- what is no list has no values
pub list_some : (k : ℕ) (bytes : List ℕ) → is_some (pick (is_list k bytes) (Some (values_of k bytes)) None) ≡ is_list k bytes
list_some k bytes = pick-holds (λ (o : Option Values). is_some o ≡ is_list k bytes) (is_list k bytes) _ _ (λ h. sym h) (λ h. sym h)

-- there are at most k numbers
pub many-most : (k : ℕ) (bytes : List ℕ) → how_many k bytes ≤ k
unfolding how_many
many-most zero bytes = omega arith
many-most (suc k) bytes =
    pick-holds (λ (n : ℕ). suc n ≤ suc k) (has_comma bytes) _ _ (λ h. omega (arith, many-most k (after 44 bytes))) (λ h. omega arith)

-- ---- fields

and-true : (b : Bool) → (b && true) ≡ b
and-true true = refl
and-true false = refl

-- `bytes.strip_prefix(b"r")`
first_byte : (bytes : List ℕ) → pointwise nat_eq (take 1 bytes) (114 ∷ []) ≡ eqb (get_or bytes 0 0) 114
first_byte [] = refl
first_byte (b ∷ bs) = and-true (eqb b 114)

-- what does not begin with `r` is no refusal
pub refusal-other : (bytes : List ℕ) → pointwise nat_eq (take 1 bytes) (114 ∷ []) ≡ false → is_refusal bytes ≡ false
unfolding is_refusal
refusal-other bytes h = rw (sym (first_byte bytes) ∙ h)

-- behind an `r` its number is left to be tested
pub refusal-number : (bytes : List ℕ) → pointwise nat_eq (take 1 bytes) (114 ∷ []) ≡ true → is_refusal bytes ≡ is_refusal_number (drop 1 bytes)
unfolding is_refusal
refusal-number bytes h = rw (sym (first_byte bytes) ∙ h)

-- `bytes.strip_suffix(b"*")`
last_byte : (bytes : List ℕ) → pointwise nat_eq (drop (length bytes - 1) bytes) (42 ∷ []) ≡ eqb (get_or bytes (length bytes - 1) 0) 42
last_byte [] = refl
last_byte (b ∷ bs) =
    let k : ℕ = length (b ∷ bs) - 1 in
    let whole : drop k (b ∷ bs) ≡ get_or (b ∷ bs) k 0 ∷ [] =
    drop-cons (b ∷ bs) k 0 (omega arith) ∙ ap (λ (l : List ℕ). get_or (b ∷ bs) k 0 ∷ l) (drop-beyond (b ∷ bs) (suc k) (omega arith)) in
    ap (λ (l : List ℕ). pointwise nat_eq l (42 ∷ [])) whole ∙ and-true (eqb (get_or (b ∷ bs) k 0) 42)

-- a star at the end is left out
pub star-out : (bytes : List ℕ) → pointwise nat_eq (drop (length bytes - 1) bytes) (42 ∷ []) ≡ true → unstarred bytes ≡ take (length bytes - 1) bytes
unfolding unstarred
star-out bytes h = pick_true _ _ _ (sym (last_byte bytes) ∙ h)

-- what has none stays
pub no-star : (bytes : List ℕ) → pointwise nat_eq (drop (length bytes - 1) bytes) (42 ∷ []) ≡ false → unstarred bytes ≡ bytes
unfolding unstarred
no-star bytes h = pick-false _ _ _ (sym (last_byte bytes) ∙ h)

-- ---- a choice that may be none

pub none-is : {A : Type 0} (b : Bool) (x : A) → pick b None (Some x) ≡ None → b ≡ true
unfolding pick
none-is true x h = refl
none-is false x h = never (sym (ap is_some h))

pub some-is : {A : Type 0} (b : Bool) (x y : A) → pick b None (Some x) ≡ Some y → (b ≡ false) × (x ≡ y)
unfolding pick
some-is true x y h = never (ap is_some h)
some-is false x y h = (refl, ap (λ o. unwrap_or o x) h)

-- ---- a step's line

-- the command of a step's line is none, or a list
pub step-command : (line : List ℕ) → is_step line ≡ true → (is_none (field 9 line) || is_list 4 (unstarred (field 9 line))) ≡ true
unfolding is_step ten_ok tail_ok
step-command line h =
    let a = both (eqb (spaces line) 9) _ h in
    let b = both (head_ok line) _ a.1 in
    let c = both (counters_ok line) _ b.1 in
    let d = both (is_list 6 (field 7 line)) _ c.1 in
    (both (is_frame false (field 8 line)) _ d.1).1

-- a command has at most 4 values
pub commands-most : (line : List ℕ) → commands_in line ≤ 4
unfolding commands_in
commands-most line = pick-holds (λ (n : ℕ). n ≤ 4) (is_none (field 9 line)) _ _ (λ h. omega arith) (λ h. many-most 4 (unstarred (field 9 line)))

-- the first places of more
pub fewer-filled : (few width n : ℕ) (f : ℕ → ℤ) → n ≤ few → few ≤ width → take few (filled (pos 0) width n f) ≡ filled (pos 0) few n f
unfolding filled
fewer-filled zero width n f h l = refl
fewer-filled (suc few) zero n f h l = absurd (omega arith)
fewer-filled (suc few) (suc width) zero f h l = take-blanks (pos 0) (suc few) (suc width) l
fewer-filled (suc few) (suc width) (suc n) f h l =
    ap (λ (t : List ℤ). f 0 ∷ t) (fewer-filled few width n (λ k. f (suc k)) (omega arith) (omega arith))

-- four of six places, one by one
pub four-of-six : (xs : List ℤ) → length xs ≡ 6
    → get_or xs 0 (pos 0) ∷ get_or xs 1 (pos 0) ∷ get_or xs 2 (pos 0) ∷ get_or xs 3 (pos 0) ∷ [] ≡ take 4 xs
four-of-six [] h = absurd (omega arith)
four-of-six (a ∷ []) h = absurd (omega arith)
four-of-six (a ∷ b ∷ []) h = absurd (omega arith)
four-of-six (a ∷ b ∷ c ∷ []) h = absurd (omega arith)
four-of-six (a ∷ b ∷ c ∷ d ∷ xs) h = refl
