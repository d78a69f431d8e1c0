-- Laws of a page's lines: how long they are, and how they are put together. Assumes nothing.
use mathlib.Core.Path.{◌≡◌, refl, sym, ap, ◌∙◌}
use mathlib.Core.List.{List, [], ◌∷◌, ◌++◌, map, append-nil, append_assoc}
use Prim.Native.Nat.{ℕ, zero, suc, ◌+◌, ◌*◌, ◌-◌, ◌≤◌, ◌<◌}
use native.Mathlib.Omega.{arith}
use lib.ListN.{length, take, get_or, length-append, length-replicate, length-take, length-map}
use lib.IntN.{ℤ}
use lib.Seq.{length-take-le}
use Rattle.std.specs.Prelude.{Option, None, Some, IfSome}
use Rattle.std.specs.Option.{is_some}
use Rattle.lists.specs.Choice.{pick}
use Rattle.text.specs.Printing.{decimal}
use Rattle.text.proofs.PrintingLengths.{decimal-length}
use Rattle.pages.specs.declared.entries.Entry.{Entry}
use Rattle.pages.specs.Entries.{decided}
use Rattle.pages.specs.Line.{spaces, right, hyphen, command_shown, commands_shown, line_text, to_the_end, line_bytes, line_length}
use Rattle.pages.specs.Page.{page_bytes}
use Rattle.pages.proofs.ColumnLaws.{right-length, commands-length}

-- an array of structs that is a field of a struct is as long as it says
pub length-mapped : (X Y : Type 0) (f : X → Y) (l : List X) (n : ℕ) → length (map f l) ≡ n → length l ≡ n
length-mapped X Y f l n e = sym (length-map l f) ∙ e

-- an entry that has four values, and a p that is at most 4
pub record Shown (p : ℕ) (e : Entry) : Type 0 where
  pub few : p ≤ 4
  pub four : IfSome e.command (λ c. length c ≡ 4)

-- the commands take at most 48 columns
command-short : (p : ℕ) (o : Option (List ℤ)) → p ≤ 4 → length (command_shown p o) ≤ 48
unfolding command_shown hyphen
command-short p (Some c) h = omega (arith, commands-length (take p c), length-take p c)
command-short p None h = omega (arith, right-length 12 (45 ∷ []) (omega arith))

module _ (p : ℕ) (e : Entry) (s : Shown p e) where
  -- the commands, or the hyphen, fill their columns
  pub shown-length : length (commands_shown p e) ≡ 12 * pick (decided e) p 1
  unfolding commands_shown command_shown hyphen pick
  shown-length = by e.command s.four
    where
      by : (o : Option (List ℤ)) → IfSome o (λ c. length c ≡ 4) → length (command_shown p o) ≡ 12 * pick (is_some o) p 1
      by (Some c) four = commands-length (take p c) ∙ ap (λ (k : ℕ). 12 * k) (length-take-le p c (omega (arith, s.few, four)))
      by None four = right-length 12 (45 ∷ []) (omega arith)

  -- the text of a line is 22 columns before the commands
  pub text-length : length (line_text p e) ≡ 22 + 12 * pick (decided e) p 1
  unfolding line_text
  text-length =
      let period = right-length 10 (decimal e.period) (decimal-length e.period) in
      let view = right-length 10 (decimal e.view) (decimal-length e.view) in
      let rest = shown-length in
      simp length-append (omega arith)

  -- a line is its parts, one after the other
  pub line-parts : (k : ℕ) → k ≡ 50 - 12 * pick (decided e) p 1
      → right 10 (decimal e.period) ++ (32 ∷ []) ++ right 10 (decimal e.view) ++ (32 ∷ []) ++ commands_shown p e ++ spaces k ++ (10 ∷ [])
      ≡ line_bytes p e
  unfolding line_bytes to_the_end line_text
  line-parts k h =
      let text = text-length in
      let left : k ≡ 72 - length (line_text p e) = omega arith in
      ap (λ (t : List ℕ). t ++ spaces k ++ (10 ∷ [])) whole ∙ ap (λ (j : ℕ). line_text p e ++ spaces j ++ (10 ∷ [])) left
    where
      whole : right 10 (decimal e.period) ++ (32 ∷ []) ++ right 10 (decimal e.view) ++ (32 ∷ []) ++ commands_shown p e ≡ line_text p e
      whole = simp append_assoc refl

-- "lines of exactly 72 bytes plus a line feed", since the commands, or the hyphen, take at most 48
pub line-length : (p : ℕ) (e : Entry) → p ≤ 4 → length (line_bytes p e) ≡ line_length
unfolding line_bytes to_the_end line_text commands_shown
line-length p e h =
    let period = right-length 10 (decimal e.period) (decimal-length e.period) in
    let view = right-length 10 (decimal e.view) (decimal-length e.view) in
    let rest = command-short p e.command h in
    simp (length-append, length-replicate) (omega arith)

-- a page has as many bytes as its lines have together
pub page-length : (p : ℕ) (es : List Entry) → p ≤ 4 → length (page_bytes p es) ≡ line_length * length es
unfolding page_bytes
page-length p [] h = refl
page-length p (e ∷ es) h = omega (arith, length-append (line_bytes p e) (page_bytes p es), line-length p e h, page-length p es h)

-- one line more
pub page-more : (p : ℕ) (lines : List Entry) (i : ℕ) (d : Entry) → i < length lines
    → page_bytes p (take (i + 1) lines) ≡ page_bytes p (take i lines) ++ line_bytes p (get_or lines i d)
unfolding page_bytes
page-more p [] i d h = absurd (omega arith)
page-more p (e ∷ es) zero d h = append-nil (line_bytes p e)
page-more p (e ∷ es) (suc i) d h =
    let z : suc i + 1 ≡ suc (i + 1) = omega arith in
    rw z (ap (λ (t : List ℕ). line_bytes p e ++ t) (page-more p es i d (omega arith)) ∙ sym (append_assoc (line_bytes p e) _ _))
