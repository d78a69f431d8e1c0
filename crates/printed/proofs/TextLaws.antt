-- Laws of a text's lines, one after the other: those that are left, and what one of them adds. Assumes nothing.
use mathlib.Core.Path.{◌≡◌, refl, sym, ap, ap₂, ◌∙◌}
use mathlib.Core.Bool.{Bool, true, false, not}
use mathlib.Core.List.{List, [], ◌∷◌, ◌++◌, map, append-nil, append_assoc}
use Prim.Native.Nat.{ℕ, suc, ◌+◌, ◌-◌, ◌≤◌, ◌<◌}
use native.Mathlib.Omega.{arith}
use lib.Dec.{eqb}
use lib.ListN.{length, take, drop}
use borrow.Author.Tests.{eq-eqb, ne_eqb}
use Rattle.std.specs.Prelude.{Option, None, Some}
use Rattle.std.specs.Int.{from_bool}
use Rattle.lists.specs.Choice.{pick}
use Rattle.lists.proofs.Choice.{pick_true, pick-false, pick-holds}
use Rattle.text.specs.Lines.{first_line, after_line, lines_of}
use Rattle.text.proofs.LineLaws.{lines_next, lines_end, no_lines}
use Rattle.pages.specs.declared.entries.Entry.{Entry}
use Rattle.line.specs.Fields.{field}
use Rattle.printed.specs.declared.lines.Printed.{Printed}
use Rattle.printed.specs.Lines.{is_step, is_ok, is_other, step_line, no_step, printed_as}
use Rattle.printed.specs.Pages.{most, printed_in, commands, first_commands, entry_on, with_entry, is_passed, entries_in, passed_in}
use Rattle.printed.proofs.LineLaws.{commands-most}

-- ---- the lines that are left

-- what stands from `at` on, after so many lines, each line for what it is
abbrev pub left : List ℕ → ℕ → ℕ → List Printed
left text at number = map printed_as (lines_of (most - number) (drop at text))

-- before the first line all are left
pub all_left : (text : List ℕ) → left text 0 0 ≡ printed_in text
unfolding printed_in
all_left text = refl

-- the next line, and those behind it
pub left-next : (text : List ℕ) (at number stop : ℕ) (l : Printed) → number < most → at < length text
    → take (stop - at) (drop at text) ≡ first_line (drop at text) → drop (stop + 1) text ≡ after_line (drop at text)
    → l ≡ printed_as (take (stop - at) (drop at text)) → left text at number ≡ l ∷ left text (stop + 1) (number + 1)
left-next text at number stop l h here first following e =
    let next : most - number ≡ suc (most - (number + 1)) = omega arith in
    ap (λ (n : ℕ). map printed_as (lines_of n (drop at text))) next
    ∙ ap (map printed_as) (lines_next (most - (number + 1)) text at here)
    ∙ ap₂ (λ (q : Printed) (t : List ℕ). q ∷ map printed_as (lines_of (most - (number + 1)) t)) (ap printed_as (sym first) ∙ sym e) (sym following)

-- at the text's end none is left
pub left_end : (text : List ℕ) (at number : ℕ) → length text ≤ at → left text at number ≡ []
left_end text at number h = ap (map printed_as) (lines_end (most - number) text at h)

-- after the last line that is looked at none is left
pub left-none : (text : List ℕ) (at number : ℕ) → most ≤ number → left text at number ≡ []
left-none text at number h =
    let none : most - number ≡ 0 = omega arith in
    ap (map printed_as) (no_lines (most - number) (drop at text) none)

-- ---- what one line adds

-- a line without a command
pub first_next : (l : Printed) (ls : List Printed) → commands l ≡ 0 → first_commands (l ∷ ls) ≡ first_commands ls
unfolding first_commands
first_next l ls e = pick_true _ _ _ (eq-eqb _ _ e)

-- the first line with one
pub first_found : (l : Printed) (ls : List Printed) → (commands l ≡ 0 → ⊥) → first_commands (l ∷ ls) ≡ commands l
unfolding first_commands
first_found l ls n = pick-false _ _ _ (ne_eqb _ _ n)

-- no line
pub first-none : (ls : List Printed) → ls ≡ [] → first_commands ls ≡ 1
unfolding first_commands
first-none ls e = ap first_commands e

-- an entry before others, or none
with-append : (o : Option Entry) (es : List Entry) → with_entry o es ≡ with_entry o [] ++ es
with-append (Some e) es = refl
with-append None es = refl

-- entries so far, and no line left
pub entries_none : (p : ℕ) (es : List Entry) (ls : List Printed) → ls ≡ [] → es ++ entries_in p ls ≡ es
unfolding entries_in
entries_none p es ls e = ap (λ (t : List Printed). es ++ entries_in p t) e ∙ append-nil es

-- entries so far, and those of one line more
pub entries-more : (p : ℕ) (es fs : List Entry) (l : Printed) (ls : List Printed) → fs ≡ es ++ with_entry (entry_on p l) []
    → fs ++ entries_in p ls ≡ es ++ entries_in p (l ∷ ls)
unfolding entries_in
entries-more p es fs l ls e =
    ap (λ (t : List Entry). t ++ entries_in p ls) e
    ∙ append_assoc es (with_entry (entry_on p l) []) (entries_in p ls)
    ∙ ap (λ (t : List Entry). es ++ t) (sym (with-append (entry_on p l) (entries_in p ls)))

-- one line more that is passed over, or not
pub passed-next : (p : ℕ) (l : Printed) (ls : List Printed) → passed_in p (l ∷ ls) ≡ from_bool (is_passed p l) + passed_in p ls
unfolding passed_in pick
passed-next p l ls = by (is_passed p l)
  where
    by : (b : Bool) → pick b (suc (passed_in p ls)) (passed_in p ls) ≡ from_bool b + passed_in p ls
    by true = omega arith
    by false = omega arith

pub one_at_most : (b : Bool) → from_bool b ≤ 1
one_at_most true = omega arith
one_at_most false = omega arith

-- no line
pub passed_none : (p : ℕ) (ls : List Printed) → ls ≡ [] → passed_in p ls ≡ 0
unfolding passed_in
passed_none p ls e = ap (passed_in p) e

-- ---- how many values a command has

none-commands : (foreign : Bool) → commands (no_step foreign) ≤ 4
none-commands true = omega arith
none-commands false = omega arith

-- the command of any line has at most four
line-commands : (line : List ℕ) → commands (printed_as line) ≤ 4
unfolding printed_as
line-commands line =
    let few : Printed → Type 0 = λ l. commands l ≤ 4 in
    pick-holds few (is_step line) _ _
    (λ _. pick-holds few (is_ok (field 2 line)) (step_line line) (no_step false) (λ _. commands-most line) (λ _. omega arith))
    (λ _. none-commands (not (is_other line)))

-- so pages have at most four commands
pub first-few : (lines : List (List ℕ)) → first_commands (map printed_as lines) ≤ 4
unfolding first_commands
first-few [] = omega arith
first-few (l ∷ ls) =
    pick-holds (λ (n : ℕ). n ≤ 4) (eqb (commands (printed_as l)) 0) (first_commands (map printed_as ls)) (commands (printed_as l))
    (λ _. first-few ls) (λ _. line-commands l)
