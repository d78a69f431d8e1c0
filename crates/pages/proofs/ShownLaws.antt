-- Laws of what a page shows of the entries that stand on it, which the laws of both ways rest on. Assumes nothing.
use mathlib.Core.Path.{◌≡◌, refl, sym, ap, ap₂, ◌∙◌, subst}
use mathlib.Core.Bool.{true}
use mathlib.Core.List.{List, [], ◌∷◌, ◌++◌, map}
use Prim.Native.Nat.{ℕ, zero, suc, ◌+◌, ◌≤◌, ◌<◌, ◌^◌}
use native.Mathlib.Omega.{arith}
use lib.IntN.{ℤ, pos}
use Rattle.std.specs.Prelude.{Option, None, Some, IfSome}
use Rattle.std.specs.Option.{option_map}
use lib.ListN.{length, take, drop, get_or}
use lib.Seq.{take_at, drop_at, get_or-drop}
use mir.Syntax.{w32}
use mir.Val.{SFits}
use mir.ValLaws.{to_z-Fits}
use Rattle.lists.specs.Places.{entry, filled}
use Rattle.lists.specs.I32.{AllI32}
use Rattle.lists.proofs.Choice.{pick-holds}
use Rattle.lists.proofs.Places.{take-filled}
use Rattle.pages.specs.declared.entries.Entry.{Entry}
use Rattle.pages.specs.Entries.{command_of, entry_of, first_entries, Typed, AllTyped, none, one, shown}
use Rattle.octets.specs.Words.{from_twos_complement}
use Rattle.octets.proofs.TwosComplement.{as-to_z}
use Rattle.text.specs.Printing.{decimal}
use Rattle.pages.specs.Line.{right, command_columns, command_shown, commands_shown, line_text, to_the_end, line_bytes, line_length}
use Rattle.pages.specs.Page.{standing, placed, on_page, rises, page_bytes}
use Rattle.pages.specs.Reading.{entry_in, lines_in}
use Rattle.pages.proofs.LineLaws.{line-length}
use Rattle.pages.proofs.LineReading.{line_reads}
use Rattle.pages.proofs.PlacingLaws.{Order, lower, equal, higher, order, placed-lower, placed-equal, placed-higher, rises-head, rises-tail, rises-cons}

-- ---- the entries that stand on a page

placed-typed : (e : Entry) (l : List Entry) → Typed e → AllTyped l → AllTyped (placed e l)
unfolding placed standing
placed-typed e [] t none = one t none
placed-typed e (q ∷ qs) t (one s ts) = by (order e.period q.period) (placed-typed e qs t ts)
  where
    either : Typed (standing e q)
    either = pick-holds Typed _ q e (λ _. s) (λ _. t)

    by : Order e.period q.period → AllTyped (placed e qs) → AllTyped (placed e (q ∷ qs))
    by (lower m) more = subst AllTyped (sym (placed-lower e q qs m)) (one t (one s ts))
    by (equal m) more = subst AllTyped (sym (placed-equal e q qs m)) (one either ts)
    by (higher m) more = subst AllTyped (sym (placed-higher e q qs m)) (one s more)

pub on-page-typed : (es : List Entry) → AllTyped es → AllTyped (on_page es)
unfolding on_page
on-page-typed [] none = none
on-page-typed (e ∷ es) (one t ts) = placed-typed e (on_page es) t (on-page-typed es ts)

-- entries that rise stand on the page as they are
pub rising-stay : (es : List Entry) → rises es ≡ true → on_page es ≡ es
unfolding on_page placed
rising-stay [] h = refl
rising-stay (e ∷ []) h = refl
rising-stay (e ∷ q ∷ qs) h = ap (placed e) (rising-stay (q ∷ qs) (rises-tail e (q ∷ qs) h)) ∙ placed-lower e q qs (rises-head e q qs h)

-- ---- what a page shows of an entry

pub shown-rises : (p : ℕ) (es : List Entry) → rises es ≡ true → rises (map (shown p) es) ≡ true
unfolding rises shown
shown-rises p [] h = refl
shown-rises p (e ∷ []) h = refl
shown-rises p (e ∷ q ∷ qs) h =
    rises-cons (shown p e) (shown p q) (map (shown p) qs) (rises-head e q qs h) (shown-rises p (q ∷ qs) (rises-tail e (q ∷ qs) h))

filled-first : (n : ℕ) (xs : List ℤ) → n ≤ length xs → filled (pos 0) n n (entry xs) ≡ take n xs
unfolding filled
filled-first zero xs h = refl
filled-first (suc n) [] h = absurd (omega arith)
filled-first (suc n) (x ∷ xs) h = ap (λ (l : List ℤ). x ∷ l) (filled-first n xs (omega arith))

shown-commands : (p : ℕ) (e : Entry) → p ≤ 4 → IfSome e.command (λ c. length c ≡ 4) → commands_shown p (shown p e) ≡ commands_shown p e
unfolding commands_shown command_shown shown
shown-commands p e few four = by e.command four
  where
    by : (o : Option (List ℤ)) → IfSome o (λ c. length c ≡ 4)
        → command_shown p (option_map (λ c. filled (pos 0) 4 p (entry c)) o) ≡ command_shown p o
    by (Some c) size = ap command_columns (take-filled (pos 0) 4 p (entry c) few ∙ filled-first p c (omega arith))
    by None size = refl

shown-line : (p : ℕ) (e : Entry) → p ≤ 4 → IfSome e.command (λ c. length c ≡ 4) → line_bytes p (shown p e) ≡ line_bytes p e
unfolding line_bytes line_text shown
shown-line p e few four =
    ap (λ (l : List ℕ). to_the_end (right 10 (decimal e.period) ++ ((32 ∷ right 10 (decimal e.view)) ++ (32 ∷ l))) ++ (10 ∷ [])) (shown-commands p e few four)

-- the lines are the same
pub shown-bytes : (p : ℕ) (es : List Entry) → p ≤ 4 → AllTyped es → page_bytes p (map (shown p) es) ≡ page_bytes p es
unfolding page_bytes
shown-bytes p [] few none = refl
shown-bytes p (e ∷ es) few (one t ts) = ap₂ (λ (a b : List ℕ). a ++ b) (shown-line p e few t.places) (shown-bytes p es few ts)

-- and they read as the entries that they show
pub lines-read : (p : ℕ) (es : List Entry) → 1 ≤ p → p ≤ 4 → AllTyped es → lines_in p (length es) (page_bytes p es) ≡ map (shown p) es
unfolding lines_in page_bytes
lines-read p [] some few none = refl
lines-read p (e ∷ es) some few (one t ts) =
    let size = line-length p e few in
    ap₂ (λ (a : Entry) (l : List Entry). a ∷ l)
    (ap (entry_in p) (take_at (line_bytes p e) (page_bytes p es) line_length size) ∙ line_reads p e some few t)
    (ap (lines_in p (length es)) (drop_at (line_bytes p e) (page_bytes p es) line_length size) ∙ lines-read p es some few ts)

-- ---- words

value-fits : (x : ℕ) → x < 2 ^ 32 → SFits w32 (from_twos_complement x)
value-fits x h = subst (SFits w32) (sym (as-to_z x)) (to_z-Fits w32 x (record { fits = h }))

four-fit : (a b c d : ℤ) → SFits w32 a → SFits w32 b → SFits w32 c → SFits w32 d → AllI32 (a ∷ b ∷ c ∷ d ∷ [])
four-fit a b c d fa fb fc fd zero = fa
four-fit a b c d fa fb fc fd (suc zero) = fb
four-fit a b c d fa fb fc fd (suc (suc zero)) = fc
four-fit a b c d fa fb fc fd (suc (suc (suc zero))) = fd
four-fit a b c d fa fb fc fd (suc (suc (suc (suc i)))) = record { sfits = omega arith }

entry-typed : (words : List ℕ) → ((i : ℕ) → get_or words i 0 < 2 ^ 32) → Typed (entry_of words)
unfolding entry_of command_of
entry-typed words h =
    record {
      period = h 0;
      view = h 1;
      places = pick-holds (λ (o : Option (List ℤ)). IfSome o (λ c. length c ≡ 4)) _ None _ (λ _. tt) (λ _. refl);
      values =
          pick-holds (λ (o : Option (List ℤ)). IfSome o AllI32) _ None _ (λ _. tt)
          (λ _. four-fit _ _ _ _ (value-fits _ (h 3)) (value-fits _ (h 4)) (value-fits _ (h 5)) (value-fits _ (h 6)));
    }

pub first-typed : (n : ℕ) (words : List ℕ) → ((i : ℕ) → get_or words i 0 < 2 ^ 32) → AllTyped (first_entries n words)
unfolding first_entries
first-typed zero words h = none
first-typed (suc n) words h =
    one (entry-typed words h) (first-typed n (drop 7 words) (λ i. subst (λ (x : ℕ). x < 2 ^ 32) (sym (get_or-drop 7 words i 0)) (h (7 + i))))
