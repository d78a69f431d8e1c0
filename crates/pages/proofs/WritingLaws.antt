-- Which refusal writing makes, and what it then writes: the cases of the definitions. Assumes nothing.
use mathlib.Core.Path.{◌≡◌, ap, ◌∙◌}
use mathlib.Core.Bool.{true, false, not}
use mathlib.Core.List.{List, []}
use Prim.Native.Nat.{ℕ, suc, ◌≤◌, ◌<◌}
use native.Mathlib.Omega.{arith}
use lib.Dec.{ltb, eqb-suc-zero}
use lib.ListN.{length}
use borrow.Author.Tests.{eq-eqb, not-false, le-leb, lt-leb, ltb-true, ltb-false, leb-true}
use Rattle.lists.proofs.Choice.{pick_true, pick-false}
use Rattle.lists.proofs.Refusals.{none-holds, first_holds, first-fails, passed}
use Rattle.pages.specs.declared.entries.Entry.{Entry}
use Rattle.pages.specs.Entries.{commands_ok}
use Rattle.pages.specs.Page.{on_page, page_bytes, most_lines, page_length}
use Rattle.pages.specs.Writing.{page_room, few_periods, write_refusal, written}

module _ (p : ℕ) (entries : List Entry) (area : List ℕ) where
  pub write-sizes : commands_ok p ≡ false → write_refusal p entries area ≡ 2
  unfolding write_refusal
  write-sizes s = first_holds 2 _ _ (ap not s)

  pub write-area : commands_ok p ≡ true → length area < page_length → write_refusal p entries area ≡ 13
  unfolding write_refusal page_room
  write-area s h = first-fails 2 _ _ (ap not s) ∙ first_holds 13 _ _ (ap not (lt-leb page_length (length area) h))

  pub write-periods : commands_ok p ≡ true → page_length ≤ length area → ltb most_lines (length (on_page entries)) ≡ true → write_refusal p entries area ≡ 14
  unfolding write_refusal page_room few_periods
  write-periods s h m =
      first-fails 2 _ _ (ap not s)
      ∙ first-fails 13 _ _ (ap not (le-leb page_length (length area) h))
      ∙ first_holds 14 _ _ (ap not (lt-leb (length (on_page entries)) most_lines (ltb-true _ _ m)))

  pub write_done : commands_ok p ≡ true → page_length ≤ length area → ltb most_lines (length (on_page entries)) ≡ false → write_refusal p entries area ≡ 0
  unfolding write_refusal page_room few_periods
  write_done s h m =
      first-fails 2 _ _ (ap not s)
      ∙ first-fails 13 _ _ (ap not (le-leb page_length (length area) h))
      ∙ first-fails 14 _ _ (ap not (le-leb (length (on_page entries)) most_lines (ltb-false _ _ m)))
      ∙ none-holds

  pub nothing_written : (k : ℕ) → write_refusal p entries area ≡ suc k → written p entries area ≡ []
  unfolding written
  nothing_written k e = pick-false _ _ _ (rw (e, eqb-suc-zero))

  pub page-written : write_refusal p entries area ≡ 0 → written p entries area ≡ page_bytes p (on_page entries)
  unfolding written
  page-written e = pick_true _ _ _ (eq-eqb _ 0 e)

  -- what it tells that nothing is refused
  pub record Accepted : Type 0 where
    pub sized : commands_ok p ≡ true
    pub room : page_length ≤ length area
    pub few : length (on_page entries) ≤ most_lines

  pub accepted : write_refusal p entries area ≡ 0 → Accepted
  unfolding write_refusal page_room few_periods
  accepted e =
      let first = passed 2 _ _ (omega arith) e in
      let second = passed 13 _ _ (omega arith) first.1 in
      let third = passed 14 _ _ (omega arith) second.1 in
      record { sized = not-false _ first.0; room = leb-true _ _ (not-false _ second.0); few = leb-true _ _ (not-false _ third.0) }
