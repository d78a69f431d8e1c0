-- Reading a command: which refusal it makes, what it then gives, and the condition of refusal 8 as plain facts. Assumes nothing.
use mathlib.Core.Path.{◌≡◌, refl, sym, ap, ◌∙◌}
use mathlib.Core.Bool.{Bool, true, false, not, ◌&&◌}
use mathlib.Core.List.{List}
use Prim.Native.Nat.{ℕ, suc, ◌≤◌}
use native.Mathlib.Omega.{arith}
use lib.ListN.{length, get_or}
use lib.Dec.{eqb, leb, eqb-suc-zero}
use borrow.Author.Tests.{eq-eqb, eqb-true, le-leb, leb-true}
use Rattle.lists.proofs.Booleans.{both}
use Rattle.lists.proofs.Choice.{pick_true, pick-false}
use Rattle.lists.proofs.Refusals.{none-holds, first_holds, first-fails}
use Rattle.frame.specs.Sizes.{commands_ok}
use Rattle.frame.specs.Lengths.{command_length}
use Rattle.frame.specs.CommandReading.{is_command, command_in, read_command_refusal, no_command, read_command}

pub most-commands : (p : ℕ) → commands_ok p ≡ true → p ≤ 4
unfolding commands_ok
most-commands p e = leb-true p 4 (both (leb 1 p) _ e).1

-- what the code's test of p says
pub commands : (p : ℕ) (b : Bool) → (leb 1 p && leb p 4) ≡ b → commands_ok p ≡ b
unfolding commands_ok
commands p b e = e

-- ---- the bytes

pub record CommandBytes (p : ℕ) (b : List ℕ) : Type 0 where
  pub len : length b ≡ command_length p
  pub five : get_or b 0 0 ≡ 5
  pub count : get_or b 1 0 ≡ p
  pub mark-two : get_or b 2 0 ≤ 1
  pub zero-three : get_or b 3 0 ≡ 0

module _ (p : ℕ) (b : List ℕ) where
  pub command-facts : is_command p b ≡ true → CommandBytes p b
  unfolding is_command
  command-facts e =
      let l = both (eqb (length b) (command_length p)) _ e in
      let f = both (eqb (get_or b 0 0) 5) _ l.1 in
      let c = both (eqb (get_or b 1 0) p) _ f.1 in
      let z = both (leb (get_or b 2 0) 1) _ c.1 in
      record {
        len = eqb-true _ _ l.0;
        five = eqb-true _ _ f.0;
        count = eqb-true _ _ c.0;
        mark-two = leb-true _ _ z.0;
        zero-three = eqb-true _ _ z.1;
      }

  pub command-holds : CommandBytes p b → is_command p b ≡ true
  unfolding is_command
  command-holds h =
      rw (eq-eqb _ _ h.len, eq-eqb _ _ h.five, eq-eqb _ _ h.count, le-leb _ _ h.mark-two, eq-eqb _ _ h.zero-three)

  -- ---- the refusals

  pub read-command-sizes : commands_ok p ≡ false → read_command_refusal p b ≡ 2
  unfolding read_command_refusal
  read-command-sizes s = first_holds 2 _ _ (ap not s)

  pub read-command-malformed : commands_ok p ≡ true → is_command p b ≡ false → read_command_refusal p b ≡ 8
  unfolding read_command_refusal
  read-command-malformed s h = first-fails 2 _ _ (ap not s) ∙ first_holds 8 _ _ (ap not h)

  pub read-command-done : commands_ok p ≡ true → is_command p b ≡ true → read_command_refusal p b ≡ 0
  unfolding read_command_refusal
  read-command-done s h = first-fails 2 _ _ (ap not s) ∙ first-fails 8 _ _ (ap not h) ∙ none-holds

  pub no-command-read : (k : ℕ) → read_command_refusal p b ≡ suc k → read_command p b ≡ no_command
  unfolding read_command
  no-command-read k e = pick-false _ _ _ (rw (e, eqb-suc-zero))

  pub command-read : read_command_refusal p b ≡ 0 → read_command p b ≡ command_in p b
  unfolding read_command
  command-read e = pick_true _ _ _ (eq-eqb _ 0 e)

  -- what it tells that nothing is refused
  pub record AcceptedCommand : Type 0 where
    pub most : p ≤ 4
    pub bytes : CommandBytes p b

  accepted-by : (s t : Bool) → commands_ok p ≡ s → is_command p b ≡ t → read_command_refusal p b ≡ 0 → AcceptedCommand
  accepted-by true true es et e = record { most = most-commands p es; bytes = command-facts et }
  accepted-by true false es et e = absurd (let z : ◌≡◌ {A = ℕ} 8 0 = sym (read-command-malformed es et) ∙ e in omega arith)
  accepted-by false t es et e = absurd (let z : ◌≡◌ {A = ℕ} 2 0 = sym (read-command-sizes es) ∙ e in omega arith)

  pub accepted-command : read_command_refusal p b ≡ 0 → AcceptedCommand
  accepted-command e = accepted-by (commands_ok p) (is_command p b) refl refl e
