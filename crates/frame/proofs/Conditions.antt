-- The conditions of refusal 8 as plain facts, and the facts as conditions. Assumes nothing.
use mathlib.Core.Path.{◌≡◌, refl, sym, ap, ◌∙◌}
use mathlib.Core.Bool.{Bool, true, false, ◌&&◌}
use mathlib.Core.List.{List}
use Prim.Native.Nat.{ℕ, ◌+◌, ◌≤◌, ◌<◌}
use native.Mathlib.Omega.{arith}
use lib.ListN.{length, get_or}
use lib.Dec.{eqb, leb}
use borrow.Author.Tests.{eq-eqb, ne_eqb, eqb-true, leb-true, leb-false}
use Rattle.lists.proofs.Booleans.{both}
use Rattle.lists.proofs.Choice.{pick-ok, pick_true, pick-false}
use Rattle.octets.specs.Words.{number_at}
use Rattle.estimate.specs.Lengths.{state_length, readings_length, estimate_length}
use Rattle.frame.specs.Sizes.{sizes_ok}
use Rattle.frame.specs.Kinds.{kind_ok, part_count, has_parts}
use Rattle.frame.specs.Lengths.{header_length, pair_start, parts_start, frame_length}
use Rattle.frame.specs.Reading.{kind_in, length_ok, part_count_ok, byte_three_ok, pairs_ok, header_ok}

-- ---- what the code answers by `&&`, a test after the other: where the first holds it is the second, and else it is the first

pub and_then : (t u v : Bool) → t ≡ true → v ≡ u → v ≡ t && u
and_then t u v e i = rw e i

pub and_else : (t u v : Bool) → t ≡ false → v ≡ t → v ≡ t && u
and_else t u v e i = rw e (i ∙ e)

joined : (a b c : Bool) → (a && b) && c ≡ a && (b && c)
joined true b c = refl
joined false b c = refl

-- the tests of a chain stand in the order of the definition
pub chain_of_four : (a b c d v₁ v₂ r : Bool) → v₁ ≡ a && b → v₂ ≡ v₁ && c → r ≡ v₂ && d → r ≡ a && (b && (c && d))
chain_of_four true b c d v₁ v₂ r e₁ e₂ e = e ∙ ap (λ v. v && d) (e₂ ∙ ap (λ v. v && c) e₁) ∙ joined b c d
chain_of_four false b c d v₁ v₂ r e₁ e₂ e = e ∙ ap (λ v. v && d) (e₂ ∙ ap (λ v. v && c) e₁)

pub chain_of_five : (a b c d e v₁ v₂ v₃ r : Bool) → v₁ ≡ a && b → v₂ ≡ v₁ && c → v₃ ≡ v₂ && d → r ≡ v₃ && e → r ≡ a && (b && (c && (d && e)))
chain_of_five true b c d e v₁ v₂ v₃ r e₁ e₂ e₃ h = chain_of_four b c d e v₂ v₃ r (e₂ ∙ ap (λ v. v && c) e₁) e₃ h
chain_of_five false b c d e v₁ v₂ v₃ r e₁ e₂ e₃ h = h ∙ ap (λ v. v && e) (e₃ ∙ ap (λ v. v && d) (e₂ ∙ ap (λ v. v && c) e₁))

pub record Sized (n m : ℕ) : Type 0 where
  pub n-low : 1 ≤ n
  pub n-high : n ≤ 6
  pub m-low : 1 ≤ m
  pub m-high : m ≤ 4

pub sizes : (n m : ℕ) → sizes_ok n m ≡ true → Sized n m
unfolding sizes_ok
sizes n m e =
    let p = both (leb 1 n) _ e in
    let q = both (leb n 6) _ p.1 in
    let r = both (leb 1 m) _ q.1 in
    record { n-low = leb-true 1 n p.0; n-high = leb-true n 6 q.0; m-low = leb-true 1 m r.0; m-high = leb-true m 4 r.1 }

-- ---- the header

pub record Header (n m : ℕ) (b : List ℕ) : Type 0 where
  pub len : length b ≡ frame_length n m (kind_in b)
  pub known : kind_ok (kind_in b) ≡ true
  pub count : get_or b 2 0 ≡ part_count (kind_in b)
  pub zeroed : get_or b 3 0 ≡ 0

module _ (n m : ℕ) (b : List ℕ) where
  pub header-facts : header_ok n m b ≡ true → Header n m b
  unfolding header_ok length_ok part_count_ok byte_three_ok
  header-facts e =
      let p = both (length_ok n m b) _ e in
      let q = both (kind_ok (kind_in b)) _ p.1 in
      let r = both (part_count_ok b) _ q.1 in
      record { len = eqb-true _ _ p.0; known = q.0; count = eqb-true _ _ r.0; zeroed = eqb-true _ _ r.1 }

  pub header-holds : Header n m b → header_ok n m b ≡ true
  unfolding header_ok length_ok part_count_ok byte_three_ok
  header-holds h = rw (eq-eqb _ _ h.len, h.known, eq-eqb _ _ h.count, eq-eqb _ _ h.zeroed)

  length-least : header_length ≤ frame_length n m (kind_in b)
  length-least = pick-ok (λ (k : ℕ). header_length ≤ k) (has_parts (kind_in b)) _ _ (λ _. omega arith) (λ _. omega arith)

  pub too_short : length b < header_length → header_ok n m b ≡ false
  unfolding header_ok length_ok
  too_short h = let l = length-least in rw (ne_eqb (length b) (frame_length n m (kind_in b)) (λ e. omega arith))

  with-room-by : (room : Bool) → leb header_length (length b) ≡ room → room && header_ok n m b ≡ header_ok n m b
  with-room-by true e = refl
  with-room-by false e = sym (too_short (leb-false header_length (length b) e))

  -- bytes that are asked for room first are asked no more
  pub with_room : leb header_length (length b) && header_ok n m b ≡ header_ok n m b
  with_room = with-room-by (leb header_length (length b)) refl

  -- a header is there in any case
  pub header-there : Header n m b → header_length ≤ length b
  header-there h = omega (arith, h.len, length-least)

  pub no-parts-length : Header n m b → has_parts (kind_in b) ≡ false → length b ≡ header_length
  no-parts-length h k = h.len ∙ pick-false _ _ _ k

  pub parts-length : Header n m b → has_parts (kind_in b) ≡ true → length b ≡ parts_start + estimate_length n m
  parts-length h k = h.len ∙ pick_true _ _ _ k

-- ---- the pairs

pub record Pairs (n m : ℕ) (b : List ℕ) : Type 0 where
  pub state-offset : number_at 2 b (pair_start 0) ≡ parts_start
  pub state-length : number_at 2 b (pair_start 0 + 2) ≡ state_length n
  pub readings-offset : number_at 2 b (pair_start 1) ≡ parts_start + state_length n
  pub readings-length : number_at 2 b (pair_start 1 + 2) ≡ readings_length m

pub pairs-facts : (n m : ℕ) (b : List ℕ) → pairs_ok n m b ≡ true → Pairs n m b
unfolding pairs_ok
pairs-facts n m b e =
    let p = both (eqb (number_at 2 b (pair_start 0)) parts_start) _ e in
    let q = both (eqb (number_at 2 b (pair_start 0 + 2)) (state_length n)) _ p.1 in
    let r = both (eqb (number_at 2 b (pair_start 1)) (parts_start + state_length n)) _ q.1 in
    record {
      state-offset = eqb-true _ _ p.0;
      state-length = eqb-true _ _ q.0;
      readings-offset = eqb-true _ _ r.0;
      readings-length = eqb-true _ _ r.1;
    }

pub pairs-hold : (n m : ℕ) (b : List ℕ) → Pairs n m b → pairs_ok n m b ≡ true
unfolding pairs_ok
pairs-hold n m b p = rw (eq-eqb _ _ p.state-offset, eq-eqb _ _ p.state-length, eq-eqb _ _ p.readings-offset, eq-eqb _ _ p.readings-length)
