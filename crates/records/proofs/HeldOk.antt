-- What is asked of what is held, one condition after the other: the first that fails refuses it, and where there is no best estimate nothing is asked of
-- one but that its bytes are 0. Assumes nothing.
use mathlib.Core.Path.{◌≡◌, refl, sym, ap, ◌∙◌}
use mathlib.Core.Bool.{Bool, true, false, ◌&&◌, ◌||◌}
use mathlib.Core.List.{List}
use Prim.Native.Nat.{ℕ, ◌^◌}
use native.Mathlib.Omega.{arith}
use lib.ListN.{length, get_or}
use lib.IntN.{pos}
use lib.Pow.{pow_pos}
use lib.Dec.{ltb, leb}
use borrow.Author.Tests.{lt-ltb, le-leb, eq-eqb, ne_eqb}
use Rattle.lists.specs.Below.{all_below}
use Rattle.lists.specs.Places.{entry}
use Rattle.lists.proofs.Booleans.{never, both, or-true}
use Rattle.lists.proofs.Below.{all_of}
use Rattle.lists.proofs.Choice.{pick_true, pick-false}
use Rattle.lists.proofs.Places.{blank-at}
use Rattle.estimate.specs.declared.Estimate.{Estimate}
use Rattle.estimate.specs.Fields.{no_state, no_estimate}
use Rattle.estimate.specs.Marks.{is_zero, marks_below, absent_zero}
use Rattle.replica.specs.declared.Best.{Best}
use Rattle.replica.specs.declared.Held.{Held}
use Rattle.records.specs.Lengths.{settings_length, record_length}
use Rattle.records.specs.HeldPart.{best_at, held_at}
use Rattle.records.specs.Recording.{no_best}
use Rattle.records.specs.Reading.{states_ok, zero_at, is_box, best_ok, bytes_mean, heard_ok, bases_ok, values_ok, estimate_ok, held_ok}
use Rattle.records.proofs.Facts.{bases-facts, HeldFacts, held-facts, held-holds}
use Rattle.records.proofs.HeldLaws.{any_small}
use Rattle.records.proofs.NoBest.{zero-byte, no-best}

-- ---- conditions one after the other

-- the first one fails
pub stop : {a : Bool} (b : Bool) → a ≡ false → false ≡ (a && b)
stop b e = sym (ap (λ (x : Bool). x && b) e)

-- it does not: the others decide
pub next : {a b r : Bool} → a ≡ true → r ≡ b → r ≡ (a && b)
next {a} {b} {r} e q = q ∙ sym (ap (λ (x : Bool). x && b) e)

also : {a b : Bool} → a ≡ true → b ≡ true → (a && b) ≡ true
also p q = sym (next p (sym q))

same : (a b : Bool) → (a ≡ true → b ≡ true) → (b ≡ true → a ≡ true) → a ≡ b
same true b f g = sym (f refl)
same false true f g = g refl
same false false f g = refl

-- ---- no estimate passes

no-marks : (m k : ℕ) → k ≡ 0 → marks_below m k ≡ true
unfolding marks_below
no-marks m k e = ap (λ (x : ℕ). ltb x (2 ^ m)) e ∙ lt-ltb 0 (2 ^ m) (pow_pos m)

no-states : (n : ℕ) → states_ok n no_state ≡ true
unfolding states_ok
no-states n = all_of (λ i. ltb i n || is_zero (entry no_state i)) 6 (λ i l. rw (blank-at (pos 0) 6 i) (or-true (ltb i n)))

no-values : values_ok no_estimate ≡ true
unfolding values_ok absent_zero all_below
no-values = refl

-- ---- what is held

estimate-holds : (n : ℕ) (e : Estimate) → states_ok n e.state ≡ true → values_ok e ≡ true → estimate_ok n e ≡ true
unfolding estimate_ok
estimate-holds n e s v = also s v

estimate-facts : (n : ℕ) (e : Estimate) → estimate_ok n e ≡ true → (states_ok n e.state ≡ true) × (values_ok e ≡ true)
unfolding estimate_ok
estimate-facts n e t = both (states_ok n e.state) (values_ok e) t

bases-hold : (h : Held) → leb h.base_view h.view ≡ true → leb h.base_period h.period ≡ true → leb h.best.base_view h.view ≡ true
    → leb h.best.base_period h.period ≡ true → bases_ok h ≡ true
unfolding bases_ok
bases-hold h p q r s = also (also p q) (also r s)

module _ (N n m : ℕ) (b : List ℕ) where
  abbrev h : Held
  h = held_at b settings_length

  -- what is asked of the estimate
  abbrev pub own_parts : Bool
  own_parts = marks_below m (get_or b 548 0) && (leb h.base_view h.view && (leb h.base_period h.period && estimate_ok n h.estimate))

  -- and of a best one
  abbrev pub other_parts : Bool
  other_parts =
      is_box N h.best.box_number
      && (marks_below m (get_or b 599 0)
      && (leb h.best.base_view h.view && (leb h.best.base_period h.period && estimate_ok n h.best.estimate)))

  own-holds : HeldFacts N n m h b → own_parts ≡ true
  own-holds f =
      let s = bases-facts h f.bases in
      also f.marks (also (le-leb _ _ s.view) (also (le-leb _ _ s.period) (estimate-holds n h.estimate f.states f.values)))

  other-holds : HeldFacts N n m h b → h.best.any ≡ true → other_parts ≡ true
  unfolding best_ok
  other-holds f any =
      let s = bases-facts h f.bases in
      let box = sym (pick_true h.best.any (is_box N h.best.box_number) (zero_at b 566 50) any) ∙ f.best in
      let rest = estimate-holds n h.best.estimate f.best-states f.best-values in
      also box (also f.best-marks (also (le-leb _ _ s.best-view) (also (le-leb _ _ s.best-period) rest)))

  -- ---- one fails

  pub no-mean : bytes_mean b ≡ false → false ≡ held_ok N n m h b
  no-mean e = same false (held_ok N n m h b) (λ f. never f) (λ t. sym e ∙ (held-facts N n m h b t).mean)

  pub no-heard : heard_ok N h.heard ≡ false → false ≡ held_ok N n m h b
  no-heard e = same false (held_ok N n m h b) (λ f. never f) (λ t. sym e ∙ (held-facts N n m h b t).heard)

  pub no_own : own_parts ≡ false → false ≡ held_ok N n m h b
  no_own e = same false (held_ok N n m h b) (λ f. never f) (λ t. sym e ∙ own-holds (held-facts N n m h b t))

  -- ---- none of these does

  module _ (mean : bytes_mean b ≡ true) (heard : heard_ok N h.heard ≡ true) (own : own_parts ≡ true) where
    -- what is asked of a best estimate is left
    left : marks_below m (get_or b 599 0) ≡ true → leb h.best.base_view h.view ≡ true → leb h.best.base_period h.period ≡ true
        → states_ok n h.best.estimate.state ≡ true → values_ok h.best.estimate ≡ true → best_ok N h.best b ≡ true → held_ok N n m h b ≡ true
    left marks view period states values best =
        let p = both (marks_below m (get_or b 548 0)) _ own in
        let q = both (leb h.base_view h.view) _ p.1 in
        let r = both (leb h.base_period h.period) _ q.1 in
        let e = estimate-facts n h.estimate r.1 in
        held-holds N n m h b (record {
          mean = mean;
          marks = p.0;
          best-marks = marks;
          heard = heard;
          bases = bases-hold h q.0 r.0 view period;
          states = e.0;
          values = e.1;
          best-states = states;
          best-values = values;
          best = best;
        })

    there : h.best.any ≡ true → other_parts ≡ true → held_ok N n m h b ≡ true
    unfolding best_ok
    there any o =
        let p = both (is_box N h.best.box_number) _ o in
        let q = both (marks_below m (get_or b 599 0)) _ p.1 in
        let r = both (leb h.best.base_view h.view) _ q.1 in
        let s = both (leb h.best.base_period h.period) _ r.1 in
        let e = estimate-facts n h.best.estimate s.1 in
        left q.0 r.0 s.0 e.0 e.1 (pick_true h.best.any (is_box N h.best.box_number) (zero_at b 566 50) any ∙ p.0)

    none : h.best.any ≡ false → h.best ≡ no_best → get_or b 599 0 ≡ 0 → zero_at b 566 50 ≡ true → held_ok N n m h b ≡ true
    unfolding best_ok
    none any e zero z =
        left (no-marks m (get_or b 599 0) zero)
        (ap (λ (x : Best). leb x.base_view h.view) e ∙ le-leb 0 h.view (omega arith))
        (ap (λ (x : Best). leb x.base_period h.period) e ∙ le-leb 0 h.period (omega arith))
        (ap (λ (x : Best). states_ok n x.estimate.state) e ∙ no-states n)
        (ap (λ (x : Best). values_ok x.estimate) e ∙ no-values)
        (pick-false h.best.any (is_box N h.best.box_number) (zero_at b 566 50) any ∙ z)

    none-zero : h.best.any ≡ false → HeldFacts N n m h b → zero_at b 566 50 ≡ true
    unfolding best_ok
    none-zero any f = sym (pick-false h.best.any (is_box N h.best.box_number) (zero_at b 566 50) any) ∙ f.best

    module _ (long : length b ≡ record_length) where
      -- there is no best estimate: its bytes decide
      pub without-best : get_or b 565 0 ≡ 0 → zero_at b 566 50 ≡ held_ok N n m h b
      unfolding held_at best_at
      without-best e =
          let any = ne_eqb (get_or b 565 0) 1 (λ (one : get_or b 565 0 ≡ 1). omega arith) in
          same (zero_at b 566 50) (held_ok N n m h b)
          (λ z. none any (no-best b long z any) (zero-byte b long z 33 (omega arith)) z)
          (λ t. none-zero any (held-facts N n m h b t))

      -- there is one: what is asked of it decides
      pub with-best : (get_or b 565 0 ≡ 0 → ⊥) → other_parts ≡ held_ok N n m h b
      unfolding held_at best_at
      with-best d =
          let any = eq-eqb (get_or b 565 0) 1 (omega (arith, any_small b mean, d)) in
          same other_parts (held_ok N n m h b) (there any) (λ t. other-holds (held-facts N n m h b t) any)
