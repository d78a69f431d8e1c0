-- `frame::parts::pairs_ok` meets its contract: each test of the code is a test of the definition, in their order. Assumes nothing.
use Rattle.std.proofs.Common.{ℕ, ◌≡◌, ◌∙◌, ◌+◌, refl, Bool, ◌&&◌, eqb}
use borrow.Author.Tests.{eq-eqb, ne_eqb}
use Rattle.octets.specs.Words.{number_at}
use Rattle.estimate.specs.Lengths.{state_length, readings_length}
use Rattle.frame.specs.Lengths.{pair_start, parts_start}
use Rattle.frame.specs.Reading.{pairs_ok}
use Rattle.frame.proofs.Conditions.{and_then, and_else, chain_of_four}
use Rattle.frame.proofs.parts.pairs_ok.Goals as goal
use Rattle.frame.proofs.parts.pairs_ok.Goals.{then-u16_at-eq-PARTS_START, else-u16_at-eq-PARTS_START, then-u16_at-states, else-u16_at-states}

pub returns-then-u16_at-states-2 : goal.returns-then-u16_at-states-2
unfolding pairs_ok
returns-then-u16_at-states-2 c =
    let b = c.args.bytes.now in
    let n = c.args.n in
    let m = c.args.m in
    let first : Bool = eqb c.u16_at.result parts_start in
    let length₀ : ℕ = number_at 2 b (pair_start 0 + 2) in
    let offset₁ : ℕ = number_at 2 b (pair_start 1) in
    let length₁ : ℕ = number_at 2 b (pair_start 1 + 2) in
    let one : c.if-u16_at-eq-PARTS_START.value ≡ eqb c.u16_at.result parts_start && eqb length₀ (state_length n) =
    elim c.if-u16_at-eq-PARTS_START.branch [
      | then-u16_at-eq-PARTS_START w ↦ and_then first (eqb length₀ (state_length n)) _ (eq-eqb _ _ w.if-u16_at-eq-PARTS_START.true)
          (w.value-is ∙ (λ i. eqb (w.u16_at-then-u16_at-eq-PARTS_START.ensures i) (c.state_length-states.ensures i)))
      | else-u16_at-eq-PARTS_START w ↦ and_else first (eqb length₀ (state_length n)) _ (ne_eqb _ _ w.if-u16_at-eq-PARTS_START.false) w.value-is
    ] in
    let two : c.if-u16_at-states.value ≡ c.if-u16_at-eq-PARTS_START.value && eqb offset₁ (parts_start + state_length n) =
    elim c.if-u16_at-states.branch [
      | then-u16_at-states w ↦ and_then c.if-u16_at-eq-PARTS_START.value (eqb offset₁ (parts_start + state_length n)) _ w.if-u16_at-states.true
          (w.value-is ∙ (λ i. eqb (w.u16_at-then-u16_at-states.ensures i) (parts_start + c.state_length-states.ensures i)))
      | else-u16_at-states w ↦ and_else c.if-u16_at-eq-PARTS_START.value (eqb offset₁ (parts_start + state_length n)) _ w.if-u16_at-states.false w.value-is
    ] in
    chain_of_four first (eqb length₀ (state_length n)) (eqb offset₁ (parts_start + state_length n)) (eqb length₁ (readings_length m)) _ _ _ one two
    (and_then c.if-u16_at-states.value (eqb length₁ (readings_length m)) _ c.if-u16_at-states-2.true
    (λ i. eqb (c.u16_at-then-u16_at-states-2.ensures i) (c.readings_length.ensures i)))
    ∙ rw c.u16_at.ensures

pub returns-else-u16_at-states-2 : goal.returns-else-u16_at-states-2
unfolding pairs_ok
returns-else-u16_at-states-2 c =
    let b = c.args.bytes.now in
    let n = c.args.n in
    let m = c.args.m in
    let first : Bool = eqb c.u16_at.result parts_start in
    let length₀ : ℕ = number_at 2 b (pair_start 0 + 2) in
    let offset₁ : ℕ = number_at 2 b (pair_start 1) in
    let length₁ : ℕ = number_at 2 b (pair_start 1 + 2) in
    let one : c.if-u16_at-eq-PARTS_START.value ≡ eqb c.u16_at.result parts_start && eqb length₀ (state_length n) =
    elim c.if-u16_at-eq-PARTS_START.branch [
      | then-u16_at-eq-PARTS_START w ↦ and_then first (eqb length₀ (state_length n)) _ (eq-eqb _ _ w.if-u16_at-eq-PARTS_START.true)
          (w.value-is ∙ (λ i. eqb (w.u16_at-then-u16_at-eq-PARTS_START.ensures i) (c.state_length-states.ensures i)))
      | else-u16_at-eq-PARTS_START w ↦ and_else first (eqb length₀ (state_length n)) _ (ne_eqb _ _ w.if-u16_at-eq-PARTS_START.false) w.value-is
    ] in
    let two : c.if-u16_at-states.value ≡ c.if-u16_at-eq-PARTS_START.value && eqb offset₁ (parts_start + state_length n) =
    elim c.if-u16_at-states.branch [
      | then-u16_at-states w ↦ and_then c.if-u16_at-eq-PARTS_START.value (eqb offset₁ (parts_start + state_length n)) _ w.if-u16_at-states.true
          (w.value-is ∙ (λ i. eqb (w.u16_at-then-u16_at-states.ensures i) (parts_start + c.state_length-states.ensures i)))
      | else-u16_at-states w ↦ and_else c.if-u16_at-eq-PARTS_START.value (eqb offset₁ (parts_start + state_length n)) _ w.if-u16_at-states.false w.value-is
    ] in
    chain_of_four first (eqb length₀ (state_length n)) (eqb offset₁ (parts_start + state_length n)) (eqb length₁ (readings_length m)) _ _ _ one two
    (and_else c.if-u16_at-states.value (eqb length₁ (readings_length m)) _ c.if-u16_at-states-2.false refl)
    ∙ rw c.u16_at.ensures
