-- What "to the nearest whole number, ties to the even one" means: `divided` has it, and no other quotient has. Assumes nothing.
use Rattle.std.proofs.Common.{◌≡◌, refl, sym, ap, ◌∙◌, Bool, true, false, ℕ, zero, suc, ◌+◌, ◌*◌, ◌/◌, ◌%◌, ◌≤◌, arith, ltb, ℤ, pos, negsuc, ◌+ℤ◌, ◌-ℤ◌, ◌*ℤ◌}
use Rattle.std.proofs.Math.IntN.{neg_ℤ, nat_abs, neg_ℤ-+ℤ, neg_ℤ-neg_ℤ}
use Rattle.std.proofs.lemmas.Bool.{ltb-true, ltb-false}
use Rattle.lists.proofs.Choice.{pick-holds}
use Rattle.law.specs.Fixed.{nearest, divided}
use Rattle.law.specs.Rounding.{IsNearest}
use Rattle.law.proofs.Integers.{minus-size, distance}

-- `nearest` in a form that omega reads: a half is added, less one unit where the quotient is even, so that a tie goes to the even one
pub nearest-is : (a : ℕ) → nearest a ≡ (a + 32767 + a / 65536 % 2) / 65536
nearest-is a =
    let Formed : ℕ → Type 0 = λ q. q ≡ (a + 32767 + a / 65536 % 2) / 65536 in
    pick-holds Formed (ltb (a % 65536) 32768) _ _ (λ l. omega (arith, ltb-true (a % 65536) 32768 l))
    (λ h. pick-holds Formed (ltb 32768 (a % 65536)) _ _ (λ l. omega (arith, ltb-true 32768 (a % 65536) l))
    (λ g. omega (arith, ltb-false (a % 65536) 32768 h, ltb-false 32768 (a % 65536) g)))

-- at a tie, the even one
pub tie-is : (a : ℕ) → a % 65536 ≡ 32768 → nearest a ≡ a / 65536 + a / 65536 % 2
tie-is a e =
    let Formed : ℕ → Type 0 = λ q. q ≡ a / 65536 + a / 65536 % 2 in
    pick-holds Formed (ltb (a % 65536) 32768) _ _ (λ l. omega (arith, ltb-true (a % 65536) 32768 l))
    (λ h. pick-holds Formed (ltb 32768 (a % 65536)) _ _ (λ l. omega (arith, ltb-true 32768 (a % 65536) l)) (λ g. refl))

tie-even : (a : ℕ) → a % 65536 ≡ 32768 → nearest a % 2 ≡ 0
tie-even a e = omega (arith, tie-is a e)

-- ---- the quotient has it

-- a number and its negative have quotients that are each other's negative
opposite : (q z : ℤ) → IsNearest q z → IsNearest (neg_ℤ q) (neg_ℤ z)
opposite q z h = record { half = rw same h.half; even = λ e. rw (minus-size q) (h.even (sym same ∙ e)) }
  where
    product : (k : ℤ) → pos 65536 *ℤ neg_ℤ k ≡ neg_ℤ (pos 65536 *ℤ k)
    product (pos zero) = refl
    product (pos (suc n)) = refl
    product (negsuc n) = sym (neg_ℤ-neg_ℤ (pos (65536 * suc n)))

    same : nat_abs (neg_ℤ z -ℤ pos 65536 *ℤ neg_ℤ q) ≡ nat_abs (z -ℤ pos 65536 *ℤ q)
    same =
        ap (λ (p : ℤ). nat_abs (neg_ℤ z -ℤ p)) (product q) ∙ ap nat_abs (sym (neg_ℤ-+ℤ z (neg_ℤ (pos 65536 *ℤ q)))) ∙ minus-size (z -ℤ pos 65536 *ℤ q)

nearest-meant : (a : ℕ) → IsNearest (pos (nearest a)) (pos a)
nearest-meant a =
    let far = distance a (65536 * nearest a) in
    record { half = rw far (omega (arith, nearest-is a)); even = λ e. tie-even a (omega (arith, nearest-is a, sym far ∙ e)) }

-- at most a half away, and at exactly a half even: for every number
pub divided-nearest : (z : ℤ) → IsNearest (divided z) z
unfolding divided
divided-nearest (pos a) = nearest-meant a
divided-nearest (negsuc a) = opposite (pos (nearest (suc a))) (pos (suc a)) (nearest-meant (suc a))

-- ---- no other quotient has it

neighbours : (j k : ℕ) → j % 2 ≡ 0 → k % 2 ≡ 0 → j ≤ suc k → k ≤ suc j → j ≡ k
neighbours j k e f h g = omega arith

alone : (q : ℤ) (a : ℕ) → IsNearest q (pos a) → q ≡ pos (nearest a)
alone (pos k) a h = ap pos (by (ltb far 32768) refl)
  where
    far : ℕ
    far = nat_abs (pos a -ℤ pos (65536 * k))

    by : (t : Bool) → ltb far 32768 ≡ t → k ≡ nearest a
    by true e = omega (arith, nearest-is a, distance a (65536 * k), ltb-true far 32768 e)
    by false e =
        let tie : far ≡ 32768 = omega (arith, h.half, ltb-false far 32768 e) in
        let d = distance a (65536 * k) in
        let n = nearest-is a in
        neighbours k (nearest a) (h.even tie) (tie-even a (omega (arith, tie, d))) (omega (arith, tie, d, n)) (omega (arith, tie, d, n))
alone (negsuc k) a h = absurd (omega (arith, h.half, ap (λ (p : ℤ). nat_abs (pos a +ℤ p)) (neg_ℤ-neg_ℤ (pos (65536 * suc k)))))

pub nearest-alone : (q z : ℤ) → IsNearest q z → q ≡ divided z
unfolding divided
nearest-alone q (pos a) h = alone q a h
nearest-alone q (negsuc a) h = sym (neg_ℤ-neg_ℤ q) ∙ ap neg_ℤ (alone (neg_ℤ q) (suc a) (opposite q (negsuc a) h))
