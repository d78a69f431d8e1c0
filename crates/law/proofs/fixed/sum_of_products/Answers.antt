-- `law::fixed::sum_of_products` meets its contract: the total after each product is the sum of as many, and no larger than as many of the largest.
-- Assumes nothing.
use Rattle.std.proofs.Common.{◌≡◌, refl, sym, ap, ◌∙◌, subst, true, ℕ, ◌+◌, ◌*◌, ◌≤◌, ◌<◌, arith, ℤ, pos, ◌+ℤ◌, ◌*ℤ◌, w32, w64, FitsSigned, to_z, of_z}
use Rattle.std.proofs.Math.Dec.{lit<}
use Rattle.std.proofs.Math.IntN.{nat_abs}
use Rattle.std.proofs.Math.Facts.{to_z-of_z}
use Rattle.lists.specs.Places.{entry}
use Rattle.lists.proofs.Below.{all-at}
use Rattle.law.specs.Fixed.{sum, largest_product}
use Rattle.law.specs.Settings.{in_range}
use Rattle.law.proofs.Integers.{term-size}
use Rattle.law.proofs.Sums.{sum-none, sum_more, sum-more-size}
use Rattle.law.proofs.fixed.sum_of_products.Goals as goal
use Rattle.law.proofs.fixed.sum_of_products.Lts as lts
use Rattle.law.proofs.fixed.sum_of_products.Reads as reads
use Rattle.law.proofs.fixed.sum_of_products.Tie as tie

module _ (s : lts.Start tie.the-claims reads.Pre reads.Post tie.handed_clauses) where
  abbrev coefficient : ℕ → ℤ
  coefficient i = entry s.args.table.now (s.args.at + i)

  abbrev value : ℕ → ℤ
  value i = entry s.args.x.now i

  abbrev term : ℕ → ℤ
  term i = coefficient i *ℤ value i

  inside : (i : ℕ) → i < s.args.n → in_range (coefficient i) ≡ true
  inside i l = all-at (λ k. in_range (coefficient k)) s.args.n i s.requires.3 l

  -- a total of k products
  record Total (k : ℕ) (total : ℤ) : Type 0 where
    is : total ≡ sum k term
    size : nat_abs total ≤ k * largest_product

  none : Total 0 (pos 0)
  none = record { is = sym (sum-none term); size = omega arith }

  -- one product more
  more : (k : ℕ) (a total next : ℤ) → Total k total → k < s.args.n → a ≡ coefficient k → FitsSigned w64 total → FitsSigned w32 a → FitsSigned w32 (value k)
      → next ≡ to_z w64 (of_z w64 total) +ℤ to_z w32 (of_z w32 a) *ℤ to_z w32 (of_z w32 (value k)) → Total (k + 1) next
  more k a total next t l here ft fc fv e =
      let e' : next ≡ total +ℤ term k = simp (to_z-of_z, ft, fc, fv) at e ∙ ap (λ (z : ℤ). total +ℤ z *ℤ value k) here in
      let same : next ≡ sum (k + 1) term = e' ∙ ap (λ (z : ℤ). z +ℤ term k) t.is ∙ sym (sum_more k term) in
      record {
        is = same;
        size = rw same (sum-more-size largest_product k term (rw (← t.is) t.size) (term-size (coefficient k) (value k) (inside k l) fv));
      }

  -- the total that is returned
  whole : (k : ℕ) (total : ℤ) → Total k total → k ≡ s.args.n → FitsSigned w64 total
      → (to_z w64 (of_z w64 total) ≡ sum s.args.n term) × (nat_abs (to_z w64 (of_z w64 total)) ≤ s.args.n * largest_product)
  whole k total t e fits = rw (to_z-of_z fits) (subst (λ (n : ℕ). (total ≡ sum n term) × (nat_abs total ≤ n * largest_product)) e (t.is, t.size))

-- the total after each call, and the way back to the start from there
abbrev start1 : lts.After-add_product tie.the-claims reads.Pre reads.Post tie.handed_clauses → lts.Start tie.the-claims reads.Pre reads.Post tie.handed_clauses
start1 c = c.before.before.before.before

total1 : (c : lts.After-add_product tie.the-claims reads.Pre reads.Post tie.handed_clauses) → Total (start1 c) 1 c.add_product-total.result
total1 c =
    more (start1 c) 0 _ _ _ (none _) (omega arith)
    (ap (entry (start1 c).args.table.now) (omega arith))
    (record { sfits = lit< tt })
    (record { sfits = c.add_product-arg-1.given })
    (record { sfits = c.add_product-arg-2-1.given })
    c.add_product-total.ensures

abbrev start2 : lts.After-add_product2 tie.the-claims reads.Pre reads.Post tie.handed_clauses → lts.Start tie.the-claims reads.Pre reads.Post tie.handed_clauses
start2 c = start1 c.before.before.before.before

total2 : (c : lts.After-add_product2 tie.the-claims reads.Pre reads.Post tie.handed_clauses) → Total (start2 c) 2 c.add_product-total-2.result
total2 c =
    more (start2 c) 1 _ _ _ (total1 c.before.before.before.before) (omega arith)
    refl
    (record { sfits = c.add_product-total.type_inv })
    (record { sfits = c.add_product-arg-3-1.given })
    (record { sfits = c.add_product-arg-4-1.given })
    c.add_product-total-2.ensures

abbrev start3 : lts.After-add_product3 tie.the-claims reads.Pre reads.Post tie.handed_clauses → lts.Start tie.the-claims reads.Pre reads.Post tie.handed_clauses
start3 c = start2 c.before.before.before.before

total3 : (c : lts.After-add_product3 tie.the-claims reads.Pre reads.Post tie.handed_clauses) → Total (start3 c) 3 c.add_product-total-3.result
total3 c =
    more (start3 c) 2 _ _ _ (total2 c.before.before.before.before) (omega arith)
    refl
    (record { sfits = c.add_product-total-2.type_inv })
    (record { sfits = c.add_product-arg-5-1.given })
    (record { sfits = c.add_product-arg-6-1.given })
    c.add_product-total-3.ensures

abbrev start4 : lts.After-add_product4 tie.the-claims reads.Pre reads.Post tie.handed_clauses → lts.Start tie.the-claims reads.Pre reads.Post tie.handed_clauses
start4 c = start3 c.before.before.before.before

total4 : (c : lts.After-add_product4 tie.the-claims reads.Pre reads.Post tie.handed_clauses) → Total (start4 c) 4 c.add_product-total-4.result
total4 c =
    more (start4 c) 3 _ _ _ (total3 c.before.before.before.before) (omega arith)
    refl
    (record { sfits = c.add_product-total-3.type_inv })
    (record { sfits = c.add_product-arg-7-1.given })
    (record { sfits = c.add_product-arg-8-1.given })
    c.add_product-total-4.ensures

abbrev start5 : lts.After-add_product5 tie.the-claims reads.Pre reads.Post tie.handed_clauses → lts.Start tie.the-claims reads.Pre reads.Post tie.handed_clauses
start5 c = start4 c.before.before.before.before

total5 : (c : lts.After-add_product5 tie.the-claims reads.Pre reads.Post tie.handed_clauses) → Total (start5 c) 5 c.add_product-total-5.result
total5 c =
    more (start5 c) 4 _ _ _ (total4 c.before.before.before.before) (omega arith)
    refl
    (record { sfits = c.add_product-total-4.type_inv })
    (record { sfits = c.add_product-arg-9-1.given })
    (record { sfits = c.add_product-arg-10-1.given })
    c.add_product-total-5.ensures

abbrev start6 : lts.After-add_product6 tie.the-claims reads.Pre reads.Post tie.handed_clauses → lts.Start tie.the-claims reads.Pre reads.Post tie.handed_clauses
start6 c = start5 c.before.before.before.before

total6 : (c : lts.After-add_product6 tie.the-claims reads.Pre reads.Post tie.handed_clauses) → Total (start6 c) 6 c.add_product.result
total6 c =
    more (start6 c) 5 _ _ _ (total5 c.before.before.before.before) (omega arith)
    refl
    (record { sfits = c.add_product-total-5.type_inv })
    (record { sfits = c.add_product-arg-11-1.given })
    (record { sfits = c.add_product-arg-12-1.given })
    c.add_product.ensures

pub returns-then-n-lt1 : goal.returns-then-n-lt1
returns-then-n-lt1 c = let w = whole c.before 0 _ (none _) (omega arith) (record { sfits = lit< tt }) in record { value = w.0; size = w.1 }

pub add_product-total-requires : goal.add_product-total-requires
add_product-total-requires c =
    let first : entry c.args.table.now c.args.at ≡ coefficient c.before.before.before 0 = ap (entry c.args.table.now) (omega arith) in
    (omega arith, rw (to_z-of_z (record { sfits = c.add_product-arg-1.given }), first) (inside c.before.before.before 0 (omega arith)))

pub returns-then-n-lt2 : goal.returns-then-n-lt2
returns-then-n-lt2 c = let w = whole (start1 c.before) 1 _ (total1 c.before) (omega arith) (record { sfits = c.add_product-total.type_inv }) in record { value = w.0; size = w.1 }

pub add_product-total-requires-2 : goal.add_product-total-requires-2
add_product-total-requires-2 c =
    let t = total1 c.before.before.before in (
      rw (to_z-of_z (record { sfits = c.add_product-total.type_inv })) (omega (arith, t.size)),
      rw (to_z-of_z (record { sfits = c.add_product-arg-3-1.given })) (inside (start1 c.before.before.before) 1 (omega arith)),
    )

pub returns-then-n-lt3 : goal.returns-then-n-lt3
returns-then-n-lt3 c = let w = whole (start2 c.before) 2 _ (total2 c.before) (omega arith) (record { sfits = c.add_product-total-2.type_inv }) in record { value = w.0; size = w.1 }

pub add_product-total-requires-3 : goal.add_product-total-requires-3
add_product-total-requires-3 c =
    let t = total2 c.before.before.before in (
      rw (to_z-of_z (record { sfits = c.add_product-total-2.type_inv })) (omega (arith, t.size)),
      rw (to_z-of_z (record { sfits = c.add_product-arg-5-1.given })) (inside (start2 c.before.before.before) 2 (omega arith)),
    )

pub returns-then-n-lt4 : goal.returns-then-n-lt4
returns-then-n-lt4 c = let w = whole (start3 c.before) 3 _ (total3 c.before) (omega arith) (record { sfits = c.add_product-total-3.type_inv }) in record { value = w.0; size = w.1 }

pub add_product-total-requires-4 : goal.add_product-total-requires-4
add_product-total-requires-4 c =
    let t = total3 c.before.before.before in (
      rw (to_z-of_z (record { sfits = c.add_product-total-3.type_inv })) (omega (arith, t.size)),
      rw (to_z-of_z (record { sfits = c.add_product-arg-7-1.given })) (inside (start3 c.before.before.before) 3 (omega arith)),
    )

pub returns-then-n-lt5 : goal.returns-then-n-lt5
returns-then-n-lt5 c = let w = whole (start4 c.before) 4 _ (total4 c.before) (omega arith) (record { sfits = c.add_product-total-4.type_inv }) in record { value = w.0; size = w.1 }

pub add_product-total-requires-5 : goal.add_product-total-requires-5
add_product-total-requires-5 c =
    let t = total4 c.before.before.before in (
      rw (to_z-of_z (record { sfits = c.add_product-total-4.type_inv })) (omega (arith, t.size)),
      rw (to_z-of_z (record { sfits = c.add_product-arg-9-1.given })) (inside (start4 c.before.before.before) 4 (omega arith)),
    )

pub returns-then-n-lt6 : goal.returns-then-n-lt6
returns-then-n-lt6 c = let w = whole (start5 c.before) 5 _ (total5 c.before) (omega arith) (record { sfits = c.add_product-total-5.type_inv }) in record { value = w.0; size = w.1 }

pub add_product-requires : goal.add_product-requires
add_product-requires c =
    let t = total5 c.before.before.before in (
      rw (to_z-of_z (record { sfits = c.add_product-total-5.type_inv })) (omega (arith, t.size)),
      rw (to_z-of_z (record { sfits = c.add_product-arg-11-1.given })) (inside (start5 c.before.before.before) 5 (omega arith)),
    )

pub returns : goal.returns
returns c = let w = whole (start6 c) 6 _ (total6 c) (omega arith) (record { sfits = c.add_product.type_inv }) in record { value = w.0; size = w.1 }
