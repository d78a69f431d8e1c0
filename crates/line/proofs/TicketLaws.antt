-- Laws of tickets: how many digits there are. Assumes nothing.
use mathlib.Core.Path.{◌≡◌, refl, sym, ◌∙◌}
use mathlib.Core.Bool.{Bool, true, false, not, ◌||◌}
use mathlib.Core.List.{List, [], ◌∷◌}
use Prim.Native.Nat.{ℕ, suc, ◌+◌, ◌*◌, ◌-◌, ◌^◌, ◌≤◌, ◌<◌}
use native.Mathlib.Omega.{arith}
use native.Mathlib.Nat.{add-mul, mul_assoc, mul_comm, le-mul_of_pos_right, pow-suc, pow-le-pow_right, zero-lt-suc}
use native.Mathlib.Decide.{dec_le}
use lib.Dec.{ltb, eqb}
use lib.ListN.{length}
use borrow.Author.Tests.{eqb-true, eqb-false}
use Rattle.std.specs.Prelude.{Some, None}
use Rattle.std.proofs.lemmas.Option.{none-some}
use Rattle.lists.specs.Choice.{pick}
use Rattle.lists.proofs.Booleans.{both}
use Rattle.text.specs.Numbers.{goes_on, spelled, well_begun, unsigned}
use Rattle.text.proofs.NumberLaws.{Goes, goes}
use Rattle.line.specs.Tickets.{largest, ticket_of}

-- ---- how many digits there are

none : (v : ℕ) {X : Type 0} → None ≡ Some v → X
none v e = absurd (none-some v e)

-- what digits after n spell: the first of them goes on
next : (n b : ℕ) (bs : List ℕ) (v : ℕ) → spelled largest n (b ∷ bs) ≡ Some v → Goes largest n b × (spelled largest (10 * n + (b - 48)) bs ≡ Some v)
unfolding spelled pick
next n b bs v e = by (goes_on largest n b) refl e
  where
    by : (t : Bool) → goes_on largest n b ≡ t → pick (goes_on largest n b) (spelled largest (10 * n + (b - 48)) bs) None ≡ Some v
        → Goes largest n b × (spelled largest (10 * n + (b - 48)) bs ≡ Some v)
    by true g e = (goes largest n b g, rw g at e)
    by false g e = none v (rw g at e)

tens : (n d k : ℕ) → n * (k * 10) ≤ (10 * n + d) * k
tens n d k =
    let a : (10 * n + d) * k ≡ 10 * n * k + d * k = add-mul (10 * n) d k in
    let b : n * (k * 10) ≡ 10 * n * k = sym (mul_assoc n k 10) ∙ mul_comm (n * k) 10 ∙ sym (mul_assoc 10 n k) in
    omega arith

-- each digit after n makes it ten times as large
spelled-large : (bs : List ℕ) (n v : ℕ) → n ≤ largest → spelled largest n bs ≡ Some v → (n * 10 ^ length bs ≤ v) × (v ≤ largest)
unfolding spelled
spelled-large [] n v h e = let z : n ≡ v = cc in (omega arith, omega arith)
spelled-large (b ∷ bs) n v h e =
    let x = next n b bs v e in
    let m : ℕ = 10 * n + (b - 48) in
    let r = spelled-large bs m v x.0.small x.1 in
    let p : 10 ^ suc (length bs) ≡ 10 ^ length bs * 10 = pow-suc 10 (length bs) in
    let t : n * (10 ^ length bs * 10) ≤ m * 10 ^ length bs = tens n (b - 48) (10 ^ length bs) in
    (rw p (omega arith), r.1)

-- digits with no needless zero
begun-length : (b : ℕ) (bs : List ℕ) (v : ℕ) → 48 < b → spelled largest 0 (b ∷ bs) ≡ Some v → length bs < 20
begun-length b bs v s e =
    let x = next 0 b bs v e in
    let z : 10 * 0 + (b - 48) ≡ b - 48 = omega arith in
    let r = spelled-large bs (10 * 0 + (b - 48)) v x.0.small x.1 in
    by (dec_le 20 (length bs)) (rw z at r.0) r.1
  where
    by : Dec (20 ≤ length bs) → (b - 48) * 10 ^ length bs ≤ v → v ≤ largest → length bs < 20
    by (no l) low high = omega (arith, l)
    by (yes l) low high =
        let p : 10 ^ 20 ≤ 10 ^ length bs = pow-le-pow_right (zero-lt-suc 9) l in
        let q : 10 ^ length bs ≤ (b - 48) * 10 ^ length bs = rw mul_comm (le-mul_of_pos_right (10 ^ length bs) (omega (arith, s))) in
        absurd (omega arith)

begun-short : (b : ℕ) (bs : List ℕ) (v : ℕ) → well_begun (b ∷ bs) ≡ true → spelled largest 0 (b ∷ bs) ≡ Some v → length (b ∷ bs) ≤ 20
unfolding well_begun
begun-short b bs v w e = by (eqb b 48) refl (both (ltb 0 (suc (length bs))) _ w).1
  where
    by : (t : Bool) → eqb b 48 ≡ t → (not (eqb b 48) || eqb (suc (length bs)) 1) ≡ true → length (b ∷ bs) ≤ 20
    by true z alone = omega (arith, eqb-true (suc (length bs)) 1 (rw z at alone))
    by false z alone =
        let low = (next 0 b bs v e).0.low in
        omega (arith, begun-length b bs v (omega (arith, eqb-false b 48 z)) e)

pub ticket-length : (word : List ℕ) (v : ℕ) → ticket_of word ≡ Some v → length word ≤ 20
unfolding ticket_of unsigned pick
ticket-length [] v e = omega arith
ticket-length (b ∷ bs) v e = by (well_begun (b ∷ bs)) refl e
  where
    by : (t : Bool) → well_begun (b ∷ bs) ≡ t → pick (well_begun (b ∷ bs)) (spelled largest 0 (b ∷ bs)) None ≡ Some v → length (b ∷ bs) ≤ 20
    by true w e = begun-short b bs v w (rw w at e)
    by false w e = none v (rw w at e)
