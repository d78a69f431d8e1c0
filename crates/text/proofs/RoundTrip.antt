-- A number that is printed is read as itself: `reads-printed`. And what is read as a number is that number printed: `printed-reads`, so that a
-- field is a number in one way alone. Assumes nothing.
use mathlib.Core.Path.{◌≡◌, refl, sym, ap, ◌∙◌, subst}
use mathlib.Core.Bool.{Bool, true, false}
use mathlib.Core.List.{List, [], ◌∷◌, ◌++◌, append_assoc}
use Prim.Native.Nat.{ℕ, zero, suc, ◌+◌, ◌*◌, ◌-◌, ◌/◌, ◌%◌, ◌^◌, ◌≤◌, ◌<◌}
use native.Mathlib.Omega.{arith}
use native.Mathlib.Nat.{pow-suc}
use lib.Dec.{eqb, leb, ltb}
use lib.IntN.{ℤ, pos, negsuc}
use lib.ListN.{length, drop}
use borrow.Author.Tests.{le-leb, lt-ltb, ltb-true, ltb-false, ne_eqb, eqb-true, eqb-false}
use Rattle.lists.proofs.Booleans.{both, never}
use Rattle.lists.specs.Choice.{pick}
use Rattle.lists.proofs.Choice.{pick-holds}
use mir.Syntax.{w32}
use mir.Val.{SFits}
use Rattle.std.specs.Prelude.{Option, Some, None}
use Rattle.text.specs.Numbers.{is_digit, goes_on, spelled, well_begun, unsigned, magnitude, is_minus, negative, positive, number_of}
use Rattle.std.proofs.lemmas.Option.{none-some}
use Rattle.text.specs.Printing.{digits_before, decimal, signed}
use Rattle.text.proofs.NumberLaws.{Goes, goes}
use Rattle.text.proofs.PrintingLaws.{last-digit, more-digits}

-- ---- digits that are printed

-- the digits of n begin with a digit, which is 0 only for 0
pub record Leads (l : List ℕ) (n : ℕ) : Type 0 where
  pub d : ℕ
  pub rest : List ℕ
  pub is : l ≡ (48 + d) ∷ rest
  pub small : d < 10
  pub lead : 0 < n → 0 < d

fewer : (k n : ℕ) → n < 10 ^ suc k → n / 10 < 10 ^ k
fewer k n h = omega (arith, pow-suc 10 k)

leads : (k n : ℕ) (tail : List ℕ) → n < 10 ^ k → 0 < k → Leads (digits_before k n tail) n
leads zero n tail h s = absurd (omega arith)
leads (suc k) n tail h s = by (ltb n 10) refl (λ p. leads k (n / 10) ((48 + n % 10) ∷ tail) (fewer k n h) p)
  where
    some : (j : ℕ) → k ≡ j → 10 ≤ n → 0 < k
    some zero e l = absurd (let q : 10 ^ k ≡ 1 = rw e in omega (arith, fewer k n h))
    some (suc j) e l = omega arith

    by : (t : Bool) → ltb n 10 ≡ t → (0 < k → Leads (digits_before k (n / 10) ((48 + n % 10) ∷ tail)) (n / 10)) → Leads (digits_before (suc k) n tail) n
    by true e more =
        let l = ltb-true n 10 e in
        record { d = n % 10; rest = tail; is = last-digit k n tail l; small = omega arith; lead = λ m. omega arith }
    by false e more =
        let l = ltb-false n 10 e in
        let r = more (some k refl l) in
        record { d = r.d; rest = r.rest; is = more-digits k n tail l ∙ r.is; small = r.small; lead = λ m. r.lead (omega arith) }

goes-on : (n d : ℕ) → d < 10 → 10 * n + d ≤ 4294967295 → goes_on 4294967295 n (48 + d) ≡ true
unfolding goes_on is_digit
goes-on n d h l = rw (le-leb 48 (48 + d) (omega arith), le-leb (48 + d) 57 (omega arith), le-leb (10 * n + (48 + d - 48)) 4294967295 (omega arith))

spelled-one : (n d v : ℕ) (tail : List ℕ) → d < 10 → 10 * n + d ≡ v → v ≤ 4294967295 → spelled 4294967295 n ((48 + d) ∷ tail) ≡ spelled 4294967295 v tail
unfolding spelled pick
spelled-one n d v tail h e l =
    let s : 10 * n + (48 + d - 48) ≡ v = omega arith in
    rw (goes-on n d h (omega arith), s)

-- the digits of n spell n
spelled-digits : (k n : ℕ) (tail : List ℕ) → n < 10 ^ k → n ≤ 4294967295 → spelled 4294967295 0 (digits_before k n tail) ≡ spelled 4294967295 n tail
unfolding digits_before
spelled-digits zero n tail h l = let e : n ≡ 0 = omega arith in rw e
spelled-digits (suc k) n tail h l = by (ltb n 10) refl (spelled-digits k (n / 10) ((48 + n % 10) ∷ tail) (fewer k n h) (omega arith))
  where
    by : (t : Bool) → ltb n 10 ≡ t → spelled 4294967295 0 (digits_before k (n / 10) ((48 + n % 10) ∷ tail)) ≡ spelled 4294967295 (n / 10) ((48 + n % 10) ∷ tail)
        → spelled 4294967295 0 (digits_before (suc k) n tail) ≡ spelled 4294967295 n tail
    by true e more =
        let s = ltb-true n 10 e in
        ap (spelled 4294967295 0) (last-digit k n tail s) ∙ spelled-one 0 (n % 10) n tail (omega arith) (omega arith) l
    by false e more =
        let s = ltb-false n 10 e in
        ap (spelled 4294967295 0) (more-digits k n tail s) ∙ more ∙ spelled-one (n / 10) (n % 10) n tail (omega arith) (omega arith) l

pub decimal-leads : (n : ℕ) → n ≤ 4294967295 → Leads (decimal n) n
unfolding decimal
decimal-leads n h = leads 10 n [] (omega arith) (omega arith)

-- and end with its last digit
pub record Ends (l : List ℕ) (tail : List ℕ) : Type 0 where
  pub before : List ℕ
  pub is : l ≡ before ++ tail

ends : (k n : ℕ) (tail : List ℕ) → Ends (digits_before k n tail) tail
unfolding digits_before
ends zero n tail = record { before = []; is = refl }
ends (suc k) n tail =
    pick-holds (λ (l : List ℕ). Ends l tail) (ltb n 10) ((48 + n % 10) ∷ tail) (digits_before k (n / 10) ((48 + n % 10) ∷ tail))
    (λ _. record { before = (48 + n % 10) ∷ []; is = refl })
    (λ _.
    let e = ends k (n / 10) ((48 + n % 10) ∷ tail) in
    record { before = e.before ++ ((48 + n % 10) ∷ []); is = e.is ∙ sym (append_assoc e.before ((48 + n % 10) ∷ []) tail) })

pub decimal-ends : (n : ℕ) → Ends (decimal n) ((48 + n % 10) ∷ [])
unfolding decimal digits_before
decimal-ends n =
    pick-holds (λ (l : List ℕ). Ends l ((48 + n % 10) ∷ [])) (ltb n 10) ((48 + n % 10) ∷ []) (digits_before 9 (n / 10) ((48 + n % 10) ∷ []))
    (λ _. record { before = []; is = refl })
    (λ _. ends 9 (n / 10) ((48 + n % 10) ∷ []))

no_minus : (n : ℕ) → n ≤ 4294967295 → is_minus (decimal n) ≡ false
unfolding is_minus
no_minus n h =
    let f = decimal-leads n h in
    let e : (48 + f.d ≡ 45) → ⊥ = λ z. omega arith in
    rw (f.is, lt-ltb 0 (suc (length f.rest)) (omega arith), ne_eqb (48 + f.d) 45 e)

begins : (l : List ℕ) (n : ℕ) → Leads l n → 0 < n → well_begun l ≡ true
unfolding well_begun
begins l n f s =
    let e : (48 + f.d ≡ 48) → ⊥ = λ z. omega (arith, f.lead s) in
    rw (f.is, lt-ltb 0 (suc (length f.rest)) (omega arith), ne_eqb (48 + f.d) 48 e)

well-begun : (n : ℕ) → n ≤ 4294967295 → well_begun (decimal n) ≡ true
unfolding decimal digits_before well_begun pick
well-begun zero h = refl
well-begun (suc n) h = begins (decimal (suc n)) (suc n) (decimal-leads (suc n) h) (omega arith)

-- a number of 32 bits that is printed is read as itself
pub magnitude-printed : (n : ℕ) → n ≤ 4294967295 → magnitude (decimal n) ≡ Some n
unfolding magnitude unsigned decimal spelled pick
magnitude-printed n h = rw (well-begun n h) (spelled-digits 10 n [] (omega arith) h)

minus-first : (bytes : List ℕ) → is_minus (45 ∷ bytes) ≡ true
unfolding is_minus
minus-first bytes = rw (lt-ltb 0 (suc (length bytes)) (omega arith))

-- a number that is printed is read as itself
pub reads-printed : (z : ℤ) → SFits w32 z → number_of (signed z) ≡ Some z
unfolding number_of signed positive negative pick
reads-printed (pos n) s =
    let h : n < 2147483648 = s.sfits in
    let l : n ≤ 4294967295 = omega arith in
    rw (no_minus n l, magnitude-printed n l, lt-ltb n 2147483648 h)
reads-printed (negsuc k) s =
    let h : k < 2147483648 = s.sfits in
    let l : suc k ≤ 2147483648 = omega arith in
    rw (minus-first (decimal (suc k)), magnitude-printed (suc k) (omega arith), le-leb (suc k) 2147483648 l)

-- ---- digits that are read

other : (n : ℕ) {X : Type 0} → None ≡ Some n → X
other n e = absurd (none-some n e)

-- what digits after n spell: the first of them goes on
record Next (n b : ℕ) (bs : List ℕ) (v : ℕ) : Type 0 where
  goes : Goes 4294967295 n b
  rest : spelled 4294967295 (10 * n + (b - 48)) bs ≡ Some v

spelled-next : (n b : ℕ) (bs : List ℕ) → spelled 4294967295 n (b ∷ bs) ≡ pick (goes_on 4294967295 n b) (spelled 4294967295 (10 * n + (b - 48)) bs) None
unfolding spelled
spelled-next n b bs = refl

next : (n b : ℕ) (bs : List ℕ) (v : ℕ) → spelled 4294967295 n (b ∷ bs) ≡ Some v → Next n b bs v
unfolding pick
next n b bs v e = by (goes_on 4294967295 n b) refl (sym (spelled-next n b bs) ∙ e)
  where
    by : (t : Bool) → goes_on 4294967295 n b ≡ t → pick (goes_on 4294967295 n b) (spelled 4294967295 (10 * n + (b - 48)) bs) None ≡ Some v → Next n b bs v
    by true g e = record { goes = goes 4294967295 n b g; rest = rw g at e }
    by false g e = other v (rw g at e)

no_more : (n v : ℕ) → spelled 4294967295 n [] ≡ Some v → n ≡ v
unfolding spelled
no_more n v e = cc

-- its digits are those of n, and then these
spelled_back : (bs : List ℕ) (n v j : ℕ) → 0 < n → spelled 4294967295 n bs ≡ Some v → digits_before (length bs + j) v [] ≡ digits_before j n bs
spelled_back [] n v j s e = let z : 0 + j ≡ j = omega arith in rw (z, no_more n v e)
spelled_back (b ∷ bs) n v j s e =
    let x = next n b bs v e in
    let low = x.goes.low in
    let high = x.goes.high in
    let m : ℕ = 10 * n + (b - 48) in
    let z : suc (length bs) + j ≡ length bs + suc j = omega arith in
    let tens : m / 10 ≡ n = omega arith in
    let unit : 48 + m % 10 ≡ b = omega arith in
    rw z (spelled_back bs m v (suc j) (omega arith) x.rest ∙ more-digits j m bs (omega arith) ∙ rw (tens, unit))

-- it has no more digits than that
spelled-size : (bs : List ℕ) (n v i : ℕ) → n < 10 ^ i → spelled 4294967295 n bs ≡ Some v → v < 10 ^ (length bs + i)
spelled-size [] n v i h e = let z : 0 + i ≡ i = omega arith in rw z (omega (arith, no_more n v e))
spelled-size (b ∷ bs) n v i h e =
    let x = next n b bs v e in
    let high = x.goes.high in
    let z : suc (length bs) + i ≡ length bs + suc i = omega arith in
    rw z (spelled-size bs (10 * n + (b - 48)) v (suc i) (omega (arith, pow-suc 10 i)) x.rest)

-- and is a number of 32 bits
spelled-most : (bs : List ℕ) (n v : ℕ) → n ≤ 4294967295 → spelled 4294967295 n bs ≡ Some v → v ≤ 4294967295
spelled-most [] n v h e = omega (arith, no_more n v e)
spelled-most (b ∷ bs) n v h e = let x = next n b bs v e in spelled-most bs (10 * n + (b - 48)) v x.goes.small x.rest

some-digits : (k n : ℕ) → n < 10 ^ k → 0 < n → 0 < k
some-digits zero n h s = absurd (omega arith)
some-digits (suc k) n h s = omega arith

-- enough digits are enough
same_digits : (k j n : ℕ) (tail : List ℕ) → n < 10 ^ k → n < 10 ^ j → 0 < k → 0 < j → digits_before k n tail ≡ digits_before j n tail
same_digits zero j n tail h l s t = absurd (omega arith)
same_digits (suc k) zero n tail h l s t = absurd (omega arith)
same_digits (suc k) (suc j) n tail h l s t =
    by (ltb n 10) refl (λ p q. same_digits k j (n / 10) ((48 + n % 10) ∷ tail) (fewer k n h) (fewer j n l) p q)
  where
    by : (t : Bool) → ltb n 10 ≡ t
        → (0 < k → 0 < j → digits_before k (n / 10) ((48 + n % 10) ∷ tail) ≡ digits_before j (n / 10) ((48 + n % 10) ∷ tail))
        → digits_before (suc k) n tail ≡ digits_before (suc j) n tail
    by true e more = let m = ltb-true n 10 e in last-digit k n tail m ∙ sym (last-digit j n tail m)
    by false e more =
        let m = ltb-false n 10 e in
        more-digits k n tail m
        ∙ more (some-digits k (n / 10) (fewer k n h) (omega arith)) (some-digits j (n / 10) (fewer j n l) (omega arith))
        ∙ sym (more-digits j n tail m)

-- digits with no needless zero
spelled-printed : (b : ℕ) (bs : List ℕ) (v : ℕ) → 48 < b → spelled 4294967295 0 (b ∷ bs) ≡ Some v → b ∷ bs ≡ decimal v
unfolding decimal
spelled-printed b bs v s e =
    let x = next 0 b bs v e in
    let low = x.goes.low in
    let high = x.goes.high in
    let n : ℕ = b - 48 in
    let z : 10 * 0 + (b - 48) ≡ n = omega arith in
    let r : spelled 4294967295 n bs ≡ Some v = rw z at x.rest in
    let unit : 48 + n % 10 ≡ b = omega arith in
    let size : v < 10 ^ (length bs + 1) = spelled-size bs n v 1 (omega arith) r in
    let most : v ≤ 4294967295 = spelled-most bs n v (omega arith) r in
    sym (same_digits 10 (length bs + 1) v [] (omega arith) size (omega arith) (omega arith)
    ∙ spelled_back bs n v 1 (omega arith) r
    ∙ last-digit 0 n bs (omega arith)
    ∙ rw unit)

-- the only number that begins with a zero
zero-alone : (bs : List ℕ) (v : ℕ) → well_begun (48 ∷ bs) ≡ true → spelled 4294967295 0 (48 ∷ bs) ≡ Some v → 48 ∷ bs ≡ decimal v
unfolding well_begun decimal digits_before pick
zero-alone [] v w e = let z : 0 ≡ v = no_more 0 v (next 0 48 [] v e).rest in subst (λ (n : ℕ). 48 ∷ [] ≡ digits_before 10 n []) z refl
zero-alone (b ∷ bs) v w e = let l = eqb-true (suc (suc (length bs))) 1 (both (ltb 0 (suc (suc (length bs)))) _ w).1 in absurd (omega arith)

begun-printed : (b : ℕ) (bs : List ℕ) (v : ℕ) → well_begun (b ∷ bs) ≡ true → spelled 4294967295 0 (b ∷ bs) ≡ Some v → b ∷ bs ≡ decimal v
begun-printed b bs v w e = by (eqb b 48) refl
  where
    by : (t : Bool) → eqb b 48 ≡ t → b ∷ bs ≡ decimal v
    by true z =
        let q = eqb-true b 48 z in
        ap (λ (d : ℕ). d ∷ bs) q ∙ zero-alone bs v (rw q at w) (rw q at e)
    by false z =
        let low = (next 0 b bs v e).goes.low in
        spelled-printed b bs v (omega (arith, eqb-false b 48 z)) e

-- what is read as a number of 32 bits is that number printed
pub magnitude-back : (digits : List ℕ) (v : ℕ) → magnitude digits ≡ Some v → digits ≡ decimal v
unfolding magnitude unsigned well_begun pick
magnitude-back [] v e = other v e
magnitude-back (b ∷ bs) v e = by (well_begun (b ∷ bs)) refl e
  where
    by : (t : Bool) → well_begun (b ∷ bs) ≡ t → pick (well_begun (b ∷ bs)) (spelled 4294967295 0 (b ∷ bs)) None ≡ Some v → b ∷ bs ≡ decimal v
    by true w e = begun-printed b bs v w (rw w at e)
    by false w e = other v (rw w at e)

-- ---- a field

-- a minus stands first: it is the whole sign
minus-split : (field : List ℕ) → is_minus field ≡ true → field ≡ 45 ∷ drop 1 field
unfolding is_minus
minus-split [] e = never e
minus-split (b ∷ bs) e = ap (λ (d : ℕ). d ∷ bs) (eqb-true b 45 (both (ltb 0 (suc (length bs))) _ e).1)

malformed : {z : ℤ} {X : Type 0} → None ≡ Some z → X
malformed {z} e = absurd (none-some z e)

positive_back : (field : List ℕ) (m : Option ℕ) (z : ℤ) → magnitude field ≡ m → positive m ≡ Some z → field ≡ signed z
unfolding positive signed pick
positive_back field None z e p = malformed p
positive_back field (Some n) z e p = by (ltb n 2147483648) refl p
  where
    by : (t : Bool) → ltb n 2147483648 ≡ t → pick (ltb n 2147483648) (Some (pos n)) None ≡ Some z → field ≡ signed z
    by true l p = let q : pos n ≡ z = cc (rw l at p) in magnitude-back field n e ∙ ap signed q
    by false l p = malformed (rw l at p)

negative_back : (digits : List ℕ) (m : Option ℕ) (z : ℤ) → magnitude digits ≡ m → negative m ≡ Some z → 45 ∷ digits ≡ signed z
unfolding negative signed pick
negative_back digits None z e p = malformed p
negative_back digits (Some zero) z e p = malformed p
negative_back digits (Some (suc k)) z e p = by (leb (suc k) 2147483648) refl p
  where
    by : (t : Bool) → leb (suc k) 2147483648 ≡ t → pick (leb (suc k) 2147483648) (Some (negsuc k)) None ≡ Some z → 45 ∷ digits ≡ signed z
    by true l p = let q : negsuc k ≡ z = cc (rw l at p) in ap (λ (t : List ℕ). 45 ∷ t) (magnitude-back digits (suc k) e) ∙ ap signed q
    by false l p = malformed (rw l at p)

-- what is read as a number is that number printed
pub printed-reads : (field : List ℕ) (z : ℤ) → number_of field ≡ Some z → field ≡ signed z
unfolding number_of pick
printed-reads field z e = by (is_minus field) refl e
  where
    by : (t : Bool) → is_minus field ≡ t → pick (is_minus field) (negative (magnitude (drop 1 field))) (positive (magnitude field)) ≡ Some z → field ≡ signed z
    by true m e = minus-split field m ∙ negative_back (drop 1 field) (magnitude (drop 1 field)) z refl (rw m at e)
    by false m e = positive_back field (magnitude field) z refl (rw m at e)
