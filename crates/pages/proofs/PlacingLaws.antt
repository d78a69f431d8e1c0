-- Laws of entries that are placed one after the other: the page's periods rise, and a page of 60 lines keeps the first 60 of all. Assumes nothing.
use mathlib.Core.Path.{◌≡◌, refl, sym, ap, ap₂, ◌∙◌}
use mathlib.Core.Bool.{Bool, true, false, not, ◌&&◌, ◌||◌}
use mathlib.Core.List.{List, [], ◌∷◌, ◌++◌, append_assoc}
use Prim.Native.Nat.{ℕ, zero, suc, ◌+◌, ◌≤◌, ◌<◌}
use native.Mathlib.Omega.{arith}
use native.Mathlib.Decide.{dec_le}
use lib.Dec.{eqb, ltb}
use lib.ListN.{length, take, drop, get_or, set, length-append, length-take}
use lib.Seq.{take_all, take-take, take-append-le, length-take-le, drop-cons, get_or-take, take-set-lt, set_split, take-suc-set, drop-set-lt}
use native.Mathlib.Numerals.{add-one}
use Rattle.lists.proofs.Parts.{drop-beyond}
use Rattle.pages.specs.declared.lines.Page.{Page}
use Rattle.pages.specs.declared.placing.Placed.{Placed}
use Rattle.pages.specs.Placing.{Holds}
use borrow.Author.Tests.{lt-ltb, le-ltb, ltb-true, eq-eqb, ne_eqb}
use Rattle.lists.specs.Choice.{pick}
use Rattle.lists.proofs.Booleans.{both, or-true}
use Rattle.lists.proofs.Choice.{pick_true, pick-false, pick-holds}
use Rattle.pages.specs.declared.entries.Entry.{Entry}
use Rattle.pages.specs.Entries.{decided}
use Rattle.pages.specs.Page.{standing, placed, on_page, rises}

-- ---- two periods

-- which of two numbers is lower
pub data Order (a b : ℕ) : Type 0 where
  lower : a < b → Order a b
  equal : a ≡ b → Order a b
  higher : b < a → Order a b

pub order : (a b : ℕ) → Order a b
order a b = by (dec_le b a)
  where
    from : b ≤ a → Dec (a ≤ b) → Order a b
    from h (yes l) = equal (omega arith)
    from h (no l) = higher (omega (arith, l))

    by : Dec (b ≤ a) → Order a b
    by (yes h) = from h (dec_le a b)
    by (no h) = lower (omega (arith, h))

-- ---- an entry in its place

module _ (e q : Entry) (qs : List Entry) where
  pub placed-lower : e.period < q.period → placed e (q ∷ qs) ≡ e ∷ q ∷ qs
  unfolding placed
  placed-lower h = pick_true _ _ _ (lt-ltb _ _ h)

  pub placed-equal : e.period ≡ q.period → placed e (q ∷ qs) ≡ standing e q ∷ qs
  unfolding placed
  placed-equal h = pick-false _ _ _ (le-ltb e.period q.period (omega arith)) ∙ pick_true _ _ _ (eq-eqb _ _ h)

  pub placed-higher : q.period < e.period → placed e (q ∷ qs) ≡ q ∷ placed e qs
  unfolding placed
  placed-higher h =
      pick-false _ _ _ (le-ltb e.period q.period (omega arith))
      ∙ pick-false _ _ _ (ne_eqb e.period q.period (λ z. omega arith))

-- whichever stands, it is of their period
pub standing-period : (e q : Entry) → e.period ≡ q.period → (standing e q).period ≡ q.period
unfolding standing
standing-period e q h = pick-holds (λ (s : Entry). s.period ≡ q.period) (not (decided e) && decided q) q e (λ _. refl) (λ _. h)

-- ---- periods that rise

pub rises-head : (e q : Entry) (qs : List Entry) → rises (e ∷ q ∷ qs) ≡ true → e.period < q.period
unfolding rises
rises-head e q qs h = ltb-true _ _ (both (ltb e.period q.period) _ h).0

pub rises-tail : (e : Entry) (l : List Entry) → rises (e ∷ l) ≡ true → rises l ≡ true
unfolding rises
rises-tail e [] h = refl
rises-tail e (q ∷ qs) h = (both (ltb e.period q.period) _ h).1

pub rises-cons : (e q : Entry) (qs : List Entry) → e.period < q.period → rises (q ∷ qs) ≡ true → rises (e ∷ q ∷ qs) ≡ true
unfolding rises
rises-cons e q qs l h = rw (lt-ltb _ _ l) h

-- another entry of the first one's period
rises-other : (e q : Entry) (l : List Entry) → e.period ≡ q.period → rises (q ∷ l) ≡ true → rises (e ∷ l) ≡ true
unfolding rises
rises-other e q [] s h = refl
rises-other e q (r ∷ rs) s h =
    let below = rises-head q r rs h in
    rises-cons e r rs (omega arith) (rises-tail q (r ∷ rs) h)

cons-placed : (q e : Entry) (qs : List Entry) → q.period < e.period → rises (q ∷ qs) ≡ true → rises (q ∷ placed e qs) ≡ true
unfolding placed rises
cons-placed q e [] l h = rises-cons q e [] l refl
cons-placed q e (r ∷ rs) l h = by (order e.period r.period) (λ m. cons-placed r e rs m (rises-tail q (r ∷ rs) h))
  where
    below : q.period < r.period
    below = rises-head q r rs h

    rest : rises (r ∷ rs) ≡ true
    rest = rises-tail q (r ∷ rs) h

    by : Order e.period r.period → (r.period < e.period → rises (r ∷ placed e rs) ≡ true) → rises (q ∷ placed e (r ∷ rs)) ≡ true
    by (lower m) more = ap (λ (t : List Entry). rises (q ∷ t)) (placed-lower e r rs m) ∙ rises-cons q e (r ∷ rs) l (rises-cons e r rs m rest)
    by (equal m) more =
        let s = standing-period e r m in
        ap (λ (t : List Entry). rises (q ∷ t)) (placed-equal e r rs m)
        ∙ rises-cons q (standing e r) rs (omega arith) (rises-other (standing e r) r rs s rest)
    by (higher m) more = ap (λ (t : List Entry). rises (q ∷ t)) (placed-higher e r rs m) ∙ rises-cons q r (placed e rs) below (more m)

pub placed-rises : (e : Entry) (l : List Entry) → rises l ≡ true → rises (placed e l) ≡ true
unfolding placed rises
placed-rises e [] h = refl
placed-rises e (q ∷ qs) h = by (order e.period q.period)
  where
    by : Order e.period q.period → rises (placed e (q ∷ qs)) ≡ true
    by (lower m) = ap rises (placed-lower e q qs m) ∙ rises-cons e q qs m h
    by (equal m) = ap rises (placed-equal e q qs m) ∙ rises-other (standing e q) q qs (standing-period e q m) h
    by (higher m) = ap rises (placed-higher e q qs m) ∙ cons-placed q e qs m h

-- the periods of a page rise
pub on-page-rises : (es : List Entry) → rises (on_page es) ≡ true
unfolding on_page rises
on-page-rises [] = refl
on-page-rises (e ∷ es) = placed-rises e (on_page es) (on-page-rises es)

pub rises-take : (n : ℕ) (l : List Entry) → rises l ≡ true → rises (take n l) ≡ true
unfolding rises
rises-take zero l h = refl
rises-take (suc n) [] h = refl
rises-take (suc zero) (e ∷ l) h = refl
rises-take (suc (suc n)) (e ∷ []) h = refl
rises-take (suc (suc n)) (e ∷ q ∷ qs) h =
    rises-cons e q (take n qs) (rises-head e q qs h) (rises-take (suc n) (q ∷ qs) (rises-tail e (q ∷ qs) h))

-- ---- the first 60 of all

take-cons-take : (n : ℕ) (q : Entry) (qs : List Entry) → take n (q ∷ take n qs) ≡ take n (q ∷ qs)
take-cons-take zero q qs = refl
take-cons-take (suc n) q qs = ap (λ (t : List Entry). q ∷ t) (take-take n (suc n) qs (omega arith))

-- what falls off the end decides nothing before it
pub take-placed : (n : ℕ) (e : Entry) (l : List Entry) → take n (placed e (take n l)) ≡ take n (placed e l)
take-placed zero e l = refl
take-placed (suc n) e [] = refl
take-placed (suc n) e (q ∷ qs) = by (order e.period q.period) (take-placed n e qs)
  where
    by : Order e.period q.period → take n (placed e (take n qs)) ≡ take n (placed e qs)
        → take (suc n) (placed e (q ∷ take n qs)) ≡ take (suc n) (placed e (q ∷ qs))
    by (lower m) more = rw (placed-lower e q (take n qs) m, placed-lower e q qs m) (ap (λ (t : List Entry). e ∷ t) (take-cons-take n q qs))
    by (equal m) more =
        rw (placed-equal e q (take n qs) m, placed-equal e q qs m)
        (ap (λ (t : List Entry). standing e q ∷ t) (take-take n n qs (omega arith)))
    by (higher m) more = rw (placed-higher e q (take n qs) m, placed-higher e q qs m) (ap (λ (t : List Entry). q ∷ t) more)

-- a page never has fewer lines for one entry more
pub placed-grows : (e : Entry) (l : List Entry) → length l ≤ length (placed e l)
unfolding placed
placed-grows e [] = omega arith
placed-grows e (q ∷ qs) = by (order e.period q.period) (placed-grows e qs)
  where
    by : Order e.period q.period → length qs ≤ length (placed e qs) → suc (length qs) ≤ length (placed e (q ∷ qs))
    by (lower m) more = rw (placed-lower e q qs m) (omega arith)
    by (equal m) more = rw (placed-equal e q qs m) (omega arith)
    by (higher m) more = rw (placed-higher e q qs m) (omega arith)

-- ---- placing as the code does: what stands in the way moves on

unfoldable pub carried : Entry → List Entry → List Entry
carried e [] = e ∷ []
carried e (q ∷ qs) =
    pick (eqb e.period q.period)
    (standing e q ∷ qs)
    (pick (ltb e.period q.period) e q ∷ carried (pick (ltb e.period q.period) q e) qs)

pub carried-equal : (e q : Entry) (qs : List Entry) → e.period ≡ q.period → carried e (q ∷ qs) ≡ standing e q ∷ qs
unfolding carried
carried-equal e q qs h = pick_true _ _ _ (eq-eqb _ _ h)

pub carried_other : (e q : Entry) (qs : List Entry) → (e.period ≡ q.period → ⊥)
    → carried e (q ∷ qs) ≡ pick (ltb e.period q.period) e q ∷ carried (pick (ltb e.period q.period) q e) qs
unfolding carried
carried_other e q qs h = pick-false _ _ _ (ne_eqb _ _ h)

carried-lower : (e q : Entry) (qs : List Entry) → e.period < q.period → carried e (q ∷ qs) ≡ e ∷ carried q qs
carried-lower e q qs h =
    let t = lt-ltb e.period q.period h in
    carried_other e q qs (λ z. omega arith) ∙ rw (pick_true _ e q t, pick_true _ q e t)

carried-higher : (e q : Entry) (qs : List Entry) → q.period < e.period → carried e (q ∷ qs) ≡ q ∷ carried e qs
carried-higher e q qs h =
    let t = le-ltb e.period q.period (omega arith) in
    carried_other e q qs (λ z. omega arith) ∙ rw (pick-false _ e q t, pick-false _ q e t)

carried_first : (q : Entry) (qs : List Entry) → rises (q ∷ qs) ≡ true → carried q qs ≡ q ∷ qs
unfolding carried
carried_first q [] h = refl
carried_first q (r ∷ rs) h =
    carried-lower q r rs (rises-head q r rs h) ∙ ap (λ (t : List Entry). q ∷ t) (carried_first r rs (rises-tail q (r ∷ rs) h))

pub carried-placed : (e : Entry) (l : List Entry) → rises l ≡ true → carried e l ≡ placed e l
unfolding carried placed
carried-placed e [] h = refl
carried-placed e (q ∷ qs) h = by (order e.period q.period) (carried-placed e qs (rises-tail q qs h))
  where
    by : Order e.period q.period → carried e qs ≡ placed e qs → carried e (q ∷ qs) ≡ placed e (q ∷ qs)
    by (lower m) more = carried-lower e q qs m ∙ ap (λ (t : List Entry). e ∷ t) (carried_first q qs h) ∙ sym (placed-lower e q qs m)
    by (equal m) more = carried-equal e q qs m ∙ sym (placed-equal e q qs m)
    by (higher m) more = carried-higher e q qs m ∙ ap (λ (t : List Entry). q ∷ t) more ∙ sym (placed-higher e q qs m)

-- ---- the loop that places: of the lines in use the first i are as they shall be, and what `moved` still does to the others is what is left

module _ (lines : List Entry) (count i : ℕ) (moved d : Entry) (all : List Entry) (here : i < count) (room : count ≤ length lines)
    (so_far : take i (take count lines) ++ carried moved (drop i (take count lines)) ≡ all) where
  in_use : i < length (take count lines)
  in_use = omega (arith, length-take-le count lines room)

  held : drop i (take count lines) ≡ get_or lines i d ∷ drop (suc i) (take count lines)
  held = drop-cons (take count lines) i d in_use ∙ ap (λ (q : Entry). q ∷ drop (suc i) (take count lines)) (get_or-take count lines i d here)

  -- its period stands there already
  pub found : (s : Entry) → moved.period ≡ (get_or lines i d).period → s ≡ standing moved (get_or lines i d) → take count (set lines i s) ≡ all
  found s same e =
      take-set-lt count lines i s here
      ∙ set_split (take count lines) i s in_use
      ∙ ap (λ (t : List Entry). take i (take count lines) ++ t)
      (ap (λ (t : Entry). t ∷ drop (suc i) (take count lines)) e ∙ sym (ap (carried moved) held ∙ carried-equal moved (get_or lines i d) _ same))
      ∙ so_far

  -- another one stands there, and the higher of the two moves on
  pub turn : (lo hi : Entry) → (moved.period ≡ (get_or lines i d).period → ⊥)
      → lo ≡ pick (ltb moved.period (get_or lines i d).period) moved (get_or lines i d)
      → hi ≡ pick (ltb moved.period (get_or lines i d).period) (get_or lines i d) moved
      → take (i + 1) (take count (set lines i lo)) ++ carried hi (drop (i + 1) (take count (set lines i lo))) ≡ all
  turn lo hi other l h =
      let lo-in : take count (set lines i lo) ≡ set (take count lines) i lo = take-set-lt count lines i lo here in
      let before : take (suc i) (set (take count lines) i lo) ≡ take i (take count lines) ++ (lo ∷ []) = take-suc-set (take count lines) i lo in_use in
      let behind : drop (suc i) (set (take count lines) i lo) ≡ drop (suc i) (take count lines) =
      drop-set-lt (suc i) (take count lines) i lo (omega arith) in
      let rest : carried moved (drop i (take count lines)) ≡ lo ∷ carried hi (drop (suc i) (take count lines)) =
      ap (carried moved) held ∙ carried_other moved (get_or lines i d) _ other ∙ rw (sym l, sym h) in
      rw (add-one, lo-in, before, behind)
      (append_assoc (take i (take count lines)) (lo ∷ []) _ ∙ ap (λ (t : List Entry). take i (take count lines) ++ t) (sym rest) ∙ so_far)

-- the entry that is left stands behind the last line
pub last : (lines : List Entry) (count : ℕ) (moved : Entry) (all : List Entry)
    → take count (take count lines) ++ carried moved (drop count (take count lines)) ≡ all → count ≤ length lines
    → take count lines ++ (moved ∷ []) ≡ all
unfolding carried
last lines count moved all so_far room =
    let none : drop count (take count lines) ≡ [] = drop-beyond (take count lines) count (omega (arith, length-take-le count lines room)) in
    let whole : take count (take count lines) ≡ take count lines = take-take count count lines (omega arith) in
    sym (ap (λ (t : List Entry). t ++ carried moved (drop count (take count lines))) whole
    ∙ ap (λ (t : List Entry). take count lines ++ carried moved t) none)
    ∙ so_far

-- ---- what is held

pub take-few : (l : List Entry) (n : ℕ) → n ≤ 60 → length (take n l) ≤ 60
take-few l n h = omega (arith, length-take n l)

-- a page that has room for all
pub all_held : (page : Page) (more : Bool) (l : List Entry) → page.count ≤ 60 → take page.count page.lines ≡ l → length l ≤ 60
    → Holds (record { page = page; more = more }) l more
all_held page more l few e short = record { few = few; lines = e ∙ sym (take_all 60 l short); more = sym (ap (λ t. more || t) (le-ltb 60 (length l) short) ∙ or-none more) }
  where
    or-none : (b : Bool) → (b || false) ≡ b
    or-none true = refl
    or-none false = refl

-- a page that has none for the last of them
pub none_left : (lines : List Entry) (count : ℕ) (entry : Entry) (more : Bool) → length lines ≡ 60 → count ≡ 60
    → Holds (record { page = record { lines = lines; count = count }; more = true }) (take count lines ++ (entry ∷ [])) more
none_left lines count entry more e h =
    let room : length (take count lines) ≡ count = length-take-le count lines (omega arith) in
    let whole : length (take count lines ++ (entry ∷ [])) ≡ 61 = omega (arith, length-append (take count lines) (entry ∷ [])) in
    record {
      few = omega arith;
      lines = sym (take-append-le 60 (take count lines) (entry ∷ []) (omega arith) ∙ ap (λ (n : ℕ). take n (take count lines)) (sym h) ∙ take-take count count lines (omega arith));
      more = sym (ap (λ (t : Bool). more || t) (lt-ltb 60 (length (take count lines ++ (entry ∷ []))) (omega arith)) ∙ or-true more);
    }

-- more than 60 of some, or of others that are all where there are not
more_of : (l m all : List Entry) → (60 < length l → 60 < length all) → (length l ≤ 60 → m ≡ all) → (ltb 60 (length l) || ltb 60 (length m)) ≡ ltb 60 (length all)
more_of l m all many few = by (dec_le (length l) 60)
  where
    by : Dec (length l ≤ 60) → (ltb 60 (length l) || ltb 60 (length m)) ≡ ltb 60 (length all)
    by (yes h) = rw (le-ltb 60 (length l) h) (ap (λ (t : List Entry). ltb 60 (length t)) (few h))
    by (no h) = let large : 60 < length l = omega (arith, h) in rw (lt-ltb 60 (length l) large) (sym (lt-ltb 60 (length all) (many large)))

-- what is placed among the first 60 is placed among all
pub holds-all : (p r : Placed) (e : Entry) (l : List Entry) → Holds p l false
    → Holds r (placed e (take p.page.count p.page.lines)) p.more → Holds r (placed e l) false
holds-all p r e l held h =
    record {
      few = h.few;
      lines = h.lines ∙ ap (λ (q : List Entry). take 60 (placed e q)) held.lines ∙ take-placed 60 e l;
      more =
          h.more
          ∙ ap₂ (λ (b : Bool) (q : List Entry). b || ltb 60 (length (placed e q))) held.more held.lines
          ∙ more_of l (placed e (take 60 l)) (placed e l) (λ m. omega (arith, placed-grows e l)) (λ m. ap (placed e) (take_all 60 l m));
    }

-- what is held of a page rises
pub held-rises : (p : Placed) (es : List Entry) → Holds p (on_page es) false → rises (take p.page.count p.page.lines) ≡ true
held-rises p es h = ap rises h.lines ∙ rises-take 60 (on_page es) (on-page-rises es)
