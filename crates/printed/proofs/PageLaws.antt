-- Laws of pages that follow one another: the entries from a period on, one page after the other, and the length of all. Assumes nothing.
use mathlib.Core.Path.{◌≡◌, refl, sym, ap, ap₂, ◌∙◌, subst}
use mathlib.Core.Bool.{Bool, true, false, ◌||◌}
use mathlib.Core.List.{List, [], ◌∷◌, ◌++◌, append-nil, append_assoc}
use Prim.Native.Nat.{ℕ, zero, suc, ◌+◌, ◌-◌, ◌*◌, ◌≤◌, ◌<◌}
use native.Mathlib.Omega.{arith}
use native.Mathlib.Decide.{dec_le}
use lib.Dec.{ltb}
use lib.ListN.{length, take, drop, get_or, length-append, length-drop, length-take}
use lib.Seq.{take-take, length-take-le, drop-cons, drop-drop, get_or-take, get_or-drop}
use borrow.Author.Tests.{lt-ltb, le-ltb, ltb-true, ltb-false}
use Rattle.lists.specs.Choice.{pick}
use Rattle.lists.proofs.Choice.{pick_true, pick-false}
use Rattle.lists.proofs.Parts.{drop-beyond}
use Rattle.text.specs.Printing.{Puts}
use Rattle.text.proofs.PrintingLaws.{then-puts, puts-same, put-nothing}
use Rattle.pages.specs.declared.entries.Entry.{Entry}
use Rattle.pages.specs.declared.placing.Placed.{Placed}
use Rattle.pages.specs.Page.{standing, placed, on_page, rises, page_bytes}
use Rattle.pages.specs.Placing.{Holds}
use Rattle.pages.proofs.LineLaws.{page-length}
use Rattle.pages.proofs.PlacingLaws.{Order, lower, equal, higher, order, placed-lower, placed-equal, placed-higher, standing-period, rises-head, rises-tail, on-page-rises, take-few, holds-all}
use Rattle.printed.specs.Pages.{paged, output_room}
use Rattle.printed.specs.Placing.{entries_from}

-- no more are taken than are asked for
taken-most : (n : ℕ) (l : List Entry) → length (take n l) ≤ n
taken-most n l = omega (arith, length-take n l)

-- ---- the entries from a period on

-- an entry below it
from-below : (from : ℕ) (e : Entry) (es : List Entry) → e.period < from → entries_from from (e ∷ es) ≡ entries_from from es
unfolding entries_from
from-below from e es h = pick_true _ _ _ (lt-ltb _ _ h)

-- an entry that is not
from-above : (from : ℕ) (e : Entry) (es : List Entry) → from ≤ e.period → entries_from from (e ∷ es) ≡ e ∷ entries_from from es
unfolding entries_from
from-above from e es h = pick-false _ _ _ (le-ltb _ _ h)

-- from 0 on they are all
from_all : (es : List Entry) → entries_from 0 es ≡ es
unfolding entries_from
from_all [] = refl
from_all (e ∷ es) = from-above 0 e es (omega arith) ∙ ap (λ (t : List Entry). e ∷ t) (from_all es)

-- entries that rise, without the first ones that are below a period
unfoldable drop_below : ℕ → List Entry → List Entry
drop_below from [] = []
drop_below from (e ∷ es) = pick (ltb e.period from) (drop_below from es) (e ∷ es)

-- the first one is below it
below : (from : ℕ) (e : Entry) (es : List Entry) → e.period < from → drop_below from (e ∷ es) ≡ drop_below from es
unfolding drop_below
below from e es h = pick_true _ _ _ (lt-ltb _ _ h)

-- the first one is not
above : (from : ℕ) (e : Entry) (es : List Entry) → from ≤ e.period → drop_below from (e ∷ es) ≡ e ∷ es
unfolding drop_below
above from e es h = pick-false _ _ _ (le-ltb _ _ h)

-- an entry below it, placed among others, falls away
placed_below : (from : ℕ) (e : Entry) (l : List Entry) → e.period < from → drop_below from (placed e l) ≡ drop_below from l
unfolding placed
placed_below from e [] h = below from e [] h
placed_below from e (q ∷ qs) h = by (order e.period q.period) (placed_below from e qs h)
  where
    by : Order e.period q.period → drop_below from (placed e qs) ≡ drop_below from qs → drop_below from (placed e (q ∷ qs)) ≡ drop_below from (q ∷ qs)
    by (lower m) more = ap (drop_below from) (placed-lower e q qs m) ∙ below from e (q ∷ qs) h
    by (equal m) more =
        let s = standing-period e q m in
        ap (drop_below from) (placed-equal e q qs m) ∙ below from (standing e q) qs (omega arith) ∙ sym (below from q qs (omega arith))
    by (higher m) more =
        ap (drop_below from) (placed-higher e q qs m) ∙ below from q (placed e qs) (omega arith) ∙ more ∙ sym (below from q qs (omega arith))

-- one that is not is placed among those that stay
placed-above : (from : ℕ) (e : Entry) (l : List Entry) → from ≤ e.period → drop_below from (placed e l) ≡ placed e (drop_below from l)
unfolding placed drop_below
placed-above from e [] h = above from e [] h
placed-above from e (q ∷ qs) h = by (order e.period q.period) (placed-above from e qs h)
  where
    from-q : q.period < e.period → drop_below from (placed e qs) ≡ placed e (drop_below from qs) → Dec (from ≤ q.period)
        → drop_below from (q ∷ placed e qs) ≡ placed e (drop_below from (q ∷ qs))
    from-q m more (yes l) = above from q (placed e qs) l ∙ sym (ap (placed e) (above from q qs l) ∙ placed-higher e q qs m)
    from-q m more (no l) =
        let low : q.period < from = omega (arith, l) in
        below from q (placed e qs) low ∙ more ∙ sym (ap (placed e) (below from q qs low))

    by : Order e.period q.period → drop_below from (placed e qs) ≡ placed e (drop_below from qs)
        → drop_below from (placed e (q ∷ qs)) ≡ placed e (drop_below from (q ∷ qs))
    by (lower m) more =
        ap (drop_below from) (placed-lower e q qs m)
        ∙ above from e (q ∷ qs) h
        ∙ sym (ap (placed e) (above from q qs (omega arith)) ∙ placed-lower e q qs m)
    by (equal m) more =
        let s = standing-period e q m in
        ap (drop_below from) (placed-equal e q qs m)
        ∙ above from (standing e q) qs (omega arith)
        ∙ sym (ap (placed e) (above from q qs (omega arith)) ∙ placed-equal e q qs m)
    by (higher m) more = ap (drop_below from) (placed-higher e q qs m) ∙ from-q m more (dec_le from q.period)

-- the page of the entries from a period on is what is left of the page of all
page-from : (from : ℕ) (es : List Entry) → on_page (entries_from from es) ≡ drop_below from (on_page es)
unfolding on_page entries_from drop_below
page-from from [] = refl
page-from from (e ∷ es) = by (dec_le from e.period) (page-from from es)
  where
    by : Dec (from ≤ e.period) → on_page (entries_from from es) ≡ drop_below from (on_page es)
        → on_page (entries_from from (e ∷ es)) ≡ drop_below from (placed e (on_page es))
    by (yes h) more = ap on_page (from-above from e es h) ∙ ap (placed e) more ∙ sym (placed-above from e (on_page es) h)
    by (no h) more =
        let low : e.period < from = omega (arith, h) in
        ap on_page (from-below from e es low) ∙ more ∙ sym (placed_below from e (on_page es) low)

-- the first of entries that rise is the lowest
first-lowest : (e : Entry) (es : List Entry) (j : ℕ) (d : Entry) → rises (e ∷ es) ≡ true → j < length es → e.period < (get_or es j d).period
first-lowest e [] j d h l = absurd (omega arith)
first-lowest e (q ∷ qs) zero d h l = rises-head e q qs h
first-lowest e (q ∷ qs) (suc j) d h l =
    let next = rises-head e q qs h in
    let rest = first-lowest q qs j d (rises-tail e (q ∷ qs) h) (omega arith) in
    omega arith

-- nothing that follows the first of them is below the period behind it
behind-first : (e : Entry) (es : List Entry) → rises (e ∷ es) ≡ true → drop_below (e.period + 1) es ≡ es
unfolding drop_below
behind-first e [] h = refl
behind-first e (q ∷ qs) h = let next = rises-head e q qs h in above (e.period + 1) q qs (omega arith)

-- from the period behind that of number k on, those behind number k are left
behind : (l : List Entry) (k : ℕ) (d : Entry) → rises l ≡ true → k < length l → drop_below ((get_or l k d).period + 1) l ≡ drop (suc k) l
behind [] k d h s = absurd (omega arith)
behind (e ∷ es) zero d h s = below (e.period + 1) e es (omega arith) ∙ behind-first e es h
behind (e ∷ es) (suc j) d h s =
    let low = first-lowest e es j d h (omega arith) in
    below ((get_or es j d).period + 1) e es (omega arith) ∙ behind es j d (rises-tail e es h) (omega arith)

-- ---- one entry before others

-- behind the last entry there is none
pub none_from : (from : ℕ) (es : List Entry) (i : ℕ) → length es ≤ i → on_page (entries_from from (drop i es)) ≡ []
unfolding on_page entries_from
none_from from es i h = ap (λ (t : List Entry). on_page (entries_from from t)) (drop-beyond es i h)

-- one entry before others, where it is not below the period
one_from : (from : ℕ) (e : Entry) (es : List Entry)
    → pick (ltb e.period from) (on_page (entries_from from es)) (placed e (on_page (entries_from from es))) ≡ on_page (entries_from from (e ∷ es))
unfolding on_page
one_from from e es = by (dec_le from e.period)
  where
    by : Dec (from ≤ e.period)
        → pick (ltb e.period from) (on_page (entries_from from es)) (placed e (on_page (entries_from from es))) ≡ on_page (entries_from from (e ∷ es))
    by (yes h) = pick-false _ _ _ (le-ltb _ _ h) ∙ sym (ap on_page (from-above from e es h))
    by (no h) =
        let low : e.period < from = omega (arith, h) in
        pick_true _ _ _ (lt-ltb _ _ low) ∙ sym (ap on_page (from-below from e es low))

-- the entry before those from number i on
pub one-before : (from : ℕ) (es : List Entry) (i : ℕ) (d : Entry) → 0 < i → i ≤ length es
    → pick (ltb (get_or es (i - 1) d).period from) (on_page (entries_from from (drop i es)))
    (placed (get_or es (i - 1) d) (on_page (entries_from from (drop i es))))
    ≡ on_page (entries_from from (drop (i - 1) es))
one-before from es i d some here =
    let k : ℕ = i - 1 in
    let s : i ≡ suc k = omega arith in
    let cons : drop k es ≡ get_or es k d ∷ drop i es =
    drop-cons es k d (omega arith) ∙ ap (λ (n : ℕ). get_or es k d ∷ drop n es) (sym s) in
    one_from from (get_or es k d) (drop i es) ∙ ap (λ (t : List Entry). on_page (entries_from from t)) (sym cons)

-- what is held of all, of an entry that is placed where a test fails
pub holds-from : (b : Bool) (p r : Placed) (e : Entry) (l : List Entry) → Holds p l false
    → Holds r (pick b (take p.page.count p.page.lines) (placed e (take p.page.count p.page.lines))) p.more
    → Holds r (pick b l (placed e l)) false
holds-from true p r e l held h =
    let now : List Entry = take p.page.count p.page.lines in
    let g = subst (λ (t : List Entry). Holds r t p.more) (pick_true true now (placed e now) refl) h in
    subst (λ (t : List Entry). Holds r t false) (sym (pick_true true l (placed e l) refl)) (record {
      few = g.few;
      lines = g.lines ∙ ap (take 60) held.lines ∙ take-take 60 60 l (omega arith);
      more =
          g.more
          ∙ ap (λ (t : Bool). p.more || t) (le-ltb 60 (length now) (take-few p.page.lines p.page.count held.few))
          ∙ or-none p.more
          ∙ held.more;
    })
  where
    or-none : (t : Bool) → (t || false) ≡ t
    or-none true = refl
    or-none false = refl
holds-from false p r e l held h =
    let now : List Entry = take p.page.count p.page.lines in
    let g = subst (λ (t : List Entry). Holds r t p.more) (pick-false false now (placed e now) refl) h in
    subst (λ (t : List Entry). Holds r t false) (sym (pick-false false l (placed e l) refl)) (holds-all p r e l held g)

-- ---- page after page

-- a page that is the last
paged-last : (p k : ℕ) (es : List Entry) → length es ≤ 60 → paged p (suc k) es ≡ page_bytes p (take 60 es)
unfolding paged
paged-last p k es h =
    ap (λ (t : List ℕ). page_bytes p (take 60 es) ++ t) (pick-false _ _ [] (le-ltb 60 (length es) h)) ∙ append-nil (page_bytes p (take 60 es))

-- a page that is not
paged-next : (p k : ℕ) (es : List Entry) → 60 < length es → paged p (suc k) es ≡ page_bytes p (take 60 es) ++ (12 ∷ 10 ∷ paged p k (drop 60 es))
unfolding paged
paged-next p k es h = ap (λ (t : List ℕ). page_bytes p (take 60 es) ++ t) (pick_true _ _ [] (lt-ltb 60 (length es) h))

-- so many pages were put, and the entries from the next page's first period on are those of the pages left
pub record Sofar (p : ℕ) (area : List ℕ) (es : List Entry) (area' : List ℕ) (end from number : ℕ) : Type 0 where
  pub few : number ≤ 9
  pub before : List ℕ
  pub puts : Puts area 0 before end area'
  pub whole : before ++ paged p (9 - number) (drop (60 * number) (on_page es)) ≡ paged p 9 (on_page es)
  pub rest : on_page (entries_from from es) ≡ drop (60 * number) (on_page es)

-- before the first page
pub no-page : (p : ℕ) (area : List ℕ) (es : List Entry) → Sofar p area es area 0 0 0
no-page p area es = record { few = omega arith; before = []; puts = put-nothing area 0 0 (omega arith); whole = refl; rest = ap on_page (from_all es) }

module _ (p : ℕ) (area : List ℕ) (es : List Entry) (area' : List ℕ) (end from number : ℕ) (s : Sofar p area es area' end from number) where
  -- after nine pages nothing is left
  pub pages-done : 9 ≤ number → Puts area 0 (paged p 9 (on_page es)) end area'
  unfolding paged
  pages-done h =
      let none : 9 - number ≡ 0 = omega arith in
      let all = ap (λ (k : ℕ). s.before ++ paged p k (drop (60 * number) (on_page es))) none ∙ append-nil s.before in
      puts-same (sym all ∙ s.whole) s.puts

  module _ (r : Placed) (area'' : List ℕ) (end' : ℕ) (h : number < 9) (held : Holds r (on_page (entries_from from es)) false)
      (page : Puts area' end (page_bytes p (take r.page.count r.page.lines)) end' area'') where
    -- the page's lines are the first 60 of those left
    shown : take r.page.count r.page.lines ≡ take 60 (drop (60 * number) (on_page es))
    shown = held.lines ∙ ap (take 60) s.rest

    -- and it tells whether there are more
    more : r.more ≡ ltb 60 (length (drop (60 * number) (on_page es)))
    more = held.more ∙ ap (λ (t : List Entry). ltb 60 (length t)) s.rest

    -- the last page
    pub page-last : r.more ≡ false → Puts area 0 (paged p 9 (on_page es)) end' area''
    page-last e =
        let t : List Entry = drop (60 * number) (on_page es) in
        let few = ltb-false 60 (length t) (sym more ∙ e) in
        let k : 9 - number ≡ suc (9 - (number + 1)) = omega arith in
        let bytes : page_bytes p (take r.page.count r.page.lines) ≡ paged p (9 - number) t =
        ap (page_bytes p) shown ∙ sym (ap (λ (n : ℕ). paged p n t) k ∙ paged-last p (9 - (number + 1)) t few) in
        puts-same (ap (λ (l : List ℕ). s.before ++ l) bytes ∙ s.whole) (then-puts s.puts page)

    -- another page follows
    pub page-next : (area''' : List ℕ) (end'' from' : ℕ) (d : Entry) → r.more ≡ true → Puts area'' end' (12 ∷ 10 ∷ []) end'' area'''
        → from' ≡ (get_or r.page.lines 59 d).period + 1 → Sofar p area es area''' end'' from' (number + 1)
    page-next area''' end'' from' d e feed ef =
        let all : List Entry = on_page es in
        let t : List Entry = drop (60 * number) (on_page es) in
        let many = ltb-true 60 (length t) (sym more ∙ e) in
        let k : 9 - number ≡ suc (9 - (number + 1)) = omega arith in
        let pg : List ℕ = page_bytes p (take r.page.count r.page.lines) in
        let later : List ℕ = paged p (9 - (number + 1)) (drop (60 * (number + 1)) all) in
        let on : drop 60 t ≡ drop (60 * (number + 1)) all =
        drop-drop 60 (60 * number) all ∙ ap (λ (n : ℕ). drop n all) {x = 60 * number + 60} {y = 60 * (number + 1)} (omega arith) in
        let now : paged p (9 - number) t ≡ pg ++ (12 ∷ 10 ∷ later) =
        ap (λ (n : ℕ). paged p n t) k
        ∙ paged-next p (9 - (number + 1)) t many
        ∙ ap₂ (λ (a b : List Entry). page_bytes p a ++ (12 ∷ 10 ∷ paged p (9 - (number + 1)) b)) (sym shown) on in
        let size : length t ≡ length all - 60 * number = length-drop (60 * number) all in
        let held-size : length (take r.page.count r.page.lines) ≡ 60 = ap length shown ∙ length-take-le 60 t (omega arith) in
        let full : 59 < r.page.count = omega (arith, taken-most r.page.count r.page.lines) in
        let last : get_or r.page.lines 59 d ≡ get_or all (60 * number + 59) d =
        sym (get_or-take r.page.count r.page.lines 59 d full)
        ∙ ap (λ (l : List Entry). get_or l 59 d) shown
        ∙ get_or-take 60 t 59 d (omega arith)
        ∙ get_or-drop (60 * number) all 59 d in
        let following : suc (60 * number + 59) ≡ 60 * (number + 1) = omega arith in
        record {
          few = omega arith;
          before = s.before ++ pg ++ (12 ∷ 10 ∷ []);
          puts = then-puts (then-puts s.puts page) feed;
          whole =
              append_assoc (s.before ++ pg) (12 ∷ 10 ∷ []) later
              ∙ append_assoc s.before pg (12 ∷ 10 ∷ later)
              ∙ ap (λ (l : List ℕ). s.before ++ l) (sym now)
              ∙ s.whole;
          rest =
              page-from from' es
              ∙ ap (λ (n : ℕ). drop_below n all) (ef ∙ ap (λ (q : Entry). q.period + 1) last)
              ∙ behind all (60 * number + 59) d (on-page-rises es) (omega arith)
              ∙ ap (λ (n : ℕ). drop n all) following;
        }

-- ---- how long the pages are

-- an entry takes at most one line
placed-most : (e : Entry) (l : List Entry) → length (placed e l) ≤ suc (length l)
unfolding placed
placed-most e [] = omega arith
placed-most e (q ∷ qs) = by (order e.period q.period) (placed-most e qs)
  where
    by : Order e.period q.period → length (placed e qs) ≤ suc (length qs) → length (placed e (q ∷ qs)) ≤ suc (suc (length qs))
    by (lower m) more = rw (placed-lower e q qs m) (omega arith)
    by (equal m) more = rw (placed-equal e q qs m) (omega arith)
    by (higher m) more = rw (placed-higher e q qs m) (omega arith)

-- there are no more lines than entries
on-page-most : (es : List Entry) → length (on_page es) ≤ length es
unfolding on_page
on-page-most [] = omega arith
on-page-most (e ∷ es) = omega (arith, placed-most e (on_page es), on-page-most es)

-- a page has at most 60 lines
first-page : (p : ℕ) (es : List Entry) → p ≤ 4 → length (page_bytes p (take 60 es)) ≤ 4380
first-page p es h = omega (arith, page-length p (take 60 es) h, take-few es 60 (omega arith))

-- pages that have room for all entries have no form feed behind the last
paged-length : (p k : ℕ) (es : List Entry) → p ≤ 4 → length es ≤ 60 * suc k → length (paged p (suc k) es) ≤ 4382 * k + 4380
paged-length p zero es h room =
    let few : length es ≤ 60 = omega arith in
    omega (arith, ap length (paged-last p 0 es few), first-page p es h)
paged-length p (suc j) es h room = by (dec_le (length es) 60) (paged-length p j (drop 60 es) h (omega (arith, length-drop 60 es)))
  where
    by : Dec (length es ≤ 60) → length (paged p (suc j) (drop 60 es)) ≤ 4382 * j + 4380 → length (paged p (suc (suc j)) es) ≤ 4382 * suc j + 4380
    by (yes l) rest = omega (arith, ap length (paged-last p (suc j) es l), first-page p es h)
    by (no l) rest =
        let many : 60 < length es = omega (arith, l) in
        omega
        (arith, ap length (paged-next p (suc j) es many), length-append (page_bytes p (take 60 es)) (12 ∷ 10 ∷ paged p (suc j) (drop 60 es)), first-page p es h)

-- 501 entries have room on nine pages
pub pages-room : (p : ℕ) (entries : List Entry) (count : ℕ) → p ≤ 4 → count ≤ 501 → length (paged p 9 (on_page (take count entries))) ≤ output_room
pages-room p entries count h few =
    let es : List Entry = take count entries in
    paged-length p 8 (on_page es) h (omega (arith, on-page-most es, taken-most count entries))
