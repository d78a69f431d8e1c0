-- An ask that is never committed leaves all calls that follow as if it had not been, but for tickets. Assumes nothing.
use Prim.Native.Nat.{ℕ, ◌+◌, ◌≤◌, ◌<◌}
use native.Mathlib.Omega.{arith}
use mathlib.Core.Path.{◌≡◌, refl, sym, ap, ap₂, ◌∙◌, subst}
use mathlib.Core.Bool.{Bool, true, false, ◌&&◌}
use mathlib.Core.List.{List, [], ◌∷◌}
use lib.Dec.{eqb, leb}
use borrow.Author.Tests.{eq-eqb, ne_eqb, eqb-true, eqb-false, le-leb, lt-leb, leb-true, leb-false}
use Rattle.lists.specs.Choice.{pick}
use Rattle.lists.proofs.Booleans.{never, both, second-fails}
use Rattle.lists.proofs.Choice.{pick_true, pick-false, pick_same}
use Rattle.tickets.specs.Tickets.{Tickets, largest_ticket, is_spent, ticket_for, voided, after_ask, after_step, commits, after_commit}
use Rattle.tickets.specs.Calls.{Result, Call, Step, Ask, Commit, Return, Stepped, Asked, Committed, Box, after, given, all_given}
use Rattle.tickets.specs.Calls.{after_all, higher, called_higher, given_higher, asks_in, NeverCommitted}
use Rattle.tickets.proofs.Laws.{ticket-next, ask-next, another}

-- ---- tickets by one higher

kept : (n k : ℕ) → k ≤ n → higher n k ≡ k
kept n k h = pick_true (leb k n) k (k + 1) (le-leb k n h)

raised : (n k : ℕ) → n < k → higher n k ≡ k + 1
raised n k h = pick-false (leb k n) k (k + 1) (lt-leb k n h)

-- whatever holds of a number up to n and of one above it
either : {P : Type 0} (n k : ℕ) → (k ≤ n → P) → (n < k → P) → P
either {P} n k f g = by (leb k n) refl
  where
    by : (b : Bool) → leb k n ≡ b → P
    by true e = f (leb-true k n e)
    by false e = g (leb-false k n e)

-- no ticket becomes n + 1
never-next : (n k : ℕ) → higher n k ≡ n + 1 → ⊥
never-next n k e = either n k (λ h. let z = sym (kept n k h) ∙ e in omega arith) (λ h. let z = sym (raised n k h) ∙ e in omega arith)

-- the same two tickets are the same ones
eqb-next : (a b : ℕ) → eqb (a + 1) (b + 1) ≡ eqb a b
eqb-next a b = by (eqb a b) refl
  where
    by : (t : Bool) → eqb a b ≡ t → eqb (a + 1) (b + 1) ≡ t
    by true e = eq-eqb (a + 1) (b + 1) (ap (λ (k : ℕ). k + 1) (eqb-true a b e))
    by false e = ne_eqb (a + 1) (b + 1) (λ z. eqb-false a b e (omega arith))

module _ {Replica : Type 0} (n : ℕ) where
  -- ---- tickets without the ask, and with it

  -- t are the tickets without it and u those with it: no ask has come since, and the tickets without it are void
  pub record None (t u : Tickets Replica) : Type 0 where
    pub latest : t.latest ≡ n
    pub void : t.pending ≡ false
    pub next : u.latest ≡ n + 1

  -- or one has: both are alike, but for their numbers
  pub record Some (t u : Tickets Replica) : Type 0 where
    pub above : n < t.latest
    pub next : u.latest ≡ t.latest + 1
    pub pending : u.pending ≡ t.pending
    pub same : t.pending ≡ true → u.step ≡ t.step

  pub data Apart (t u : Tickets Replica) : Type 0 where
    none : None t u → Apart t u
    some : Some t u → Apart t u

  next_of : (t u : Tickets Replica) → Apart t u → u.latest ≡ t.latest + 1
  next_of t u (none a) = a.next ∙ ap (λ (k : ℕ). k + 1) (sym a.latest)
  next_of t u (some a) = a.next

  not-below : (t u : Tickets Replica) → Apart t u → n ≤ t.latest
  not-below t u (none a) = let z = a.latest in omega arith
  not-below t u (some a) = let z = a.above in omega arith

  -- ---- commits

  same-commit : (t u : Tickets Replica) (k : ℕ) → Apart t u → commits u (higher n k) ≡ commits t k
  unfolding commits
  same-commit t u k (none a) =
      another u (higher n k) (ne_eqb _ _ (λ e. never-next n k (e ∙ a.next))) ∙ sym (second-fails (eqb k t.latest) t.pending a.void)
  same-commit t u k (some a) = either n k low high
    where
      low : k ≤ n → (eqb (higher n k) u.latest && u.pending) ≡ (eqb k t.latest && t.pending)
      low h =
          let p = a.above in
          let q = a.next in
          ap (λ b. b && u.pending) (ne_eqb (higher n k) u.latest (λ e. let z = sym (kept n k h) ∙ e in omega arith))
          ∙ sym (ap (λ b. b && t.pending) (ne_eqb k t.latest (λ e. omega arith)))

      high : n < k → (eqb (higher n k) u.latest && u.pending) ≡ (eqb k t.latest && t.pending)
      high h =
          ap₂ ◌&&◌ (ap₂ eqb (raised n k h) a.next ∙ eqb-next k t.latest) a.pending

  -- the step of a commit that is made
  same_step : (t u : Tickets Replica) (k : ℕ) → Apart t u → commits t k ≡ true → u.step ≡ t.step
  unfolding commits
  same_step t u k (none a) e = let z = sym a.void ∙ (both (eqb k t.latest) t.pending e).1 in never z
  same_step t u k (some a) e = a.same (both (eqb k t.latest) t.pending e).1

  -- ---- tickets stay apart

  step-apart : (t u : Tickets Replica) (ok : Bool) → Apart t u → Apart (after_step t ok) (after_step u ok)
  unfolding after_step pick
  step-apart t u true (none a) = none (record { latest = a.latest; void = refl; next = a.next })
  step-apart t u true (some a) = some (record { above = a.above; next = a.next; pending = refl; same = λ e. never e })
  step-apart t u false a = a

  ask-apart : (t u : Tickets Replica) (ok : Bool) (s : Replica) → Apart t u → t.latest + 1 < largest_ticket → Apart (after_ask t ok s) (after_ask u ok s)
  ask-apart t u ok s a h =
      let e = next_of t u a in
      let l = not-below t u a in
      let f = ask-next t ok s (ne_eqb t.latest largest_ticket (λ z. omega arith)) in
      let g = ask-next u ok s (ne_eqb u.latest largest_ticket (λ z. omega arith)) in
      subst (λ (x : Tickets Replica). Apart x (after_ask u ok s)) (sym f)
      (subst (λ (x : Tickets Replica). Apart (record { latest = t.latest + 1; pending = ok; step = pick ok s t.step }) x) (sym g)
      (some (record {
        above = omega arith;
        next = ap (λ (k : ℕ). k + 1) e;
        pending = refl;
        same = λ p. pick_true ok s u.step p ∙ sym (pick_true ok s t.step p);
      })))

-- ---- one call after the other

module _ {Replica Event Output : Type 0} (step : Replica → Event → Result Replica Output) (ignored : Replica → Output) (n : ℕ) where
  abbrev at : Replica → Tickets Replica → Box Replica
  at r t = record { replica = r; tickets = t }

  unspent : (t : Tickets Replica) → t.latest < largest_ticket → is_spent t ≡ false
  unspent t h = ne_eqb t.latest largest_ticket (λ z. omega (arith, h, z))

  -- the ticket of an ask is by one higher
  same-ticket : (t u : Tickets Replica) → Apart n t u → t.latest < largest_ticket → u.latest < largest_ticket → ticket_for u ≡ higher n (ticket_for t)
  same-ticket t u a f g =
      let l = not-below n t u a in
      ticket-next u (unspent u g)
      ∙ ap (λ (k : ℕ). k + 1) (next_of n t u a)
      ∙ sym (ap (higher n) (ticket-next t (unspent t f)) ∙ raised n (t.latest + 1) (omega (arith, l)))

  -- the calls give the same and leave the same replica, from r with tickets u and from r' with tickets t
  abbrev Same : (r r' : Replica) (t u : Tickets Replica) → List (Call Replica Event) → Type 0
  Same r r' t u cs =
      (all_given step ignored (at r u) (called_higher n cs) ≡ given_higher n (all_given step ignored (at r' t) cs))
      × ((after_all step ignored (at r u) (called_higher n cs)).replica ≡ (after_all step ignored (at r' t) cs).replica)

  -- a step changes no number
  same-latest : (t : Tickets Replica) (ok : Bool) → (after_step t ok).latest ≡ t.latest
  unfolding after_step pick
  same-latest t true = refl
  same-latest t false = refl

  -- an ask makes the latest higher by one
  next-latest : (t : Tickets Replica) (ok : Bool) (s : Replica) → t.latest < largest_ticket → (after_ask t ok s).latest ≡ t.latest + 1
  next-latest t ok s h = ap (λ (x : Tickets Replica). x.latest) (ask-next t ok s (unspent t h))

  all_same : (cs : List (Call Replica Event)) (r : Replica) (t u : Tickets Replica) → Apart n t u → t.latest + asks_in cs < largest_ticket → Same r r t u cs
  unfolding all_given after_all called_higher given_higher asks_in given after after_commit
  all_same [] r t u a h = (refl, refl)
  all_same (Step e ∷ cs) r t u a h =
      let x = step r e in
      let l = same-latest t x.ok in
      let s = all_same cs x.replica (after_step t x.ok) (after_step u x.ok) (step-apart n t u x.ok a) (omega (arith, h, l)) in
      (ap (λ gs. Stepped x.output ∷ gs) s.0, s.1)
  all_same (Ask e ∷ cs) r t u a h =
      let x = step r e in
      let m : t.latest + (1 + asks_in cs) < largest_ticket = h in
      let f : t.latest < largest_ticket = omega (arith, m) in
      let g : u.latest < largest_ticket = let z = next_of n t u a in omega (arith, m, z) in
      let l = next-latest t x.ok x.replica f in
      let s = all_same cs r (after_ask t x.ok x.replica) (after_ask u x.ok x.replica) (ask-apart n t u x.ok x.replica a (omega (arith, m)))
      (omega (arith, m, l)) in
      let output = pick-false (is_spent u) (ignored r) x.output (unspent u g) ∙ sym (pick-false (is_spent t) (ignored r) x.output (unspent t f)) in
      (ap₂ ◌∷◌ (ap₂ Asked output (same-ticket t u a f g)) s.0, s.1)
  all_same (Commit k ∷ cs) r t u a h =
      let c = same-commit n t u k a in
      let made = commits t k in
      let here = pick made t.step r in
      let there = pick (commits u (higher n k)) u.step r in
      let l = same-latest t made in
      let v = ap (λ b. after_step u b) c in
      let moved : there ≡ here = ap (λ b. pick b u.step r) c ∙ pick_same made u.step t.step r (same_step n t u k a) in
      let s = all_same cs here (after_step t made) (after_step u made) (step-apart n t u made a) (omega (arith, h, l)) in
      let w : Same there here (after_step t made) (after_step u (commits u (higher n k))) cs =
      subst (λ (y : Replica). Same y here (after_step t made) (after_step u (commits u (higher n k))) cs) (sym moved)
      (subst (λ (y : Tickets Replica). Same here here (after_step t made) y cs) (sym v) s) in
      (ap₂ ◌∷◌ (ap Committed c) w.0, w.1)
  all_same (Return x ∷ cs) r t u a h = (refl, refl)

-- the tickets right after the ask, and without it
apart-at-first : {Replica : Type 0} (t : Tickets Replica) (ok : Bool) (s : Replica) → t.latest < largest_ticket → Apart t.latest (voided t) (after_ask t ok s)
apart-at-first t ok s h =
    let next = ask-next t ok s (ne_eqb t.latest largest_ticket (λ z. omega (arith, h, z))) in
    none (record { latest = refl; void = refl; next = ap (λ x. x.latest) next })

pub never-committed : NeverCommitted
unfolding after
never-committed Replica Event Output step ignored b e cs h =
    let x = step b.replica e in
    all_same step ignored b.tickets.latest cs b.replica (voided b.tickets) (after_ask b.tickets x.ok x.replica)
    (apart-at-first b.tickets x.ok x.replica (omega (arith, h))) h
