-- The moves that events are made of keep the ties: the next period, proposing, entering a higher view, adopting, hearing an Ack or an
-- Estimate. Assumes nothing.
use mathlib.Core.Path.{◌≡◌, refl, sym, ap, ◌∙◌}
use mathlib.Core.Logic.{◌⊎◌, inl, inr, ◌≢◌}
use mathlib.Core.Bool.{Bool, true, false, not, ◌&&◌, ◌||◌, true≢false, false≢true}
use mathlib.Core.Option.{Option, none, some}
use mathlib.Core.List.{List, [], ◌∷◌}
use Prim.Native.Nat.{ℕ, suc, ◌+◌, ◌≤◌, ◌<◌}
use native.Mathlib.Omega.{arith}
use lib.ListN.{length}
use lib.Dec.{T, eqb, ltb, eqb→eq, leb→le, ltb→lt, nltb→le, eqb_refl}
use Rattle.scram.specs.Quorum.{beats, among, with}
use Rattle.scram.specs.Held.{Law, Group, Estimate, Best, Held, Message, Command}
use Rattle.scram.specs.Events.{doing, better, entered, hearing, next_state, ticked, following, adopting, estimating, propose, raise, hear_ack, hear_estimate}
use Rattle.lists.proofs.Choice.{pick-ok}
use Rattle.lists.proofs.Booleans.{and_left, and_right, or_cases, nor-left, nor-right, nand-right, eqb_no}
use Rattle.scram.proofs.Boxes.{heard-before, only-heard}
use Rattle.scram.proofs.Rows.{Begins, all, then, begins-same, le-or-lt, lt-or-eq, AtMost, at-most-refl, at-most-trans, at-most-up}
use Rattle.scram.proofs.Facts.{Facts, RowsTo, Based, Gave, Opened, Chosen, Consistent}
use Rattle.scram.proofs.Growth.{or_map, with_proposed, with_accepted, with_estimated, consistent-proposed, consistent-accepted, consistent-estimated}
use Rattle.scram.proofs.Growth.{grown-refl, grown-trans, grown-proposed, grown-accepted, grown-estimated}
use Rattle.scram.proofs.Ties.{run, Made, made-run, Ties, Leads, Hears, Tied, SentTells, IssuedTells, Keeps, keeps-quiet}

-- ---- which of two estimates is the better

beats-yes : (w j o v k i : ℕ) → T (beats w j o v k i) → AtMost v k w j
unfolding beats
beats-yes w j o v k i t = go (or_cases (ltb v w) (eqb v w && (ltb k j || (eqb k j && ltb o i))) t)
  where
    low : v ≡ w → T (ltb k j) ⊎ T (eqb k j && ltb o i) → AtMost v k w j
    low e (inl h) = let q = ltb→lt k j h in inr (e, omega arith)
    low e (inr h) = let q = eqb→eq k j (and_left (eqb k j) (ltb o i) h) in inr (e, omega arith)

    go : T (ltb v w) ⊎ T (eqb v w && (ltb k j || (eqb k j && ltb o i))) → AtMost v k w j
    go (inl h) = inl (ltb→lt v w h)
    go (inr h) =
        low (eqb→eq v w (and_left (eqb v w) (ltb k j || (eqb k j && ltb o i)) h))
        (or_cases (ltb k j) (eqb k j && ltb o i) (and_right (eqb v w) (ltb k j || (eqb k j && ltb o i)) h))

beats-no : (w j o v k i : ℕ) → T (not (beats w j o v k i)) → AtMost w j v k
unfolding beats
beats-no w j o v k i t = go (lt-or-eq w v)
  where
    go : (w < v) ⊎ ((w ≡ v) ⊎ (v < w)) → AtMost w j v k
    go (inl h) = inl h
    go (inr (inl h)) =
        let q : T (eqb v w) = rw h (eqb_refl v) in
        let r = nand-right (eqb v w) (ltb k j || (eqb k j && ltb o i)) (nor-right (ltb v w) (eqb v w && (ltb k j || (eqb k j && ltb o i))) t) q in
        inr (h, nltb→le k j (nor-left (ltb k j) (eqb k j && ltb o i) r))
    go (inr (inr h)) = let q = nltb→le v w (nor-left (ltb v w) (eqb v w && (ltb k j || (eqb k j && ltb o i))) t) in absurd (omega arith)

or_right : (a b : Bool) → a ≡ true → T (not a || b) → T b
or_right true b e t = t
or_right false b e t = absurd (false≢true e)

module _ {State Readings : Type 0} where
  -- what holds of both estimates, where the one is at most the other, holds of the better
  better-ok {ℓ} : (P : Best State Readings → Type ℓ) (b c : Best State Readings) → b.any ≡ true
      → (AtMost b.base_view b.base_period c.base_view c.base_period → P c)
      → (AtMost c.base_view c.base_period b.base_view b.base_period → P b) → P (better b c)
  unfolding better
  better-ok P b c e f g =
      pick-ok P (not b.any || beats c.base_view c.base_period c.box b.base_view b.base_period b.box) c b
      (λ t. f (beats-yes c.base_view c.base_period c.box b.base_view b.base_period b.box (or_right b.any _ e t)))
      (λ t. g (beats-no c.base_view c.base_period c.box b.base_view b.base_period b.box (nor-right (not b.any) _ t)))

module _ {State Readings Values : Type 0} (law : Law State Readings Values) (group : Group) (fed : ℕ → Readings → Type 0) where
  -- ---- the next period

  run_none : law.start ≡ run law []
  unfolding run
  run_none = refl

  -- the state that a period starts from is the run of the rows so far
  next-state : (s : Held State Readings) (l : List Readings) → length l ≡ s.period → Made law l s.estimate
      → next_state law s ≡ run law l
  next-state s l e m = pick-ok (λ x. x ≡ run law l) _ _ _ (λ t. first l (e ∙ eqb→eq _ _ t) m) (λ t. later l (λ z. eqb_no _ _ t (sym e ∙ z)) m)
    where
      first : (l : List Readings) → length l ≡ 0 → Made law l s.estimate → s.estimate.state ≡ run law l
      first [] z m = m ∙ run_none
      first (y ∷ l) z m = absurd (omega arith)

      later : (l : List Readings) → length l ≢ 0 → Made law l s.estimate → law.update s.estimate.state s.estimate.readings ≡ run law l
      later [] z m = absurd (z refl)
      later (y ∷ l) z m = made-run law y l s.estimate m

  based-then : (f : Facts Readings) (v k : ℕ) (l : List Readings) (y : Readings) → Based f v k l → Based f v k (y ∷ l)
  based-then f v k l y (inl z) = inl z
  based-then f v k l y (inr (m, p, s)) = inr (m, p, then y s)

  pub tick-ties : (f : Facts Readings) (i : ℕ) (s : Held State Readings) (l : List Readings) (y : Readings) → fed (suc s.period) y
      → Ties law group fed f i s l → Ties law group fed f i (ticked law s y) (y ∷ l)
  tick-ties f i s l y h c = record {
    rows = (let e = c.rows.0 in omega arith, (rw c.rows.0 h, c.rows.1));
    made = (next-state s l c.rows.0 c.made, refl);
    accepted = λ v k m p. let q = c.accepted v k m p in (omega arith, q.1);
    estimated = c.estimated;
    based = based-then f s.base_view s.base_period l y c.based;
    base_below = c.base_below;
    proposed = λ v k m p q. or_map (λ r. (r.0, omega arith, r.2)) (c.proposed v k m p q);
    start = λ e. absurd (omega arith);
  }

  -- ---- proposing

  pub propose-keeps : (f : Facts Readings) (i : ℕ) (s : Held State Readings) (l₀ l : List Readings) (e : Estimate State Readings)
      → Consistent f group fed → Ties law group fed f i s l₀ → group.coordinator s.view ≡ i → 1 ≤ s.period
      → RowsTo fed s.period l → Made law l e → ((j : ℕ) (m : List Readings) → f.proposed s.view j m → (j < s.period) × Begins m l)
      → (s.view ≡ 0) ⊎ Opened f group s.view s.period l → Keeps law group fed f i (propose law group i s e)
  propose-keeps f i s l₀ l e ok c co from1 to mk old way = record {
    facts = h;
    grown = grown-trans (grown-proposed f s.view s.period l co) (grown-accepted g i s.view s.period l);
    consistent = consistent-accepted group fed ok' i s.view s.period l (inr (refl, refl, refl)) c.estimated;
    tied = record {
      rows = l;
      ties = record {
        rows = to;
        made = mk;
        accepted = accepted;
        estimated = c.estimated;
        based = inr (l, inr (refl, refl, refl), all);
        base_below = omega arith;
        proposed = proposed;
        start = λ z. absurd (omega arith);
      };
      normal = λ _ _ _. record { mine = inr (refl, refl, refl); acks = λ j t. inr (only-heard i j t, refl, refl, refl) };
      change = λ _ z. absurd (false≢true z);
    };
    sent = (l, inr (refl, refl, refl), mk);
    issued = tt;
  }
    where
      g : Facts Readings
      g = with_proposed f s.view s.period l

      h : Facts Readings
      h = with_accepted g i s.view s.period l

      ok' : Consistent g group fed
      ok' = consistent-proposed group fed ok s.view s.period l to from1 old way

      accepted : (v k : ℕ) (m : List Readings) → f.accepted i v k m ⊎ ((i ≡ i) × (v ≡ s.view) × (k ≡ s.period) × (m ≡ l))
          → (k ≤ s.period) × AtMost v k s.view s.period
      accepted v k m (inl p) = let q = c.accepted v k m p in (q.0, at-most-up s.view s.period q.1 c.base_below q.0)
      accepted v k m (inr p) = (omega arith, inr (p.1, omega arith))

      proposed : (v k : ℕ) (m : List Readings) → f.proposed v k m ⊎ ((v ≡ s.view) × (k ≡ s.period) × (m ≡ l)) → group.coordinator v ≡ i
          → (v < s.view) ⊎ ((v ≡ s.view) × (k ≤ s.period) × (false ≡ false))
      proposed v k m (inl p) q = or_map (λ r. (r.0, r.1, refl)) (c.proposed v k m p q)
      proposed v k m (inr p) q = inr (p.0, omega arith, refl)

  -- ---- entering a higher view

  -- a replica with another view and mode
  abbrev moved : Held State Readings → ℕ → Bool → List Bool → Best State Readings → Held State Readings
  moved s view view_change heard best = record {
    period = s.period;
    view = view;
    base_view = s.base_view;
    view_change = view_change;
    decided = s.decided;
    estimate = s.estimate;
    base_period = s.base_period;
    heard = heard;
    best = best;
  }

  module _ (f : Facts Readings) (i : ℕ) (s : Held State Readings) (l : List Readings) (ok : Consistent f group fed)
      (c : Ties law group fed f i s l) (from1 : 1 ≤ s.period) (w : ℕ) (up : s.view < w) where
    -- the box's estimate of the view that it enters
    abbrev pub entering : Facts Readings
    entering = with_estimated f i w s.period s.base_view s.base_period l

    pub entering-consistent : Consistent entering group fed
    entering-consistent =
        consistent-estimated group fed ok i w s.period s.base_view s.base_period l c.rows c.based (let h = c.base_below in omega arith)
        c.accepted

    moved-ties : (view_change : Bool) (heard : List Bool) (best : Best State Readings) → Ties law group fed entering i (moved s w view_change heard best) l
    moved-ties view_change heard best = record {
      rows = c.rows;
      made = c.made;
      accepted = c.accepted;
      estimated = estimated;
      based = c.based;
      base_below = let q = c.base_below in omega arith;
      proposed = λ v k m p q. inl (below v k (c.proposed v k m p q));
      start = λ e. absurd (omega arith);
    }
      where
        estimated : (v k a b : ℕ) (m : List Readings)
            → f.estimated i v k a b m ⊎ ((i ≡ i) × (v ≡ w) × (k ≡ s.period) × (a ≡ s.base_view) × (b ≡ s.base_period) × (m ≡ l)) → v ≤ w
        estimated v k a b m (inl p) = let q = c.estimated v k a b m p in omega arith
        estimated v k a b m (inr p) = omega arith

        below : (v k : ℕ) → (v < s.view) ⊎ ((v ≡ s.view) × (k ≤ s.period) × (s.view_change ≡ false)) → v < w
        below v k (inl p) = omega arith
        below v k (inr p) = omega arith

    pub entered-ties : Ties law group fed entering i (entered i s w) l
    entered-ties = moved-ties true _ _

    pub entered-hears : Hears law group fed entering (entered i s w)
    entered-hears = record {
      any = refl;
      rows = l;
      given = inr (refl, refl, refl, refl, refl, refl);
      made = c.made;
      others = λ j t. (s.base_view, s.base_period, l, inr (only-heard i j t, refl, refl, refl, refl, refl), at-most-refl s.base_view s.base_period);
    }

    enter-keeps : Keeps law group fed f i (doing (entered i s w) none none)
    enter-keeps = record {
      facts = entering;
      grown = grown-estimated f i w s.period s.base_view s.base_period l;
      consistent = entering-consistent;
      tied = record { rows = l; ties = entered-ties; normal = λ _ _ e. absurd (true≢false e); change = λ _ _. entered-hears };
      sent = tt;
      issued = tt;
    }

    follow-keeps : group.coordinator w ≢ i → Keeps law group fed f i (doing (following law s w) (some (estimating i s w)) none)
    follow-keeps d = record {
      facts = entering;
      grown = grown-estimated f i w s.period s.base_view s.base_period l;
      consistent = entering-consistent;
      tied = record { rows = l; ties = moved-ties false _ _; normal = λ e _ _. absurd (d e); change = λ e _. absurd (d e) };
      sent = (l, inr (refl, refl, refl, refl, refl, refl), c.made);
      issued = tt;
    }

  pub raise-keeps : (f : Facts Readings) (i : ℕ) (s : Held State Readings) (l : List Readings) → Consistent f group fed
      → Ties law group fed f i s l → 1 ≤ s.period → Keeps law group fed f i (raise law group i s)
  unfolding raise
  raise-keeps f i s l ok c from1 =
      pick-ok (Keeps law group fed f i) _ _ _
      (λ t. enter-keeps f i s l ok c from1 (s.view + 1) (omega arith))
      (λ t. follow-keeps f i s l ok c from1 (s.view + 1) (omega arith) (λ e. eqb_no i (group.coordinator (s.view + 1)) t (sym e)))

  -- ---- adopting

  adopt-tied : (f : Facts Readings) (i : ℕ) (s : Held State Readings) (w : ℕ) (e : Estimate State Readings) (d : Bool) (m : List Readings)
      → Consistent f group fed → Tied law group fed f i s → f.proposed w s.period m → Made law m e → s.view ≤ w → group.coordinator w ≢ i
      → 1 ≤ s.period → Tied law group fed (with_accepted f i w s.period m) i (adopting law s w e d)
  adopt-tied f i s w e d m ok t p mk up co from1 = record {
    rows = m;
    ties = record {
      rows = (ok.rows w s.period m p).0;
      made = mk;
      accepted = accepted;
      estimated = λ v k a b m' q. let r = c.estimated v k a b m' q in omega arith;
      based = inr (m, p, all);
      base_below = omega arith;
      proposed = λ v k m' q z. inl (below v k (c.proposed v k m' q z) z);
      start = λ z. absurd (omega arith);
    };
    normal = λ z _ _. absurd (co z);
    change = λ z _. absurd (co z);
  }
    where
      c : Ties law group fed f i s t.rows
      c = t.ties

      accepted : (v k : ℕ) (m' : List Readings) → f.accepted i v k m' ⊎ ((i ≡ i) × (v ≡ w) × (k ≡ s.period) × (m' ≡ m))
          → (k ≤ s.period) × AtMost v k w s.period
      accepted v k m' (inl q) = let r = c.accepted v k m' q in (r.0, at-most-up w s.period r.1 (let z = c.base_below in omega arith) r.0)
      accepted v k m' (inr q) = (omega arith, inr (q.1, omega arith))

      below : (v k : ℕ) → (v < s.view) ⊎ ((v ≡ s.view) × (k ≤ s.period) × (s.view_change ≡ false)) → group.coordinator v ≡ i → v < w
      below v k (inl q) e = omega arith
      below v k (inr q) e = go (le-or-lt w v)
        where
          go : (w ≤ v) ⊎ (v < w) → v < w
          go (inr h) = h
          go (inl h) = absurd (co (ap group.coordinator (let z : w ≡ v = omega arith in z) ∙ e))

  pub adopt-keeps : (f : Facts Readings) (i : ℕ) (s : Held State Readings) (w : ℕ) (e : Estimate State Readings) (d : Bool) (m : List Readings)
      (sent : Option (Message State Readings)) (command : Option (Command Values)) → Consistent f group fed → Tied law group fed f i s
      → f.proposed w s.period m → Made law m e → s.view ≤ w → group.coordinator w ≢ i → 1 ≤ s.period
      → SentTells law group fed (with_accepted f i w s.period m) sent
      → IssuedTells law group fed (with_accepted f i w s.period m) (adopting law s w e d) command
      → Keeps law group fed f i (doing (adopting law s w e d) sent command)
  adopt-keeps f i s w e d m sent command ok t p mk up co from1 told issue = record {
    facts = with_accepted f i w s.period m;
    grown = grown-accepted f i w s.period m;
    consistent = consistent-accepted group fed ok i w s.period m p (λ v k a b m' q. let r = t.ties.estimated v k a b m' q in omega arith);
    tied = adopt-tied f i s w e d m ok t p mk up co from1;
    sent = told;
    issued = issue;
  }

  -- ---- hearing an Ack

  -- in one view and period one list of rows is proposed
  same-proposed : (f : Facts Readings) → Consistent f group fed → (v k : ℕ) (l m : List Readings) → f.proposed v k l → f.proposed v k m → l ≡ m
  same-proposed f ok v k l m p q =
      begins-same (ok.grows v k k l m p q (omega arith)) (let h = (ok.rows v k l p).0.0 in let h' = (ok.rows v k m q).0.0 in omega arith)

  pub ack-keeps : (f : Facts Readings) (i : ℕ) (s : Held State Readings) (j : ℕ) (m : List Readings) → Consistent f group fed
      → Tied law group fed f i s → group.coordinator s.view ≡ i → 1 ≤ s.period → s.view_change ≡ false
      → f.accepted j s.view s.period m → Keeps law group fed f i (hear_ack law group i s j)
  unfolding hear_ack
  ack-keeps f i s j m ok t co from1 n a =
      pick-ok (Keeps law group fed f i) _ _ _
      (λ u. let ch : Chosen f group s.view s.period t.rows = (among (with s.heard j), leb→le _ _ u, acks) in record {
        facts = f;
        grown = grown-refl f;
        consistent = ok;
        tied = tied true;
        sent = (t.rows, lead.mine, t.ties.made, ch);
        issued = (refl, (s.view, t.rows, lead.mine, ch, t.ties.made));
      })
      (λ u. keeps-quiet law group fed f i (doing (hearing s j s.best s.decided) none none) refl refl ok (tied s.decided))
    where
      lead : Leads law group fed f s t.rows
      lead = t.normal co from1 n

      acks : (j' : ℕ) → T (among (with s.heard j) j') → f.accepted j' s.view s.period t.rows
      acks j' u = go (heard-before s.heard j j' u)
        where
          go : (j' ≡ j) ⊎ T (among s.heard j') → f.accepted j' s.view s.period t.rows
          go (inl h) = rw (h, same-proposed f ok s.view s.period t.rows m lead.mine (ok.offered j s.view s.period m a)) a
          go (inr h) = lead.acks j' h

      tied : (d : Bool) → Tied law group fed f i (hearing s j s.best d)
      tied d = record {
        rows = t.rows;
        ties = record {
          rows = t.ties.rows;
          made = t.ties.made;
          accepted = t.ties.accepted;
          estimated = t.ties.estimated;
          based = t.ties.based;
          base_below = t.ties.base_below;
          proposed = t.ties.proposed;
          start = t.ties.start;
        };
        normal = λ _ _ _. record { mine = lead.mine; acks = acks };
        change = λ _ e. absurd (true≢false (sym e ∙ n));
      }

  -- ---- hearing an Estimate

  -- b is an estimate that some box gave for view v in period k
  Given : Facts Readings → ℕ → ℕ → Best State Readings → Type 0
  Given f v k b = (l : List Readings) × f.estimated b.box v k b.base_view b.base_period l × Made law l b.estimate

  hears-more : (f : Facts Readings) (s : Held State Readings) (b : Best State Readings) (m : List Readings) (d : Bool) → Hears law group fed f s
      → b.any ≡ true → f.estimated b.box s.view s.period b.base_view b.base_period m → Made law m b.estimate
      → Hears law group fed f (hearing s b.box (better s.best b) d)
  unfolding Given
  hears-more f s b m d old any e mk = record {
    any = better-ok (λ r. r.any ≡ true) s.best b old.any (λ _. any) (λ _. old.any);
    rows = given.0;
    given = given.1;
    made = given.2;
    others = others;
  }
    where
      given : Given f s.view s.period (better s.best b)
      given = better-ok (Given f s.view s.period) s.best b old.any (λ _. (m, e, mk)) (λ _. (old.rows, old.given, old.made))

      Above : Best State Readings → Type 0
      Above r =
          AtMost s.best.base_view s.best.base_period r.base_view r.base_period
          × AtMost b.base_view b.base_period r.base_view r.base_period

      above : Above (better s.best b)
      above =
          better-ok Above s.best b old.any
          (λ x. (x, at-most-refl b.base_view b.base_period))
          (λ x. (at-most-refl s.best.base_view s.best.base_period, x))

      others : (j : ℕ) → T (among (with s.heard b.box) j)
          → Gave f j s.view s.period (better s.best b).base_view (better s.best b).base_period
      others j t = go (heard-before s.heard b.box j t)
        where
          go : (j ≡ b.box) ⊎ T (among s.heard j) → Gave f j s.view s.period (better s.best b).base_view (better s.best b).base_period
          go (inl h) = (b.base_view, b.base_period, m, rw h e, above.1)
          go (inr h) = let (x, y, m', e', le) = old.others j h in (x, y, m', e', at-most-trans le above.0)

  pub estimate-keeps : (f : Facts Readings) (i : ℕ) (s : Held State Readings) (l : List Readings) (b : Best State Readings) (m : List Readings)
      → Consistent f group fed → Ties law group fed f i s l → group.coordinator s.view ≡ i → 1 ≤ s.period → s.view_change ≡ true
      → Hears law group fed f s → b.any ≡ true → f.estimated b.box s.view s.period b.base_view b.base_period m
      → Made law m b.estimate → Keeps law group fed f i (hear_estimate law group i s b)
  unfolding hear_estimate
  estimate-keeps f i s l b m ok c co from1 n old any e mk =
      pick-ok (Keeps law group fed f i) _ _ _
      (λ t. propose-keeps f i s l u.rows (better s.best b).estimate ok c co from1
      (ok.based (better s.best b).box s.view s.period (better s.best b).base_view (better s.best b).base_period u.rows u.given).0
      u.made
      (λ j m' p. absurd (none_yet j (c.proposed s.view j m' p co)))
      (inr (record {
        who = among (with s.heard b.box);
        enough = leb→le _ _ t;
        period = s.period;
        base_view = (better s.best b).base_view;
        base_period = (better s.best b).base_period;
        box = (better s.best b).box;
        best = u.rows;
        given = u.given;
        others = u.others;
        early = omega arith;
        goes_on = all;
      })))
      (λ t. keeps-quiet law group fed f i (doing (hearing s b.box (better s.best b) s.decided) none none) refl refl ok (record {
        rows = l;
        ties = record {
          rows = c.rows;
          made = c.made;
          accepted = c.accepted;
          estimated = c.estimated;
          based = c.based;
          base_below = c.base_below;
          proposed = c.proposed;
          start = c.start;
        };
        normal = λ _ _ z. absurd (true≢false (sym n ∙ z));
        change = λ _ _. u;
      }))
    where
      u : Hears law group fed f (hearing s b.box (better s.best b) s.decided)
      u = hears-more f s b m s.decided old any e mk

      none_yet : (k : ℕ) → (s.view < s.view) ⊎ ((s.view ≡ s.view) × (k ≤ s.period) × (s.view_change ≡ false)) → ⊥
      none_yet k (inl q) = omega arith
      none_yet k (inr q) = true≢false (sym n ∙ q.2)
