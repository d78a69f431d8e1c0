-- Every event keeps the ties. Assumes nothing.
use mathlib.Core.Path.{◌≡◌, refl, sym, ap, ◌∙◌}
use mathlib.Core.Logic.{◌⊎◌, inl, inr, ◌≢◌}
use mathlib.Core.Bool.{Bool, true, false, not, ◌&&◌, ◌||◌}
use mathlib.Core.Option.{none}
use mathlib.Core.List.{List, ◌∷◌}
use Prim.Native.Nat.{ℕ, suc, ◌+◌, ◌≤◌, ◌<◌}
use native.Mathlib.Omega.{arith}
use lib.Dec.{T, eqb, ltb, eqb→eq, eqb_refl, ltb→lt, nltb→le, nleb→lt}
use Rattle.scram.specs.Quorum.{among}
use Rattle.scram.specs.Held.{Law, Group, Held, Kind, Message, Outcome}
use Rattle.scram.specs.Events.{bad_sender, bad_place, bad_base, idle, stale, unwanted, ignores, largest, last_period, last_view}
use Rattle.scram.specs.Events.{refusing, ignoring, doing, estimate_of, entered, ticked, leads, after_tick, tick, give_up, hear_estimate, receive, arrive}
use Rattle.scram.specs.Shown.{is_refused}
use Rattle.lists.proofs.Choice.{pick-ok}
use Rattle.lists.proofs.Booleans.{nor-left, nor-right, nand-right, not-not, is_true, is_false, eqb_no}
use Rattle.scram.proofs.Rows.{Begins, then, le-or-lt}
use Rattle.scram.proofs.Facts.{Facts, Opened, Consistent}
use Rattle.scram.proofs.Growth.{or_map, grown-accepted, grown-estimated, chosen-kept}
use Rattle.scram.proofs.Ties.{Ties, Tied, Tells, Keeps, keeps_then, keeps-quiet}
use Rattle.scram.proofs.Periods.{after-taken}
use Rattle.scram.proofs.Moves.{tick-ties, propose-keeps, raise-keeps, adopt-keeps, ack-keeps, estimate-keeps}
use Rattle.scram.proofs.Moves.{entering, entering-consistent, entered-ties, entered-hears}

-- ---- what the tests tell

not-idle : (period : ℕ) (decided : Bool) → T (not (idle period decided)) → 1 ≤ period
not-idle period decided t = let h = eqb_no period 0 (nor-left (eqb period 0) decided t) in omega arith

-- the sender is another box
another : (N own sender : ℕ) → T (not (bad_sender N own sender)) → sender ≢ own
unfolding bad_sender
another N own sender t = eqb_no sender own (nor-right (ltb sender 1 || ltb N sender) (eqb sender own) t)

module _ {State Readings : Type 0} where
  -- a frame that is not ignored is of this period and of no lower view
  record Current (kind : Kind) (s : Held State Readings) (m : Message State Readings) : Type 0 where
    from1 : 1 ≤ s.period
    now : m.period ≡ s.period
    up : s.view ≤ m.view
    wanted : T (not (unwanted kind s.view s.view_change (among s.heard m.sender) m.view))

  current : (s : Held State Readings) (m : Message State Readings) → T (not (ignores s m)) → Current m.kind s m
  current s m t =
      let a = idle s.period s.decided in
      let b = stale s.period s.view m.period m.view in
      let c = unwanted m.kind s.view s.view_change (among s.heard m.sender) m.view in
      let ab = nor-left (a || b) c t in
      let nb = nor-right a b ab in
      let here = eqb m.period s.period in record {
        from1 = not-idle s.period s.decided (nor-left a b ab);
        now = eqb→eq m.period s.period (not-not here (nor-left (not here) (ltb m.view s.view) nb));
        up = nltb→le m.view s.view (nor-right (not here) (ltb m.view s.view) nb);
        wanted = nor-right (a || b) c t;
      }

module _ {State Readings Values : Type 0} (law : Law State Readings Values) (group : Group) (fed : ℕ → Readings → Type 0) where
  same : (f : Facts Readings) (i : ℕ) (s : Held State Readings) (number : ℕ) → Consistent f group fed → Tied law group fed f i s
      → Keeps law group fed f i (refusing s number)
  same f i s number ok t = keeps-quiet law group fed f i (refusing s number) refl refl ok t

  ignored : (f : Facts Readings) (i : ℕ) (s : Held State Readings) → Consistent f group fed → Tied law group fed f i s → Keeps law group fed f i (ignoring s)
  ignored f i s ok t = keeps-quiet law group fed f i (ignoring s) refl refl ok t

  -- ---- given-up views and ticks

  pub give_up-keeps : (f : Facts Readings) (i : ℕ) (s : Held State Readings) → Consistent f group fed → Tied law group fed f i s
      → Keeps law group fed f i (give_up law group i s)
  unfolding give_up
  give_up-keeps f i s ok t =
      pick-ok (Keeps law group fed f i) (idle s.period s.decided) _ _ (λ _. ignored f i s ok t)
      (λ u. pick-ok (Keeps law group fed f i) (not s.view_change && leads group i s.view) _ _ (λ _. ignored f i s ok t)
      (λ _. pick-ok (Keeps law group fed f i) (last_view s.view) _ _ (λ _. same f i s 12 ok t)
      (λ _. raise-keeps law group fed f i s t.rows ok t.ties (not-idle s.period s.decided u))))

  module _ (f : Facts Readings) (i : ℕ) (s : Held State Readings) (y : Readings) (h : fed (suc s.period) y)
      (ok : Consistent f group fed) (t : Tied law group fed f i s) where
    abbrev next : Held State Readings
    next = ticked law s y

    ties : Ties law group fed f i next (y ∷ t.rows)
    ties = tick-ties law group fed f i s t.rows y h t.ties

    -- the coordinator's proposals so far in this view are of earlier periods, and its rows go on from them
    earlier : group.coordinator s.view ≡ i → s.view_change ≡ false → (1 ≤ s.period) ⊎ (s.period < 1) → (j : ℕ) (m : List Readings)
        → f.proposed s.view j m → (j < s.period + 1) × Begins m (y ∷ t.rows)
    earlier co n (inl from1) j m p = go (t.ties.proposed s.view j m p co)
      where
        go : (s.view < s.view) ⊎ ((s.view ≡ s.view) × (j ≤ s.period) × (s.view_change ≡ false)) → (j < s.period + 1) × Begins m (y ∷ t.rows)
        go (inl q) = absurd (omega arith)
        go (inr q) = (omega arith, then y (ok.grows s.view j s.period m t.rows p (t.normal co from1 n).mine q.1))
    earlier co n (inr first) j m p = go (t.ties.proposed s.view j m p co)
      where
        go : (s.view < s.view) ⊎ ((s.view ≡ s.view) × (j ≤ s.period) × (s.view_change ≡ false)) → (j < s.period + 1) × Begins m (y ∷ t.rows)
        go (inl q) = absurd (omega arith)
        go (inr q) = let r = (ok.rows s.view j m p).1 in absurd (omega arith)

    -- and the view stays open for them
    still_open : group.coordinator s.view ≡ i → s.view_change ≡ false → (1 ≤ s.period) ⊎ (s.period < 1)
        → (s.view ≡ 0) ⊎ Opened f group s.view (s.period + 1) (y ∷ t.rows)
    still_open co n (inl from1) = or_map on (ok.opened s.view s.period t.rows (t.normal co from1 n).mine)
      where
        on : Opened f group s.view s.period t.rows → Opened f group s.view (s.period + 1) (y ∷ t.rows)
        on o = record {
          who = o.who;
          enough = o.enough;
          period = o.period;
          base_view = o.base_view;
          base_period = o.base_period;
          box = o.box;
          best = o.best;
          given = o.given;
          others = o.others;
          early = let e = o.early in omega arith;
          goes_on = then y o.goes_on;
        }
    still_open co n (inr first) = inl (t.ties.start (omega arith)).0

    after_tick-keeps : Keeps law group fed f i (after_tick law group i next)
    unfolding after_tick
    after_tick-keeps =
        pick-ok (Keeps law group fed f i) s.view_change _ _
        (λ _. raise-keeps law group fed f i next (y ∷ t.rows) ok ties (omega arith))
        (λ n. pick-ok (Keeps law group fed f i) (leads group i s.view) _ _
        (λ u. let co = sym (eqb→eq i (group.coordinator s.view) u) in
        propose-keeps law group fed f i next (y ∷ t.rows) (y ∷ t.rows) next.estimate ok ties co (omega arith) ties.rows ties.made
        (earlier co (is_false s.view_change n) (le-or-lt 1 s.period))
        (still_open co (is_false s.view_change n) (le-or-lt 1 s.period)))
        (λ u. keeps-quiet law group fed f i (doing next none none) refl refl ok (record {
          rows = y ∷ t.rows;
          ties = ties;
          normal = λ e _ _. absurd (eqb_no i (group.coordinator s.view) u (sym e));
          change = λ e _. absurd (eqb_no i (group.coordinator s.view) u (sym e));
        })))

  -- a tick that is not refused feeds its row, of a period not above the largest: "period already 4,294,967,295" is refused by 6
  record Feeds (f : Facts Readings) (i k : ℕ) (y : Readings) (o : Outcome State Readings Values) : Type 1 where
    keeps : (is_refused o.answer ≡ false → k ≤ largest → fed k y) → Keeps law group fed f i o

  pub tick-keeps : (f : Facts Readings) (i : ℕ) (s : Held State Readings) (beyond : Bool) (y : Readings) → Consistent f group fed
      → Tied law group fed f i s → (is_refused (tick law group i s beyond y).answer ≡ false → suc s.period ≤ largest → fed (suc s.period) y)
      → Keeps law group fed f i (tick law group i s beyond y)
  unfolding tick
  tick-keeps f i s beyond y ok t =
      (pick-ok (Feeds f i (suc s.period) y) (last_period s.period) _ _ (λ _. refuse 6)
      (λ a. pick-ok (Feeds f i (suc s.period) y) beyond _ _ (λ _. refuse 7)
      (λ _. pick-ok (Feeds f i (suc s.period) y) (s.view_change && last_view s.view) _ _ (λ _. refuse 12)
      (λ _. record {
        keeps = λ h. let below = nleb→lt largest s.period a in
            after_tick-keeps f i s y (h (after-taken law group i (ticked law s y)).done (omega arith)) ok t;
      })))).keeps
    where
      refuse : (number : ℕ) → Feeds f i (suc s.period) y (refusing s number)
      refuse number = record { keeps = λ _. same f i s number ok t }

  -- ---- arriving frames

  module _ (f : Facts Readings) (i : ℕ) (s : Held State Readings) (ok : Consistent f group fed) (t : Tied law group fed f i s) where
    -- a frame from its view's coordinator, and one at it
    elsewhere : (coordinator sender : ℕ) → sender ≢ i → T (not (not (eqb sender coordinator))) → coordinator ≢ i
    elsewhere coordinator sender d u e = d (eqb→eq sender coordinator (not-not (eqb sender coordinator) u) ∙ e)

    here : (coordinator : ℕ) → T (not (not (eqb i coordinator))) → coordinator ≡ i
    here coordinator u = sym (eqb→eq i coordinator (not-not (eqb i coordinator) u))

    -- an Ack that is wanted is of the own view, in normal mode
    ack-wanted : (m : Message State Readings) → Current Kind.Ack s m → (m.view ≡ s.view) × (s.view_change ≡ false)
    unfolding unwanted
    ack-wanted m c =
        let a = nor-left (ltb s.view m.view || s.view_change) (among s.heard m.sender) c.wanted in
        let h = nltb→le s.view m.view (nor-left (ltb s.view m.view) s.view_change a) in
        let up = c.up in
        (omega arith, is_false s.view_change (nor-right (ltb s.view m.view) s.view_change a))

    -- an Estimate that is wanted at the own view comes in view-change mode
    estimate-wanted : (m : Message State Readings) → Current Kind.Estimate s m → m.view ≡ s.view → s.view_change ≡ true
    unfolding unwanted
    estimate-wanted m c e =
        let a = nand-right (eqb m.view s.view) (not s.view_change || among s.heard m.sender) c.wanted (rw e (eqb_refl s.view)) in
        is_true s.view_change (not-not s.view_change (nor-left (not s.view_change) (among s.heard m.sender) a))

    receive-keeps : (kind : Kind) (m : Message State Readings) → m.sender ≢ i → T (not (bad_place kind (group.coordinator m.view) i m.sender))
        → Current kind s m → Tells law group fed f kind m → Keeps law group fed f i (receive law group i kind s m)
    unfolding receive bad_place
    receive-keeps Kind.Propose m d u c q =
        adopt-keeps law group fed f i s _ _ _ q.0 _ _ ok t (rw c.now at q.1) q.2 c.up
        (elsewhere (group.coordinator m.view) m.sender d u) c.from1 (q.0, inr (refl, refl, refl, refl)) tt
    receive-keeps Kind.Ack m d u c q =
        let (e, n) = ack-wanted m c in
        ack-keeps law group fed f i s m.sender q.0 ok t (ap group.coordinator (sym e) ∙ here (group.coordinator m.view) u) c.from1 n
        (rw (c.now, e) at q.1)
    receive-keeps Kind.Decide m d u c q =
        let p : f.proposed m.view s.period q.0 = rw c.now at q.1 in
        let kept = (grown-accepted {coordinator = group.coordinator} f i m.view s.period q.0).kept in
        let chosen = chosen-kept group kept m.view s.period q.0 (rw c.now at q.3) in
        adopt-keeps law group fed f i s _ _ _ q.0 _ _ ok t p q.2 c.up
        (elsewhere (group.coordinator m.view) m.sender d u) c.from1 tt (refl, (m.view, q.0, p, chosen, q.2))
    receive-keeps Kind.Estimate m d u c q =
        let co = here (group.coordinator m.view) u in
        pick-ok (Keeps law group fed f i) (ltb s.view m.view) _ _
        (λ z. let up = ltb→lt s.view m.view z in
        let g = entering law group fed f i s t.rows ok t.ties c.from1 m.view up in
        keeps_then law group fed i (hear_estimate law group i (entered i s m.view) (estimate_of m))
        (grown-estimated f i m.view s.period s.base_view s.base_period t.rows)
        (estimate-keeps law group fed g i (entered i s m.view) t.rows (estimate_of m) q.0
        (entering-consistent law group fed f i s t.rows ok t.ties c.from1 m.view up)
        (entered-ties law group fed f i s t.rows ok t.ties c.from1 m.view up) co c.from1 refl
        (entered-hears law group fed f i s t.rows ok t.ties c.from1 m.view up) refl (inl (rw c.now at q.1)) q.2))
        (λ z. let low = nltb→le s.view m.view z in
        let up = c.up in
        let e : m.view ≡ s.view = omega arith in
        let co' : group.coordinator s.view ≡ i = ap group.coordinator (sym e) ∙ co in
        let n = estimate-wanted m c e in
        estimate-keeps law group fed f i s t.rows (estimate_of m) q.0 ok t.ties co' c.from1 n (t.change co' n) refl
        (rw (c.now, e) at q.1) q.2)

    pub arrive-keeps : (m : Message State Readings) → Tells law group fed f m.kind m → Keeps law group fed f i (arrive law group i s m)
    unfolding arrive
    arrive-keeps m q =
        pick-ok (Keeps law group fed f i) (bad_sender group.size i m.sender) _ _ (λ _. same f i s 9 ok t)
        (λ a. pick-ok (Keeps law group fed f i) (bad_place m.kind (group.coordinator m.view) i m.sender) _ _ (λ _. same f i s 10 ok t)
        (λ b. pick-ok (Keeps law group fed f i) (bad_base m.kind m.period m.view m.base_view m.base_period) _ _ (λ _. same f i s 11 ok t)
        (λ _. pick-ok (Keeps law group fed f i) (ignores s m) _ _ (λ _. ignored f i s ok t)
        (λ c. receive-keeps m.kind m (another group.size i m.sender a) b (current s m c) q))))
