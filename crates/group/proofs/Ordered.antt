-- What refusal 15 asks of a record beyond the types stays true in every step: the boxes heard are boxes of the group, no base is above its counter, and
-- the best estimate heard is of a box of the group, or there is none. Over any law. Assumes nothing.
use mathlib.Core.Path.{◌≡◌, refl, sym, subst, ◌∙◌}
use mathlib.Core.Logic.{◌⊎◌, inl, inr}
use mathlib.Core.Bool.{Bool, true, false, not, ◌&&◌, ◌||◌}
use mathlib.Core.List.{List}
use Prim.Native.Nat.{ℕ, ◌+◌, ◌≤◌}
use native.Mathlib.Omega.{arith}
use lib.Dec.{T, eqb, leb, ltb, eqb→eq, leb→le, ltb→lt, nltb→le}
use lib.ListN.{length, length-set}
use Rattle.lists.proofs.Booleans.{and_left, and_right, nor-left, nor-right, not-not, is_true, never}
use Rattle.lists.proofs.Choice.{pick-ok}
use Rattle.lists.proofs.Places.{blank-at}
use Rattle.scram.specs.Quorum.{nobody, among, with}
use Rattle.scram.specs.declared.Kind.{Kind}
use Rattle.scram.specs.Held.{Law, Group, Estimate, Best, Held, Message, Outcome, no_best, fresh}
use Rattle.scram.specs.Events.{bad_sender, bad_base, idle, stale, unwanted, better, estimate_of, entered, hearing, ticked, following, adopting, proposing}
use Rattle.scram.specs.Events.{raise, after_tick, tick, give_up, hear_ack, hear_estimate, receive, arrive}
use Rattle.scram.proofs.Boxes.{heard-before}

-- ---- boxes heard

-- a box of the group: "boxes are numbered 1 to N"
abbrev pub InGroup : ℕ → ℕ → Type 0
InGroup N j = (1 ≤ j) × (j ≤ N)

-- the boxes heard: ten places, and none but boxes of the group
pub record HeardBoxes (N : ℕ) (heard : List Bool) : Type 0 where
  pub ten : length heard ≡ 10
  pub boxes : (j : ℕ) → among heard j ≡ true → (1 ≤ j) × (j ≤ N)

module _ (N : ℕ) where
  nobody-heard : HeardBoxes N nobody
  nobody-heard = record { ten = refl; boxes = λ j e. never (sym (blank-at false 10 j) ∙ e) }

  with-heard : (heard : List Bool) (i : ℕ) → HeardBoxes N heard → InGroup N i → HeardBoxes N (with heard i)
  with-heard heard i o g = record { ten = length-set heard i true ∙ o.ten; boxes = λ j e. by j (heard-before heard i j (rw e tt)) }
    where
      by : (j : ℕ) → (j ≡ i) ⊎ T (among heard j) → InGroup N j
      by j (inl e) = subst (InGroup N) (sym e) g
      by j (inr t) = o.boxes j (is_true (among heard j) t)

-- ---- bases

-- in period k and view v: no base above its counter
pub record BasesWithin (k v vb kb : ℕ) : Type 0 where
  pub view : vb ≤ v
  pub period : kb ≤ k

-- ---- what is held

module _ {State Readings Values : Type 0} (law : Law State Readings Values) (N : ℕ) where
  -- in period k and view v: the estimate of a box of the group
  pub record OfBox (k v : ℕ) (b : Best State Readings) : Type 0 where
    pub any : b.any ≡ true
    pub box : InGroup N b.box
    pub bases : BasesWithin k v b.base_view b.base_period

  -- the best estimate heard
  abbrev pub BestHeard : (k v : ℕ) → Best State Readings → Type 0
  BestHeard k v b = (b ≡ no_best law) ⊎ OfBox k v b

  pub record Ordered (h : Held State Readings) : Type 0 where
    pub heard : HeardBoxes N h.heard
    pub bases : BasesWithin h.period h.view h.base_view h.base_period
    pub best : BestHeard h.period h.view h.best

  -- whatever the own number is
  pub fresh-ordered : Ordered (fresh law)
  fresh-ordered = record { heard = nobody-heard N; bases = record { view = omega arith; period = omega arith }; best = inl refl }

module _ {State Readings Values : Type 0} (law : Law State Readings Values) (group : Group) (own : ℕ) (place : InGroup group.size own) where
  abbrev InOrder : Held State Readings → Type 0
  InOrder h = Ordered law group.size h

  -- what a step leaves is in order
  abbrev Leaves : Outcome State Readings Values → Type 0
  Leaves o = InOrder o.held

  -- ---- moves

  ticked-ordered : (h : Held State Readings) (y : Readings) → InOrder h → InOrder (ticked law h y)
  ticked-ordered h y o = record {
    heard = nobody-heard group.size;
    bases = record { view = o.bases.view; period = omega (arith, o.bases.period) };
    best = inl refl;
  }

  -- the own bases stay where the view rises
  raised : (h : Held State Readings) (w : ℕ) → InOrder h → h.view ≤ w → BasesWithin h.period w h.base_view h.base_period
  raised h w o l = record { view = omega (arith, o.bases.view); period = o.bases.period }

  entered-ordered : (h : Held State Readings) (w : ℕ) → InOrder h → h.view ≤ w → InOrder (entered own h w)
  entered-ordered h w o l = record {
    heard = with-heard group.size nobody own (nobody-heard group.size) place;
    bases = raised h w o l;
    best = inr (record { any = refl; box = place; bases = raised h w o l });
  }

  following-ordered : (h : Held State Readings) (w : ℕ) → InOrder h → h.view ≤ w → InOrder (following law h w)
  following-ordered h w o l = record { heard = nobody-heard group.size; bases = raised h w o l; best = inl refl }

  -- the bases become the counters
  adopting-ordered : (h : Held State Readings) (w : ℕ) (x : Estimate State Readings) (decided : Bool) → InOrder (adopting law h w x decided)
  adopting-ordered h w x decided = record {
    heard = nobody-heard group.size;
    bases = record { view = omega arith; period = omega arith };
    best = inl refl;
  }

  proposing-ordered : (h : Held State Readings) (x : Estimate State Readings) → InOrder (proposing law own h x)
  proposing-ordered h x = record {
    heard = with-heard group.size nobody own (nobody-heard group.size) place;
    bases = record { view = omega arith; period = omega arith };
    best = inl refl;
  }

  hearing-ordered : (h : Held State Readings) (box : ℕ) (b : Best State Readings) (decided : Bool) → InOrder h → InGroup group.size box
      → BestHeard law group.size h.period h.view b → InOrder (hearing h box b decided)
  hearing-ordered h box b decided o g p = record { heard = with-heard group.size h.heard box o.heard g; bases = o.bases; best = p }

  better-heard : (k v : ℕ) (b c : Best State Readings) → BestHeard law group.size k v b → OfBox law group.size k v c
      → BestHeard law group.size k v (better b c)
  unfolding better
  better-heard k v b c p q = pick-ok (BestHeard law group.size k v) _ c b (λ _. inr q) (λ _. p)

  -- ---- rules

  raise-ordered : (h : Held State Readings) → InOrder h → Leaves (raise law group own h)
  unfolding raise
  raise-ordered h o =
      let l : h.view ≤ h.view + 1 = omega arith in
      pick-ok Leaves _ _ _ (λ _. entered-ordered h (h.view + 1) o l) (λ _. following-ordered h (h.view + 1) o l)

  pub tick-ordered : (h : Held State Readings) (beyond : Bool) (y : Readings) → InOrder h → Leaves (tick law group own h beyond y)
  unfolding tick after_tick
  tick-ordered h beyond y o =
      let n = ticked-ordered h y o in
      pick-ok Leaves _ _ _ (λ _. o)
      (λ _. pick-ok Leaves _ _ _ (λ _. o)
      (λ _. pick-ok Leaves _ _ _ (λ _. o)
      (λ _. pick-ok Leaves _ _ _ (λ _. raise-ordered (ticked law h y) n)
      (λ _. pick-ok Leaves _ _ _ (λ _. proposing-ordered (ticked law h y) _) (λ _. n)))))

  pub give_up-ordered : (h : Held State Readings) → InOrder h → Leaves (give_up law group own h)
  unfolding give_up
  give_up-ordered h o =
      pick-ok Leaves _ _ _ (λ _. o) (λ _. pick-ok Leaves _ _ _ (λ _. o) (λ _. pick-ok Leaves _ _ _ (λ _. o) (λ _. raise-ordered h o)))

  ack-ordered : (h : Held State Readings) (box : ℕ) → InOrder h → InGroup group.size box → Leaves (hear_ack law group own h box)
  unfolding hear_ack
  ack-ordered h box o g =
      pick-ok Leaves _ _ _ (λ _. hearing-ordered h box h.best true o g o.best) (λ _. hearing-ordered h box h.best h.decided o g o.best)

  estimate-ordered : (h : Held State Readings) (c : Best State Readings) → InOrder h → OfBox law group.size h.period h.view c
      → Leaves (hear_estimate law group own h c)
  unfolding hear_estimate
  estimate-ordered h c o q =
      pick-ok Leaves _ _ _ (λ _. proposing-ordered h (better h.best c).estimate)
      (λ _. hearing-ordered h c.box (better h.best c) h.decided o q.box (better-heard h.period h.view h.best c o.best q))

  -- ---- a frame that is neither refused nor ignored

  -- its sender is a box of the group, by 9
  sender-box : (sender : ℕ) → T (not (bad_sender group.size own sender)) → InGroup group.size sender
  unfolding bad_sender
  sender-box sender t =
      let N = group.size in
      let u = nor-left (ltb sender 1 || ltb N sender) (eqb sender own) t in
      (nltb→le sender 1 (nor-left (ltb sender 1) (ltb N sender) u), nltb→le N sender (nor-right (ltb sender 1) (ltb N sender) u))

  -- it is of this period, and its view is not lower
  record Timely (h : Held State Readings) (m : Message State Readings) : Type 0 where
    period : m.period ≡ h.period
    view : h.view ≤ m.view

  timely : (h : Held State Readings) (m : Message State Readings) → T (not (stale h.period h.view m.period m.view)) → Timely h m
  timely h m t =
      let same = eqb m.period h.period in
      let lower = ltb m.view h.view in
      record { period = eqb→eq _ _ (not-not same (nor-left (not same) lower t)); view = nltb→le _ _ (nor-right (not same) lower t) }

  -- an Estimate's bases are not above its counters, by 11
  estimate-bases : (k v vb kb : ℕ) → T (not (bad_base Kind.Estimate k v vb kb)) → BasesWithin k v vb kb
  unfolding bad_base
  estimate-bases k v vb kb t =
      let u = not-not (ltb vb v && leb kb k) t in
      let l = ltb→lt vb v (and_left (ltb vb v) (leb kb k) u) in
      record { view = omega arith; period = leb→le kb k (and_right (ltb vb v) (leb kb k) u) }

  -- so in this period, and in any view not below the frame's, its estimate is one of a box of the group
  estimate-of-box : (h : Held State Readings) (m : Message State Readings) (w : ℕ) → InGroup group.size m.sender
      → BasesWithin m.period m.view m.base_view m.base_period → Timely h m → m.view ≤ w
      → OfBox law group.size h.period w (estimate_of m)
  estimate-of-box h m w g b t l = record {
    any = refl;
    box = g;
    bases = record { view = omega (arith, b.view); period = omega (arith, b.period, t.period) };
  }

  receive-ordered : (kind : Kind) (h : Held State Readings) (m : Message State Readings) → InOrder h → InGroup group.size m.sender
      → T (not (bad_base kind m.period m.view m.base_view m.base_period)) → Timely h m → Leaves (receive law group own kind h m)
  unfolding receive
  receive-ordered Kind.Propose h m o g b t = adopting-ordered h m.view m.estimate h.decided
  receive-ordered Kind.Ack h m o g b t = ack-ordered h m.sender o g
  receive-ordered Kind.Decide h m o g b t = adopting-ordered h m.view m.estimate true
  receive-ordered Kind.Estimate h m o g b t =
      let e = estimate-bases m.period m.view m.base_view m.base_period b in
      pick-ok Leaves _ _ _
      (λ _. estimate-ordered (entered own h m.view) (estimate_of m) (entered-ordered h m.view o t.view)
      (estimate-of-box h m m.view g e t (omega arith)))
      (λ u. estimate-ordered h (estimate_of m) o (estimate-of-box h m h.view g e t (nltb→le h.view m.view u)))

  pub arrive-ordered : (h : Held State Readings) (m : Message State Readings) → InOrder h → Leaves (arrive law group own h m)
  unfolding arrive
  arrive-ordered h m o =
      let i = idle h.period h.decided in
      let s = stale h.period h.view m.period m.view in
      let u = unwanted m.kind h.view h.view_change (among h.heard m.sender) m.view in
      pick-ok Leaves _ _ _ (λ _. o)
      (λ g. pick-ok Leaves _ _ _ (λ _. o)
      (λ _. pick-ok Leaves _ _ _ (λ _. o)
      (λ b. pick-ok Leaves _ _ _ (λ _. o)
      (λ t. receive-ordered m.kind h m o (sender-box m.sender g) b (timely h m (nor-right i s (nor-left (i || s) u t)))))))

-- ---- what it tells of the best estimate heard

module _ {State Readings Values : Type 0} (law : Law State Readings Values) (N : ℕ) (h : Held State Readings) (o : Ordered law N h) where
  -- no base of it is above its counter, and where there is none its bases are 0
  pub best-bases : BasesWithin h.period h.view h.best.base_view h.best.base_period
  best-bases = by o.best
    where
      by : BestHeard law N h.period h.view h.best → BasesWithin h.period h.view h.best.base_view h.best.base_period
      by (inl e) =
          subst (λ (b : Best State Readings). BasesWithin h.period h.view b.base_view b.base_period) (sym e) (record { view = omega arith; period = omega arith })
      by (inr q) = q.bases
