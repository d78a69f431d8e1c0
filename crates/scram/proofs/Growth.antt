-- How the facts grow, by one that is proposed, accepted or estimated, and that each way keeps them consistent. Assumes nothing.
use mathlib.Core.Path.{◌≡◌, ap, ◌∙◌}
use mathlib.Core.Logic.{◌⊎◌, inl, inr}
use mathlib.Core.List.{List}
use Prim.Native.Nat.{ℕ, ◌≤◌, ◌<◌}
use native.Mathlib.Omega.{arith}
use Rattle.scram.specs.Held.{Group}
use Rattle.scram.proofs.Rows.{Begins, all, AtMost}
use Rattle.scram.proofs.Facts.{Facts, RowsTo, Based, Opened, Chosen, Consistent}

or-then : {A B C : Type 0} → (B → A ⊎ C) → B ⊎ C → A ⊎ C
or-then f (inl b) = f b
or-then f (inr c) = inr c

pub or_map : {A B C : Type 0} → (B → C) → A ⊎ B → A ⊎ C
or_map f (inl a) = inl a
or_map f (inr b) = inr (f b)

module _ {Row : Type 0} where
  abbrev pub with_proposed : Facts Row → ℕ → ℕ → List Row → Facts Row
  with_proposed f v k l = record {
    proposed = λ v' k' l'. f.proposed v' k' l' ⊎ ((v' ≡ v) × (k' ≡ k) × (l' ≡ l));
    accepted = f.accepted;
    estimated = f.estimated;
  }

  abbrev pub with_accepted : Facts Row → ℕ → ℕ → ℕ → List Row → Facts Row
  with_accepted f i v k l = record {
    proposed = f.proposed;
    accepted = λ i' v' k' l'. f.accepted i' v' k' l' ⊎ ((i' ≡ i) × (v' ≡ v) × (k' ≡ k) × (l' ≡ l));
    estimated = f.estimated;
  }

  abbrev pub with_estimated : Facts Row → ℕ → ℕ → ℕ → ℕ → ℕ → List Row → Facts Row
  with_estimated f i v k a b l = record {
    proposed = f.proposed;
    accepted = f.accepted;
    estimated = λ i' v' k' a' b' l'. f.estimated i' v' k' a' b' l' ⊎ ((i' ≡ i) × (v' ≡ v) × (k' ≡ k) × (a' ≡ a) × (b' ≡ b) × (l' ≡ l));
  }

  -- the facts f are among the facts g
  pub record Among (f g : Facts Row) : Type 0 where
    pub proposed : (v k : ℕ) (l : List Row) → f.proposed v k l → g.proposed v k l
    pub accepted : (i v k : ℕ) (l : List Row) → f.accepted i v k l → g.accepted i v k l
    pub estimated : (i v k a b : ℕ) (l : List Row) → f.estimated i v k a b l → g.estimated i v k a b l

  -- and what is new concerns box i alone
  pub record GrownAt (coordinator : ℕ → ℕ) (i : ℕ) (f g : Facts Row) : Type 0 where
    pub kept : Among f g
    pub proposed : (v k : ℕ) (l : List Row) → g.proposed v k l → f.proposed v k l ⊎ (coordinator v ≡ i)
    pub accepted : (j v k : ℕ) (l : List Row) → g.accepted j v k l → f.accepted j v k l ⊎ (j ≡ i)
    pub estimated : (j v k a b : ℕ) (l : List Row) → g.estimated j v k a b l → f.estimated j v k a b l ⊎ (j ≡ i)

  among-refl : (f : Facts Row) → Among f f
  among-refl f = record { proposed = λ v k l p. p; accepted = λ i v k l p. p; estimated = λ i v k a b l p. p }

  among-trans : {f g h : Facts Row} → Among f g → Among g h → Among f h
  among-trans x y = record {
    proposed = λ v k l p. y.proposed v k l (x.proposed v k l p);
    accepted = λ i v k l p. y.accepted i v k l (x.accepted i v k l p);
    estimated = λ i v k a b l p. y.estimated i v k a b l (x.estimated i v k a b l p);
  }

  pub grown-refl : {coordinator : ℕ → ℕ} {i : ℕ} (f : Facts Row) → GrownAt coordinator i f f
  grown-refl f = record { kept = among-refl f; proposed = λ v k l p. inl p; accepted = λ j v k l p. inl p; estimated = λ j v k a b l p. inl p }

  pub grown-trans : {coordinator : ℕ → ℕ} {i : ℕ} {f g h : Facts Row} → GrownAt coordinator i f g → GrownAt coordinator i g h → GrownAt coordinator i f h
  grown-trans x y = record {
    kept = among-trans x.kept y.kept;
    proposed = λ v k l p. or-then (x.proposed v k l) (y.proposed v k l p);
    accepted = λ j v k l p. or-then (x.accepted j v k l) (y.accepted j v k l p);
    estimated = λ j v k a b l p. or-then (x.estimated j v k a b l) (y.estimated j v k a b l p);
  }

  among-proposed : (f : Facts Row) (v k : ℕ) (l : List Row) → Among f (with_proposed f v k l)
  among-proposed f v k l = record { proposed = λ v k l p. inl p; accepted = λ i v k l p. p; estimated = λ i v k a b l p. p }

  among-accepted : (f : Facts Row) (i v k : ℕ) (l : List Row) → Among f (with_accepted f i v k l)
  among-accepted f i v k l = record { proposed = λ v k l p. p; accepted = λ i v k l p. inl p; estimated = λ i v k a b l p. p }

  among-estimated : (f : Facts Row) (i v k a b : ℕ) (l : List Row) → Among f (with_estimated f i v k a b l)
  among-estimated f i v k a b l = record { proposed = λ v k l p. p; accepted = λ i v k l p. p; estimated = λ i v k a b l p. inl p }

  pub grown-proposed : {coordinator : ℕ → ℕ} {i : ℕ} (f : Facts Row) (v k : ℕ) (l : List Row) → coordinator v ≡ i
      → GrownAt coordinator i f (with_proposed f v k l)
  grown-proposed {coordinator} f v k l c = record {
    kept = among-proposed f v k l;
    proposed = λ v' k' l' p. or_map (λ q. ap coordinator q.0 ∙ c) p;
    accepted = λ j v k l p. inl p;
    estimated = λ j v k a b l p. inl p;
  }

  pub grown-accepted : {coordinator : ℕ → ℕ} (f : Facts Row) (i v k : ℕ) (l : List Row) → GrownAt coordinator i f (with_accepted f i v k l)
  grown-accepted f i v k l = record {
    kept = among-accepted f i v k l;
    proposed = λ v k l p. inl p;
    accepted = λ j v' k' l' p. or_map (λ q. q.0) p;
    estimated = λ j v k a b l p. inl p;
  }

  pub grown-estimated : {coordinator : ℕ → ℕ} (f : Facts Row) (i v k a b : ℕ) (l : List Row) → GrownAt coordinator i f (with_estimated f i v k a b l)
  grown-estimated f i v k a b l = record {
    kept = among-estimated f i v k a b l;
    proposed = λ v k l p. inl p;
    accepted = λ j v k l p. inl p;
    estimated = λ j v' k' a' b' l' p. or_map (λ q. q.0) p;
  }

  pub based-kept : {f g : Facts Row} → Among f g → (v k : ℕ) (l : List Row) → Based f v k l → Based g v k l
  based-kept u v k l (inl z) = inl z
  based-kept u v k l (inr (m, p, s)) = inr (m, u.proposed v k m p, s)

  module _ (group : Group) where
    opened-kept : {f g : Facts Row} → Among f g → (v k : ℕ) (l : List Row) → Opened f group v k l → Opened g group v k l
    opened-kept u v k l o = record {
      who = o.who;
      enough = o.enough;
      period = o.period;
      base_view = o.base_view;
      base_period = o.base_period;
      box = o.box;
      best = o.best;
      given = u.estimated o.box v o.period o.base_view o.base_period o.best o.given;
      others = λ i t. let (a, b, m, e, x) = o.others i t in (a, b, m, u.estimated i v o.period a b m e, x);
      early = o.early;
      goes_on = o.goes_on;
    }

    pub chosen-kept : {f g : Facts Row} → Among f g → (v k : ℕ) (l : List Row) → Chosen f group v k l → Chosen g group v k l
    chosen-kept u v k l c = (c.0, c.1, λ i t. u.accepted i v k l (c.2 i t))

    module _ (fed : ℕ → Row → Type 0) {f : Facts Row} (ok : Consistent f group fed) where
      -- a proposal goes on from all earlier ones of its view, which was opened for it
      pub consistent-proposed : (v k : ℕ) (l : List Row) → RowsTo fed k l → 1 ≤ k → ((j : ℕ) (m : List Row) → f.proposed v j m → (j < k) × Begins m l)
          → (v ≡ 0) ⊎ Opened f group v k l → Consistent (with_proposed f v k l) group fed
      consistent-proposed v k l to from1 old way = record {
        rows = rows;
        grows = grows;
        opened = λ v' k' l' p. or_map (opened-kept sub v' k' l') (opened v' k' l' p);
        offered = λ i v' k' l' p. inl (ok.offered i v' k' l' p);
        based = λ i v' k' a b l' p. let e = ok.based i v' k' a b l' p in (e.0, based-kept sub a b l' e.1, e.2);
        ordered = ok.ordered;
      }
        where
          sub : Among f (with_proposed f v k l)
          sub = among-proposed f v k l

          rows : (v' k' : ℕ) (l' : List Row) → f.proposed v' k' l' ⊎ ((v' ≡ v) × (k' ≡ k) × (l' ≡ l)) → RowsTo fed k' l' × (1 ≤ k')
          rows v' k' l' (inl p) = ok.rows v' k' l' p
          rows v' k' l' (inr q) = rw (q.1, q.2) (to, from1)

          grows : (v' k' j' : ℕ) (l' m' : List Row) → f.proposed v' k' l' ⊎ ((v' ≡ v) × (k' ≡ k) × (l' ≡ l))
              → f.proposed v' j' m' ⊎ ((v' ≡ v) × (j' ≡ k) × (m' ≡ l)) → k' ≤ j' → Begins l' m'
          grows v' k' j' l' m' (inl p) (inl q) x = ok.grows v' k' j' l' m' p q x
          grows v' k' j' l' m' (inl p) (inr q) x = rw q.2 (old k' l' (rw q.0 at p)).1
          grows v' k' j' l' m' (inr p) (inl q) x = let h = (old j' m' (rw p.0 at q)).0 in absurd (omega arith)
          grows v' k' j' l' m' (inr p) (inr q) x = rw (p.2, q.2) all

          opened : (v' k' : ℕ) (l' : List Row) → f.proposed v' k' l' ⊎ ((v' ≡ v) × (k' ≡ k) × (l' ≡ l)) → (v' ≡ 0) ⊎ Opened f group v' k' l'
          opened v' k' l' (inl p) = ok.opened v' k' l' p
          opened v' k' l' (inr q) = rw (q.0, q.1, q.2) way

      -- what is accepted was proposed, and the box has entered no higher view
      pub consistent-accepted : (i v k : ℕ) (l : List Row) → f.proposed v k l → ((w j a b : ℕ) (m : List Row) → f.estimated i w j a b m → w ≤ v)
          → Consistent (with_accepted f i v k l) group fed
      consistent-accepted i v k l p old = record {
        rows = ok.rows;
        grows = ok.grows;
        opened = λ v' k' l' p. or_map (opened-kept (among-accepted f i v k l) v' k' l') (ok.opened v' k' l' p);
        offered = offered;
        based = ok.based;
        ordered = ordered;
      }
        where
          offered : (i' v' k' : ℕ) (l' : List Row) → f.accepted i' v' k' l' ⊎ ((i' ≡ i) × (v' ≡ v) × (k' ≡ k) × (l' ≡ l)) → f.proposed v' k' l'
          offered i' v' k' l' (inl q) = ok.offered i' v' k' l' q
          offered i' v' k' l' (inr q) = rw (q.1, q.2, q.3) p

          ordered : (i' v' k' w j a b : ℕ) (l' m : List Row) → f.accepted i' v' k' l' ⊎ ((i' ≡ i) × (v' ≡ v) × (k' ≡ k) × (l' ≡ l))
              → f.estimated i' w j a b m → v' < w → (k' ≤ j) × AtMost v' k' a b
          ordered i' v' k' w j a b l' m (inl q) e x = ok.ordered i' v' k' w j a b l' m q e x
          ordered i' v' k' w j a b l' m (inr q) e x = let h = old w j a b m (rw q.0 at e) in absurd (omega arith)

      -- an estimate's base is at or above all that the box accepted
      pub consistent-estimated : (i w k a b : ℕ) (l : List Row) → RowsTo fed k l → Based f a b l → a < w
          → ((v j : ℕ) (m : List Row) → f.accepted i v j m → (j ≤ k) × AtMost v j a b) → Consistent (with_estimated f i w k a b l) group fed
      consistent-estimated i w k a b l to on lt old = record {
        rows = ok.rows;
        grows = ok.grows;
        opened = λ v' k' l' p. or_map (opened-kept (among-estimated f i w k a b l) v' k' l') (ok.opened v' k' l' p);
        offered = ok.offered;
        based = based;
        ordered = ordered;
      }
        where
          based : (i' v' k' a' b' : ℕ) (l' : List Row)
              → f.estimated i' v' k' a' b' l' ⊎ ((i' ≡ i) × (v' ≡ w) × (k' ≡ k) × (a' ≡ a) × (b' ≡ b) × (l' ≡ l))
              → RowsTo fed k' l' × Based f a' b' l' × (a' < v')
          based i' v' k' a' b' l' (inl q) = ok.based i' v' k' a' b' l' q
          based i' v' k' a' b' l' (inr q) = rw (q.1, q.2, q.3, q.4, q.5) (to, on, lt)

          ordered : (i' v' k' w' j a' b' : ℕ) (l' m : List Row) → f.accepted i' v' k' l'
              → f.estimated i' w' j a' b' m ⊎ ((i' ≡ i) × (w' ≡ w) × (j ≡ k) × (a' ≡ a) × (b' ≡ b) × (m ≡ l)) → v' < w'
              → (k' ≤ j) × AtMost v' k' a' b'
          ordered i' v' k' w' j a' b' l' m q (inl e) x = ok.ordered i' v' k' w' j a' b' l' m q e x
          ordered i' v' k' w' j a' b' l' m q (inr e) x = rw (e.2, e.3, e.4) (old v' k' l' (rw e.0 at q))
