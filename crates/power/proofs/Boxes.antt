-- What holds of each box of a history with power cycles and events asked first, beside a history of the base: every replica at hand, stored,
-- yet to be stored or yet to be committed comes of the base's box by calls not carried over so far. Assumes nothing.
use mathlib.Core.Path.{◌≡◌, refl, sym, ap, ◌∙◌, subst}
use mathlib.Core.Logic.{◌⊎◌, inl, inr, ◌≢◌}
use mathlib.Core.Bool.{Bool, false, not}
use mathlib.Core.Option.{Option, none, some}
use mathlib.Core.List.{List, []}
use Prim.Native.Nat.{ℕ, suc, ◌≤◌, ◌<◌}
use native.Mathlib.Omega.{arith}
use lib.Dec.{T, T_not, eqb, eqb→eq}
use Rattle.lists.proofs.Booleans.{eqb_no}
use Rattle.lists.proofs.Choice.{pick-ok}
use Rattle.scram.specs.Held.{Law}
use Rattle.scram.specs.History.{System, after}
use Rattle.scram.proofs.Rows.{le-or-lt}
use Rattle.tickets.specs.Tickets.{Tickets}
use Rattle.tickets.proofs.Void.{Void}
use Rattle.power.specs.Demand3.{WithRows, Made, OneBox, Storage, put, stepped, storing, now_stored, record_of}
use Rattle.power.proofs.Paths.{Within, From, from-self, from-quiet, from-within, Premises, Good}
use Rattle.power.proofs.Plain.{Plain, box_in, Carry}
use Rattle.power.proofs.Tables.{same_or_not, put-own, put_other}

-- ---- options

-- what holds of whatever there is
abbrev pub Of : {A : Type 0} → (A → Type 0) → Option A → Type 0
Of P none = Unit {0}
Of P (some x) = P x

pub of_map : {A : Type 0} {P Q : A → Type 0} (o : Option A) → ((x : A) → P x → Q x) → Of P o → Of Q o
of_map none f h = tt
of_map (some x) f h = f x h

pub of-all : {A : Type 0} {P : A → Type 0} (o : Option A) → ((x : A) → P x) → Of P o
of-all none f = tt
of-all (some x) f = f x

pub of-both : {A : Type 0} {P Q R : A → Type 0} (o : Option A) → ((x : A) → P x → Q x → R x) → Of P o → Of Q o → Of R o
of-both none f h k = tt
of-both (some x) f h k = f x h k

pub of_some : {A : Type 0} (P : A → Type 0) (o : Option A) (x : A) → o ≡ some x → Of P o → P x
of_some P o x e h = subst (Of P) e h

-- ---- tables

-- what holds of a table's place, whether it is the one changed or not
pub of-put : {A : Type 0} (P : A → Type 0) (f : ℕ → Option A) (n : ℕ) (x : A) (k : ℕ) → (k ≡ n → P x) → (k ≢ n → Of P (f k))
    → Of P (put f n (some x) k)
of-put P f n x k new old = pick-ok (Of P) (eqb k n) (some x) (f k) (λ t. new (eqb→eq k n t)) (λ t. old (eqb_no k n t))

-- a step that can be committed with the latter tickets could be with the former
abbrev pub Still : Tickets ℕ → Tickets ℕ → Type 0
Still t t' = T t'.pending → T t.pending × (t'.step ≡ t.step)

module _ {State Readings Values : Type 0} (p : Premises State Readings Values) where
  abbrev system : System State Readings Values
  system = p.system

  abbrev law : Law State Readings Values
  law = p.law

  abbrev storage : Storage system
  storage = p.storage

  abbrev Replica : Type 0
  Replica = WithRows system.Box Readings

  abbrev MadeHere : Type 0
  MadeHere = Made system.Box Readings

  abbrev BoxHere : Type 0
  BoxHere = OneBox system.Box storage.Record Readings

  abbrev pub Sent : Plain system → List (List ℕ)
  Sent g = (after system g).sent

  -- ---- what holds

  -- a replica that comes of the base's box, with the frame and the command that it was made with
  pub record Live (g : Plain system) (i : ℕ) (v : Replica) (f c : List ℕ) : Type 0 where
    pub from : From system (Sent g) (box_in system g i) v f c
    pub kept : p.Kept i v.box
    pub good : Good p f

  abbrev pub MadeLive : Plain system → ℕ → MadeHere → Type 0
  MadeLive g i x = Live g i x.replica x.frame x.command

  -- what was made comes of what was made before
  abbrev pub MadeFrom : Plain system → MadeHere → MadeHere → Type 0
  MadeFrom g x y = From system (Sent g) x.replica y.replica y.frame y.command

  -- what was made later at this box, and its replica, come of what the entry n made
  pub record Follows (g : Plain system) (made : ℕ → Option MadeHere) (i : ℕ) (v : Replica) (n : ℕ) (x : MadeHere) : Type 0 where
    pub now : From system (Sent g) x.replica v [] []
    pub later : (m : ℕ) → n < m → Of (λ y. y.box ≡ i → MadeFrom g x y) (made m)

  -- of what the entry m made at box i, if its record may still be stored
  abbrev pub Ready : Plain system → ℕ → ℕ → ℕ → MadeHere → Type 0
  Ready g i first m x = x.box ≡ i → first ≤ m → MadeLive g i x

  -- of what the entry n made there, unless it was asked for and has not been committed
  abbrev pub Order : Plain system → (ℕ → Option MadeHere) → (ℕ → Bool) → ℕ → BoxHere → ℕ → MadeHere → Type 0
  Order g made asked i s n x = x.box ≡ i → T (not (asked n)) → s.first ≤ n → Follows g made i s.now n x

  -- What the entry n made at box i was asked for and can be committed: nothing was made there since, and its record, if stored, is the last one
  -- stored.
  pub record Offered (g : Plain system) (made : ℕ → Option MadeHere) (asked : ℕ → Bool) (i : ℕ) (s : BoxHere) (n : ℕ) : Type 0 where
    pub what : MadeHere
    pub is : made n ≡ some what
    pub here : what.box ≡ i
    pub yet : T (asked n)
    pub live : MadeLive g i what
    pub safe : T what.stored → (n < s.first) × (s.stored ≡ record_of system law storage what.replica)
    pub latest : (m : ℕ) → n < m → Of (λ y. y.box ≢ i) (made m)

  pub record AtBox (g : Plain system) (made : ℕ → Option MadeHere) (asked : ℕ → Bool) (count i : ℕ) (s : BoxHere) (t : Tickets ℕ) : Type 0 where
    pub now : Live g i s.now [] []
    pub stored : (v : Replica) × (s.stored ≡ record_of system law storage v) × Live g i v [] []
    pub ready : (m : ℕ) → Of (Ready g i s.first m) (made m)
    pub order : (n : ℕ) → Of (Order g made asked i s n) (made n)
    pub offer : T t.pending → Offered g made asked i s t.step
    pub first : s.first ≤ count

  -- ---- something happens at another box

  -- more calls of other boxes than j were carried over
  pub record Grown (g g' : Plain system) (j : ℕ) : Type 0 where
    pub box : box_in system g' j ≡ box_in system g j
    pub sent : Within (Sent g) (Sent g')

  live-grown : {g g' : Plain system} {j : ℕ} {v : Replica} {f c : List ℕ} → Grown g g' j → Live g j v f c → Live g' j v f c
  live-grown {g} {g'} {j} {v} {f} {c} w l = record {
    from = subst (λ u. From system (Sent g') u v f c) (sym w.box) (from-within system w.sent l.from);
    kept = l.kept;
    good = l.good;
  }

  module _ {g : Plain system} {made : ℕ → Option MadeHere} {asked : ℕ → Bool} {count j : ℕ} {s : BoxHere} {t : Tickets ℕ}
      (a : AtBox g made asked count j s t) where
    -- nothing was made, and all that was made was asked for as before
    pub aged : (asked' : ℕ → Bool) (t' : Tickets ℕ) → ((k : ℕ) → Of (λ x. asked' k ≡ asked k) (made k)) → Still t t'
        → AtBox g made asked' (suc count) j s t'
    aged asked' t' same still = record {
      now = a.now;
      stored = a.stored;
      ready = a.ready;
      order = λ k. of-both (made k) (λ x e h b u q. h b (subst (λ z. T (not z)) e u) q) (same k) (a.order k);
      offer = λ u. let (h, e) = still u in subst (Offered g made asked' j s) (sym e) (offer (a.offer h));
      first = let h = a.first in omega arith;
    }
      where
        offer : {n : ℕ} → Offered g made asked j s n → Offered g made asked' j s n
        offer {n} o = record {
          what = o.what;
          is = o.is;
          here = o.here;
          yet = subst T (sym (of_some (λ x. asked' n ≡ asked n) (made n) o.what o.is (same n))) o.yet;
          live = o.live;
          safe = o.safe;
          latest = o.latest;
        }

    -- something was made, stored or committed at another box
    pub elsewhere : (g' : Plain system) → Grown g g' j → (n : ℕ) (m : MadeHere) → m.box ≢ j → Of (λ x. x.box ≢ j) (made n)
        → (asked' : ℕ → Bool) → ((k : ℕ) → k ≢ n → asked' k ≡ asked k) → AtBox g' (put made n (some m)) asked' (suc count) j s t
    elsewhere g' w n m ne was asked' same = record {
      now = live-grown w a.now;
      stored = let (v, e, l) = a.stored in (v, e, live-grown w l);
      ready = λ k. of-put (Ready g' j s.first k) made n m k (λ _ e q. absurd (ne e))
          (λ _. of_map (made k) (λ x h e q. live-grown w (h e q)) (a.ready k));
      order = λ k. of-put (Order g' (put made n (some m)) asked' j s k) made n m k (λ _ e u q. absurd (ne e))
          (λ z. of_map (made k) (λ x h e u q. follows k x (h e (subst (λ b. T (not b)) (same k z) u) q)) (a.order k));
      offer = λ u. offer (a.offer u);
      first = let h = a.first in omega arith;
    }
      where
        follows : (k : ℕ) (x : MadeHere) → Follows g made j s.now k x → Follows g' (put made n (some m)) j s.now k x
        follows k x f = record {
          now = from-within system w.sent f.now;
          later = λ l lt. of-put (λ y. y.box ≡ j → MadeFrom g' x y) made n m l (λ _ e. absurd (ne e))
              (λ _. of_map (made l) (λ y h e. from-within system w.sent (h e)) (f.later l lt));
        }

        offer : {q : ℕ} → Offered g made asked j s q → Offered g' (put made n (some m)) asked' j s q
        offer {q} o = record {
          what = o.what;
          is = put_other made n (some m) q other ∙ o.is;
          here = o.here;
          yet = subst T (sym (same q other)) o.yet;
          live = live-grown w o.live;
          safe = o.safe;
          latest = λ k lt. of-put (λ y. y.box ≢ j) made n m k (λ _. ne) (λ _. o.latest k lt);
        }
          where
            other : q ≢ n
            other z = of_some (λ y. y.box ≢ j) (made q) o.what o.is (rw z was) o.here

  -- ---- something is made at box i

  -- nothing was made by the entries to come
  abbrev pub Early : (ℕ → Option MadeHere) → ℕ → Type 0
  Early made count = (m : ℕ) → Of (λ x. m < count) (made m)

  -- the box's replica, and what is made, come of all that may still be stored, but for what was asked for and has not been committed
  abbrev pub Newest : Plain system → (ℕ → Bool) → ℕ → BoxHere → MadeHere → ℕ → MadeHere → Type 0
  Newest g asked i s m n x = x.box ≡ i → T (not (asked n)) → s.first ≤ n → From system (Sent g) x.replica s.now [] [] × MadeFrom g x m

  -- what is made stands behind the box's replica, and no ticket can be committed then; or it was asked for, and it alone can be committed
  abbrev pub Whether : Plain system → ℕ → BoxHere → MadeHere → (ℕ → Bool) → Tickets ℕ → ℕ → Type 0
  Whether g i s m asked t count =
      (From system (Sent g) m.replica s.now [] [] × Void t) ⊎ (T (asked count) × (T t.pending → t.step ≡ count) × (m.box ≡ i))

  pub entered : {g : Plain system} {made : ℕ → Option MadeHere} {asked : ℕ → Bool} {count i : ℕ} {was : BoxHere} {t : Tickets ℕ}
      → AtBox g made asked count i was t → Early made count → (s : BoxHere) (m : MadeHere) (asked' : ℕ → Bool) (t' : Tickets ℕ)
      → m.stored ≡ false → s.stored ≡ was.stored → was.first ≤ s.first → s.first ≤ count → ((k : ℕ) → k ≢ count → asked' k ≡ asked k)
      → Live g i s.now [] [] → MadeLive g i m → Whether g i s m asked' t' count → ((n : ℕ) → Of (Newest g asked i s m n) (made n))
      → AtBox g (put made count (some m)) asked' (suc count) i s t'
  entered {g} {made} {asked} {count} {i} {was} {t} a early s m asked' t' fresh st up top same now live whether newest = record {
    now = now;
    stored = let (v, e, l) = a.stored in (v, st ∙ e, l);
    ready = λ k. of-put (Ready g i s.first k) made count m k (λ _ e q. live)
        (λ _. of_map (made k) (λ x h e q. h e (omega arith)) (a.ready k));
    order = λ k. of-put (Order g (put made count (some m)) asked' i s k) made count m k
        (λ z e u q. record {
          now = own whether (subst (λ n. T (not (asked' n))) z u);
          later = λ l lt. later-none (λ y. y.box ≡ i → MadeFrom g m y) l (omega arith);
        })
        (λ z. of-both (made k) (λ x h y e u q. let u' = subst (λ b. T (not b)) (same k z) u in follows k x (y e u' q) (h e u' (omega arith)))
        (a.order k) (newest k));
    offer = offer whether;
    first = omega arith;
  }
    where
      later-none : (P : MadeHere → Type 0) (l : ℕ) → count < l → Of P (put made count (some m) l)
      later-none P l lt = of-put P made count m l (λ z. absurd (omega arith)) (λ _. of_map (made l) (λ x h. absurd (omega arith)) (early l))

      follows : (k : ℕ) (x : MadeHere) → From system (Sent g) x.replica s.now [] [] × MadeFrom g x m
          → Follows g made i was.now k x → Follows g (put made count (some m)) i s.now k x
      follows k x z f = record {
        now = z.0;
        later = λ l lt. of-put (λ y. y.box ≡ i → MadeFrom g x y) made count m l (λ _ e. z.1) (λ _. f.later l lt);
      }

      own : Whether g i s m asked' t' count → T (not (asked' count)) → From system (Sent g) m.replica s.now [] []
      own (inl (f, _)) u = f
      own (inr (b, _, _)) u = absurd (T_not (asked' count) u b)

      offer : Whether g i s m asked' t' count → T t'.pending → Offered g (put made count (some m)) asked' i s t'.step
      offer (inl (_, n)) u = absurd (T_not t'.pending n u)
      offer (inr (b, e, here)) u =
          subst (Offered g (put made count (some m)) asked' i s) (sym (e u)) (record {
            what = m;
            is = put-own made count (some m);
            here = here;
            yet = b;
            live = live;
            safe = λ z. absurd (rw fresh at z);
            latest = λ l lt. later-none (λ y. y.box ≢ i) l lt;
          })

  -- ---- what was asked for is committed

  module _ {g : Plain system} {made : ℕ → Option MadeHere} {asked : ℕ → Bool} {count i : ℕ} {s : BoxHere} {t : Tickets ℕ}
      (a : AtBox g made asked count i s t) (n : ℕ) (o : Offered g made asked i s n) (t' : Tickets ℕ) (void : Void t') where
    abbrev x : MadeHere
    x = o.what

    abbrev made_then : ℕ → Option MadeHere
    made_then = put made n (some x)

    abbrev asked_then : ℕ → Bool
    asked_then = put asked n false

    -- what the other entries made was asked for as before
    others : (k : ℕ) → k ≢ n → T (not (asked_then k)) → T (not (asked k))
    others k ne u = subst (λ b. T (not b)) (put_other asked n false k ne) u

    -- at this box they made it before
    before : (k : ℕ) → k ≢ n → Of (λ y. y.box ≡ i → k < n) (made k)
    before k ne = go (le-or-lt k n)
      where
        go : (k ≤ n) ⊎ (n < k) → Of (λ y. y.box ≡ i → k < n) (made k)
        go (inl h) = of-all (made k) (λ y e. omega arith)
        go (inr h) = of_map (made k) (λ y f e. absurd (f e)) (o.latest k h)

    -- its record is not stored yet
    pub committed : AtBox g made_then asked_then (suc count) i (stepped s x.replica) t'
    committed = record {
      now = record { from = from-quiet system o.live.from; kept = o.live.kept; good = inl refl };
      stored = a.stored;
      ready = λ k. of-put (Ready g i s.first k) made n x k (λ _ e q. o.live) (λ _. a.ready k);
      order = λ k. of-put (Order g made_then asked_then i (stepped s x.replica) k) made n x k
          (λ z e u q. record { now = from-self system (Sent g) x.replica x.replica refl; later = λ l lt. none-later l (omega arith) })
          (λ ne. of-both (made k) (λ y h z e u q. follows k y (z e) (h e (others k ne u) q)) (a.order k) (before k ne));
      offer = λ u. absurd (T_not t'.pending void u);
      first = let h = a.first in omega arith;
    }
      where
        none-later : (l : ℕ) → n < l → Of (λ y. y.box ≡ i → MadeFrom g x y) (made_then l)
        none-later l lt =
            of-put (λ y. y.box ≡ i → MadeFrom g x y) made n x l (λ z. absurd (omega arith))
            (λ _. of_map (made l) (λ y h e. absurd (h e)) (o.latest l lt))

        follows : (k : ℕ) (y : MadeHere) → k < n → Follows g made i s.now k y → Follows g made_then i x.replica k y
        follows k y lt f = record {
          now = from-quiet system mine;
          later = λ l lt. of-put (λ z. z.box ≡ i → MadeFrom g y z) made n x l (λ _ e. mine) (λ _. f.later l lt);
        }
          where
            mine : MadeFrom g y x
            mine = of_some (λ z. z.box ≡ i → MadeFrom g y z) (made n) x o.is (f.later n lt) o.here

    -- its record is stored: the step is carried over
    pub committed-stored : T x.stored → (c : Carry system g i x.replica x.frame x.command)
        → AtBox c.plain made_then asked_then (suc count) i (stepped s x.replica) t'
    committed-stored safe c = record {
      now = mine;
      stored = (x.replica, (o.safe safe).1, mine);
      ready = λ k. of-put (Ready c.plain i s.first k) made n x k (λ z e q. absurd (over k z q))
          (λ ne. of_map (made k) (λ y lt e q. absurd (gone k (lt e) q)) (before k ne));
      order = λ k. of-put (Order c.plain made_then asked_then i (stepped s x.replica) k) made n x k (λ z e u q. absurd (over k z q))
          (λ ne. of_map (made k) (λ y lt e u q. absurd (gone k (lt e) q)) (before k ne));
      offer = λ u. absurd (T_not t'.pending void u);
      first = let h = a.first in omega arith;
    }
      where
        mine : Live c.plain i x.replica [] []
        mine = record {
          from = from-self system (Sent c.plain) (box_in system c.plain i) x.replica (sym c.own);
          kept = o.live.kept;
          good = inl refl;
        }

        -- no record made so far may be stored any more
        over : (k : ℕ) → k ≡ n → s.first ≤ k → ⊥
        over k z q = let h = (o.safe safe).0 in omega arith

        gone : (k : ℕ) → k < n → s.first ≤ k → ⊥
        gone k lt q = let h = (o.safe safe).0 in omega arith

  -- ---- a record is stored

  -- the entry n made x, whose record may still be stored
  module _ (g : Plain system) (made : ℕ → Option MadeHere) (asked : ℕ → Bool) (count n : ℕ) (x : MadeHere) (s : BoxHere) (t : Tickets ℕ)
      (a : AtBox g made asked count x.box s t) (is : made n ≡ some x) (low : s.first ≤ n) (early : n < count) where
    abbrev i : ℕ
    i = x.box

    -- the box then, and what was made
    abbrev s' : BoxHere
    s' = storing s n (record_of system law storage x.replica)

    abbrev stored_then : ℕ → Option MadeHere
    stored_then = put made n (some (now_stored x))

    -- what it made came of the base's box
    pub ready-live : MadeLive g x.box x
    ready-live = of_some (Ready g i s.first n) (made n) x is (a.ready n) refl low

    -- what can be committed was made last at this box
    last : {q : ℕ} → Offered g made asked i s q → q < n → ⊥
    last o lt = of_some (λ y. y.box ≢ i) (made n) x is (o.latest n lt) refl

    -- if it is not what is stored, its own record is not stored
    unsafe : {q : ℕ} (o : Offered g made asked i s q) → T o.what.stored → ⊥
    unsafe o u = last o (let h = (o.safe u).0 in omega arith)

    latest : {q : ℕ} (o : Offered g made asked i s q) (m : ℕ) → q < m → Of (λ y. y.box ≢ i) (stored_then m)
    latest o m lt = of-put (λ y. y.box ≢ i) made n (now_stored x) m (λ z. absurd (last o (omega arith))) (λ _. o.latest m lt)

    -- it was asked for, and has not been committed
    pub kept-asked : T (asked n) → AtBox g stored_then asked (suc count) x.box s' t
    kept-asked yet = record {
      now = a.now;
      stored = (x.replica, refl, record { from = from-quiet system ready-live.from; kept = ready-live.kept; good = inl refl });
      ready = λ k. of-put (Ready g i s'.first k) made n (now_stored x) k (λ z e q. absurd (omega arith))
          (λ _. of_map (made k) (λ y h e q. h e (omega arith)) (a.ready k));
      order = λ k. of-put (Order g stored_then asked i s' k) made n (now_stored x) k (λ z e u q. absurd (omega arith))
          (λ _. of_map (made k) (λ y h e u q. follows k y (omega arith) (h e u (omega arith))) (a.order k));
      offer = λ u. let o = a.offer u in offer t.step o (same_or_not t.step n);
      first = omega arith;
    }
      where
        follows : (k : ℕ) (y : MadeHere) → n < k → Follows g made i s.now k y → Follows g stored_then i s.now k y
        follows k y q f = record {
          now = f.now;
          later = λ l lt. of-put (λ z. z.box ≡ i → MadeFrom g y z) made n (now_stored x) l (λ z e. absurd (omega arith)) (λ _. f.later l lt);
        }

        offer : (q : ℕ) → Offered g made asked i s q → (q ≡ n) ⊎ (q ≢ n) → Offered g stored_then asked i s' q
        offer q o (inl z) =
            record {
              what = now_stored x;
              is = ap stored_then z ∙ put-own made n (some (now_stored x));
              here = refl;
              yet = o.yet;
              live = ready-live;
              safe = λ _. (omega arith, refl);
              latest = latest o;
            }
        offer q o (inr z) = record {
          what = o.what;
          is = put_other made n (some (now_stored x)) q z ∙ o.is;
          here = o.here;
          yet = o.yet;
          live = o.live;
          safe = λ u. absurd (unsafe o u);
          latest = latest o;
        }

    -- it is a step: it is carried over
    pub kept : T (not (asked n)) → (c : Carry system g x.box x.replica x.frame x.command)
        → AtBox c.plain stored_then asked (suc count) x.box s' t
    kept done c = record {
      now = record { from = renew f.now; kept = a.now.kept; good = inl refl };
      stored = (
        x.replica,
        refl,
        record {
          from = from-self system (Sent c.plain) (box_in system c.plain i) x.replica (sym c.own);
          kept = ready-live.kept;
          good = inl refl;
        },
      );
      ready = λ k. of-put (Ready c.plain i s'.first k) made n (now_stored x) k (λ z e q. absurd (omega arith)) (λ _. ready k (le-or-lt k n));
      order = λ k. of-put (Order c.plain stored_then asked i s' k) made n (now_stored x) k (λ z e u q. absurd (omega arith))
          (λ _. of_map (made k) (λ y h e u q. follows k y (omega arith) (h e u (omega arith))) (a.order k));
      offer = λ u. offer t.step (a.offer u);
      first = omega arith;
    }
      where
        f : Follows g made i s.now n x
        f = of_some (Order g made asked i s n) (made n) x is (a.order n) refl done low

        renew : {v : Replica} {b d : List ℕ} → From system (Sent g) x.replica v b d
            → From system (Sent c.plain) (box_in system c.plain i) v b d
        renew {v} {b} {d} h = subst (λ u. From system (Sent c.plain) u v b d) (sym c.own) (from-within system c.sent h)

        ready : (k : ℕ) → (k ≤ n) ⊎ (n < k) → Of (Ready c.plain i s'.first k) (made k)
        ready k (inl h) = of_map (made k) (λ y _ e q. absurd (omega arith)) (a.ready k)
        ready k (inr h) =
            of-both (made k) (λ y l r e q. record { from = renew (r e); kept = (l e (omega arith)).kept; good = (l e (omega arith)).good })
            (a.ready k) (f.later k h)

        follows : (k : ℕ) (y : MadeHere) → n < k → Follows g made i s.now k y → Follows c.plain stored_then i s.now k y
        follows k y q f = record {
          now = from-within system c.sent f.now;
          later = λ l lt. of-put (λ z. z.box ≡ i → MadeFrom c.plain y z) made n (now_stored x) l (λ z e. absurd (omega arith))
              (λ _. of_map (made l) (λ z h e. from-within system c.sent (h e)) (f.later l lt));
        }

        -- what can be committed was made later, and comes of it
        offer : (q : ℕ) → Offered g made asked i s q → Offered c.plain stored_then asked i s' q
        offer q o = record {
          what = o.what;
          is = put_other made n (some (now_stored x)) q other ∙ o.is;
          here = o.here;
          yet = o.yet;
          live = record {
            from = renew (of_some (λ z. z.box ≡ i → MadeFrom g x z) (made q) o.what o.is (f.later q (up (le-or-lt q n))) o.here);
            kept = o.live.kept;
            good = o.live.good;
          };
          safe = λ u. absurd (unsafe o u);
          latest = latest o;
        }
          where
            other : q ≢ n
            other z = T_not (asked n) done (subst (λ k. T (asked k)) z o.yet)

            up : (q ≤ n) ⊎ (n < q) → n < q
            up (inl h) = let d = other in absurd (last o (omega arith))
            up (inr h) = h
