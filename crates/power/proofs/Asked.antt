-- Demand 3 with power cycles and events asked first holds of any implementation whose calls show the protocol's steps and whose returning
-- shows missed ticks. Beside the list stands a history of the base: a step is carried over to it, with all before it, once it is made and its
-- record is stored; a step that was asked for is made when it is committed. Leaving and returning carry nothing. Assumes nothing.
use mathlib.Core.Path.{◌≡◌, refl, sym, ap, ◌∙◌, subst}
use mathlib.Core.Logic.{◌⊎◌, inl, inr, ◌≢◌}
use mathlib.Core.Bool.{Bool, true, false, not, ◌&&◌, ◌||◌}
use mathlib.Core.Option.{Option, none, some, some-injective, none-ne-some}
use mathlib.Core.List.{List, [], ◌∷◌, ◌++◌, append_assoc, append-nil}
use Prim.Native.Nat.{ℕ, zero, suc, ◌+◌, ◌≤◌, ◌<◌}
use native.Mathlib.Omega.{arith}
use lib.ListN.{length, get_or, replicate}
use lib.Dec.{T, T_not, eqb, leb, eqb→eq, leb→le, nleb→lt}
use Rattle.lists.specs.Choice.{pick}
use Rattle.lists.proofs.Booleans.{eqb_no}
use Rattle.lists.proofs.Choice.{pick-ok}
use Rattle.scram.specs.Held.{Law, Tick}
use Rattle.scram.specs.History as Base
use Rattle.scram.specs.History.{Result, System, Issued, issuing, In, called}
use Rattle.scram.specs.Demand3 as BaseClaim
use Rattle.scram.specs.Demand3.{Decided, controller_command}
use Rattle.scram.proofs.Agreement as Agreement
use Rattle.tickets.specs.Tickets.{Tickets, is_spent, voided, after_ask, after_step, commits, after_commit}
use Rattle.tickets.proofs.Void.{Void, ask-step, ask-void, step-void, commit-pending, commit-void}
use Rattle.power.specs.Demand3 as Power
use Rattle.power.specs.Demand3.{Event, Store, FrameLeaves, CommandLeaves, Return, WithRows, Made, OneBox, Storage}
use Rattle.power.specs.Demand3.{put, leaving, issued_with, now_stored, record_only, stepped, storing, returned, frame_left, nothing, command_left}
use Rattle.power.specs.Demand3.{changing, row_of, made_at, record_of, keeping, recovered, returning}
use Rattle.power.specs.Asks.{Entry, Unasked, Ask, Commit, tickets_back, plainly, recorded_anew, committing, Answering, Reached, ok_at}
use Rattle.power.specs.Asks.{stepping, asking, unasked, step, steps, start, after, HandedFor, Demand3}
use Rattle.power.specs.Returns.{missed}
use Rattle.power.proofs.Paths.{Within, Call, Has, input_of, input-has, ran-called, row-called, gave, then, runs-rows, From}
use Rattle.power.proofs.Paths.{from-self, from-quiet, from_then, from-trans, Premises, Good, Keeps, input-good, keeps}
use Rattle.power.proofs.Plain.{pick_no, Plain, box_in, box-start, handed-row, Carry, carry}
use Rattle.power.proofs.Tables.{same_or_not, put-own, put_other, put_same, put-same-twice, put-before}
use Rattle.power.proofs.Tables.{Changed, as_it_was, put-changed, put-again}
use Rattle.power.proofs.Boxes.{Of, of_map, of-all, of-both, of_some, of-put, Still, Live, MadeLive, AtBox}
use Rattle.power.proofs.Boxes.{Offered, aged, elsewhere, Early, entered, committed, committed-stored, ready-live, kept-asked, kept}

-- what holds of each frame that left holds with one more
left-more : (P : List ℕ → Type 0) (l : List (List ℕ)) (o : List ℕ) → P [] → ((k : ℕ) → P (get_or l k [])) → P o → (k : ℕ)
    → P (get_or (l ++ (o ∷ [])) k [])
left-more P [] o n f x zero = x
left-more P [] o n f x (suc k) = n
left-more P (y ∷ l) o n f x zero = f zero
left-more P (y ∷ l) o n f x (suc k) = left-more P l o n (λ k. f (suc k)) x k

-- bytes that stand in a list, or none, and the same in a longer one
or-within : {A : Type 0} (b : List ℕ) (x : A) (s t : List A) → Within s t → (b ≡ []) ⊎ In x s → (b ≡ []) ⊎ In x t
or-within b x s t g (inl e) = inl e
or-within b x s t g (inr p) = inr (g x p)

-- a command that leaves was issued in the base's history
issuing-within : {Box : Type 0} (c : Box) (b : List ℕ) (l m : List (Issued Box)) → (b ≡ []) ⊎ In (record { bytes = b; box = c }) m → Within l m
    → Within (issuing c b l) m
issuing-within c [] l m h g = g
issuing-within c (b ∷ bs) l m (inl e) g = let z = ap length e in absurd (omega arith)
issuing-within {Box} c (b ∷ bs) l m (inr p) g = both
  where
    both : (d : Issued Box) → (d ≡ record { bytes = b ∷ bs; box = c }) ⊎ In d l → In d m
    both d (inl e) = rw e p
    both d (inr q) = g d q

-- a test holds, or does not
either : (b : Bool) → T b ⊎ T (not b)
either true = inl tt
either false = inr tt

-- nothing can be committed
void-still : (t t' : Tickets ℕ) → Void t' → Still t t'
void-still t t' n u = absurd (T_not t'.pending n u)

-- what can be committed at any place could be before, if that is so of place i
still : (f f' : ℕ → Tickets ℕ) (i : ℕ) (t : Tickets ℕ) → Changed f f' i t → Still (f i) t → (j : ℕ) → Still (f j) (f' j)
still f f' i t c h j = go (same_or_not j i)
  where
    go : (j ≡ i) ⊎ (j ≢ i) → Still (f j) (f' j)
    go (inl e) = rw e (subst (Still (f i)) (sym c.own) h)
    go (inr ne) = subst (Still (f j)) (sym (c.others j ne)) (λ u. (u, refl))

-- ---- what an ask does

-- what can be committed after an ask is its own step
its-step : (f : ℕ → Tickets ℕ) (i : ℕ) (t : Tickets ℕ) (ok : Bool) (n k : ℕ) → T (put f i (after_ask t ok n) i).pending
    → (put f i (after_ask t ok n) i).step < k → n < k
its-step f i t ok n k u lt =
    let e = put-own f i (after_ask t ok n) in
    let same = ask-step t ok n (subst (λ (z : Tickets ℕ). T z.pending) e u) in
    let own = ap (λ (z : Tickets ℕ). z.step) e in
    omega arith

module _ {State Readings Values : Type 0} (system : System State Readings Values) (law : Law State Readings Values) (storage : Storage system)
    (ok : Answering system) (w : Reached system law storage ok) (e : Base.Entry system.Handed system.Areas) where
  abbrev boxes : ℕ → OneBox system.Box storage.Record Readings
  boxes = w.plain.boxes

  abbrev made : ℕ → Option (Made system.Box Readings)
  made = w.plain.made

  -- "making no step": what there is of each box is as it was
  pub ask-stays : (j : ℕ) → (asking system law storage ok w e).plain.boxes j ≡ w.plain.boxes j
  ask-stays j =
      pick-ok (λ (z : Power.Reached system law storage). z.boxes j ≡ boxes j) _ _ _
      (λ _. put-same-twice boxes e.box j _ refl) (λ _. put_same boxes e.box j)

  -- "a record of the unstepped replica counts as made before the ask's": what can be committed then is the last that was made
  pub ask-last : T ((asking system law storage ok w e).tickets e.box).pending
      → (k : ℕ) → ((asking system law storage ok w e).tickets e.box).step < k → (asking system law storage ok w e).plain.made k ≡ w.plain.made k
  ask-last u k lt =
      let later = its-step w.tickets e.box _ _ _ k u lt in
      pick-ok (λ (z : Power.Reached system law storage). z.made k ≡ made k) _ _ _
      (λ _. put-before (put made _ _) _ _ k (omega arith) ∙ put-before made _ _ k (omega arith)) (λ _. put-before made _ _ k (omega arith))

module _ {State Readings Values : Type 0} (p : Premises State Readings Values) (ok : Answering p.system) where
  abbrev system : System State Readings Values
  system = p.system

  abbrev law : Law State Readings Values
  law = p.law

  abbrev storage : Storage system
  storage = p.storage

  abbrev Replica : Type 0
  Replica = WithRows system.Box Readings

  abbrev MadeHere : Type 0
  MadeHere = Made system.Box Readings

  abbrev BoxHere : Type 0
  BoxHere = OneBox system.Box storage.Record Readings

  abbrev W : Type 0
  W = Reached system law storage ok

  abbrev Sent : Plain system → List (List ℕ)
  Sent g = (Base.after system g).sent

  abbrev Written : Plain system → List (Issued system.Box)
  Written g = (Base.after system g).issued

  -- ---- what holds after each entry

  -- the command of what an entry made
  abbrev command_of : MadeHere → Issued system.Box
  command_of x = record { bytes = x.command; box = x.replica.box }

  -- what a step gave that is made, and whose record is stored, stands in the base's history
  abbrev Told : Plain system → MadeHere → Type 0
  Told g x = Has (Sent g) x.frame × Good p x.frame × ((x.command ≡ []) ⊎ In (command_of x) (Written g))

  -- a frame that left stands there too
  abbrev Left : Plain system → List ℕ → Type 0
  Left g b = Has (Sent g) b × Good p b

  record Beside (g : Plain system) (w : W) : Type 0 where
    at : (i : ℕ) → AtBox p g w.plain.made w.asked w.plain.count i (w.plain.boxes i) (w.tickets i)
    told : (n : ℕ) → Of (λ x. T (not (w.asked n)) → T x.stored → Told g x) (w.plain.made n)
    left : (k : ℕ) → Left g (get_or w.plain.left k [])
    issued : Within w.plain.issued (Written g)
    early : Early p w.plain.made w.plain.count

  -- there is such a history
  abbrev Inv : W → Type 0
  Inv w = (g : Plain system) × Beside g w

  early-more : (made : ℕ → Option MadeHere) (count : ℕ) → Early p made count → Early p made (suc count)
  early-more made count h m = of_map (made m) (λ x l. omega arith) (h m)

  -- ---- entries by what they change

  -- a frame leaves, or nothing happens; all that was made was asked for as before, and no other ticket can be committed
  pass : {g : Plain system} {w : W} → Beside g w → (f : List ℕ) → Left g f → (tickets : ℕ → Tickets ℕ) (asked : ℕ → Bool)
      → ((j : ℕ) → Still (w.tickets j) (tickets j)) → ((k : ℕ) → Of (λ x. asked k ≡ w.asked k) (w.plain.made k))
      → Beside g (record { plain = frame_left w.plain f; tickets = tickets; asked = asked })
  pass {g} {w} v f l tickets asked still same = record {
    at = λ i. aged p (v.at i) asked (tickets i) same (still i);
    told = λ n. of-both (w.plain.made n) (λ x e h u. h (subst (λ b. T (not b)) e u)) (same n) (v.told n);
    left = left-more (Left g) w.plain.left f (inl refl, inl refl) v.left l;
    issued = v.issued;
    early = early-more w.plain.made w.plain.count v.early;
  }

  -- neither tickets nor what was asked for change
  passing : {g : Plain system} {w : W} → Beside g w → (f : List ℕ) → Left g f → Beside g (plainly w (frame_left w.plain f))
  passing {g} {w} v f l = pass v f l w.tickets w.asked (λ j u. (u, refl)) (λ k. of-all (w.plain.made k) (λ x. refl))

  idle : {g : Plain system} {w : W} → Beside g w → Beside g (plainly w (nothing w.plain))
  idle v = passing v [] (inl refl, inl refl)

  -- calls of box i were carried over, or none
  record CarriedOver (g g' : Plain system) (i : ℕ) : Type 0 where
    boxes : (j : ℕ) → j ≢ i → box_in system g' j ≡ box_in system g j
    sent : Within (Sent g) (Sent g')
    written : Within (Written g) (Written g')

  none_over : (g : Plain system) (i : ℕ) → CarriedOver g g i
  none_over g i = record { boxes = λ j _. refl; sent = λ b q. q; written = λ b q. q }

  over : {g : Plain system} {i : ℕ} {v : Replica} {f c : List ℕ} (k : Carry system g i v f c) → CarriedOver g k.plain i
  over k = record { boxes = k.others; sent = k.sent; written = k.issued }

  -- something was made, stored or committed at box i
  enter : {g : Plain system} {w : W} → Beside g w → (i : ℕ) (s : BoxHere) (n : ℕ) (m : MadeHere) (tickets : ℕ → Tickets ℕ) (asked : ℕ → Bool)
      {t : Tickets ℕ} {b : Bool} → Changed w.tickets tickets i t → Changed w.asked asked n b → {g' : Plain system} → CarriedOver g g' i
      → Of (λ x. x.box ≡ i) (w.plain.made n) → m.box ≡ i → n < suc w.plain.count → (T (not b) → T m.stored → Told g' m)
      → AtBox p g' (put w.plain.made n (some m)) asked (suc w.plain.count) i s t
      → Beside g' (record { plain = changing w.plain i s n m; tickets = tickets; asked = asked })
  enter {g} {w} v i s n m tickets asked {t} {b} given was-asked {g'} c was here new told a = record {
    at = λ j. pick-ok (λ z. AtBox p g' made asked (suc w.plain.count) j z (tickets j)) (eqb j i) s (w.plain.boxes j)
        (λ z. rw (eqb→eq j i z) (subst (AtBox p g' made asked (suc w.plain.count) i s) (sym given.own) a)) (λ z. other j (eqb_no j i z));
    told = λ k. of-put (λ x. T (not (asked k)) → T x.stored → Told g' x) w.plain.made n m k
        (λ z u. told (subst (λ y. T (not y)) (ap asked z ∙ was-asked.own) u))
        (λ z. of_map (w.plain.made k) (λ x h u y. told_more x (h (subst (λ y. T (not y)) (was-asked.others k z) u) y)) (v.told k));
    left = left-more (Left g') w.plain.left [] (inl refl, inl refl) (λ k. (has_more (get_or w.plain.left k []) (v.left k).0, (v.left k).1))
        (inl refl, inl refl);
    issued = λ d q. c.written d (v.issued d q);
    early = λ k. of-put (λ x. k < suc w.plain.count) w.plain.made n m k (λ z. omega arith)
        (λ _. early-more w.plain.made w.plain.count v.early k);
  }
    where
      made : ℕ → Option MadeHere
      made = put w.plain.made n (some m)

      other : (j : ℕ) → j ≢ i → AtBox p g' made asked (suc w.plain.count) j (w.plain.boxes j) (tickets j)
      other j ne =
          subst (AtBox p g' made asked (suc w.plain.count) j (w.plain.boxes j)) (sym (given.others j ne))
          (elsewhere p (v.at j) g' (record { box = c.boxes j ne; sent = c.sent }) n m (λ e. ne (sym e ∙ here))
          (of_map (w.plain.made n) (λ x e z. ne (sym z ∙ e)) was) asked was-asked.others)

      has_more : (d : List ℕ) → Has (Sent g) d → Has (Sent g') d
      has_more d = or-within d d (Sent g) (Sent g') c.sent

      told_more : (x : MadeHere) → Told g x → Told g' x
      told_more x h = (has_more x.frame h.0, h.1, or-within x.command (command_of x) (Written g) (Written g') c.written h.2)

  -- something new is made, and nothing carried over
  enter-new : {g : Plain system} {w : W} → Beside g w → (i : ℕ) (s : BoxHere) (m : MadeHere) (tickets : ℕ → Tickets ℕ) (asked : ℕ → Bool)
      {t : Tickets ℕ} {b : Bool} → Changed w.tickets tickets i t → Changed w.asked asked w.plain.count b → m.box ≡ i → m.stored ≡ false
      → AtBox p g (put w.plain.made w.plain.count (some m)) asked (suc w.plain.count) i s t
      → Beside g (record { plain = changing w.plain i s w.plain.count m; tickets = tickets; asked = asked })
  enter-new {g} {w} v i s m tickets asked given was-asked here fresh a =
      enter v i s w.plain.count m tickets asked given was-asked (none_over g i)
      (of_map (w.plain.made w.plain.count) (λ x h. absurd (omega arith)) (v.early w.plain.count)) here (omega arith)
      (λ _ u. absurd (rw fresh at u)) a

  -- ---- an event at a box

  module _ {g : Plain system} {w : W} (v : Beside g w) (e : Base.Entry system.Handed system.Areas) where
    abbrev i : ℕ
    i = e.box

    abbrev s : BoxHere
    s = w.plain.boxes i

    abbrev t : Tickets ℕ
    t = w.tickets i

    abbrev r : Result system.Box
    r = called system s.now.box w.plain.left e.event e.areas

    abbrev m : MadeHere
    m = made_at system i s.now e.event r

    -- the event as a call
    abbrev x : Call system.Handed system.Areas
    x = record { input = input_of w.plain.left e.event; areas = e.areas }

    a : AtBox p g w.plain.made w.asked w.plain.count i s t
    a = v.at i

    abbrev given : Result system.Box
    given = gave system s.now x

    -- what is made is what the call gives
    made_then : (P : Replica → List ℕ → List ℕ → Type 0) → P (then system s.now x) given.frame given.command
        → P m.replica m.frame m.command
    made_then P h =
        subst (λ z. P (record { box = z.box; rows = s.now.rows ++ row_of system e.event z }) z.frame z.command)
        (sym (ran-called system s.now.box w.plain.left e.event e.areas))
        (subst (λ l. P (record { box = given.box; rows = s.now.rows ++ l }) given.frame given.command)
        (sym (row-called system w.plain.left e.event given)) h)

    made-from : (u : Replica) → From system (Sent g) u s.now [] [] → From system (Sent g) u m.replica m.frame m.command
    made-from u f =
        made_then (From system (Sent g) u) (from_then system f x (input-has (Sent g) w.plain.left (λ k. (v.left k).0) e.event))

    keeps-all : Keeps p i given
    keeps-all =
        keeps p i s.now.box a.now.kept x.input x.areas (input-good p w.plain.left (λ k. (v.left k).1) e.event)

    made-live : MadeLive p g i m
    made-live =
        made_then (Live p g i) (record {
          from = from_then system a.now.from x (input-has (Sent g) w.plain.left (λ k. (v.left k).0) e.event);
          kept = keeps-all.0;
          good = keeps-all.1;
        })

    -- whether its answer is ok
    abbrev ok_here : Bool
    ok_here = ok_at system law storage ok w e

    -- a step is made: no ticket can be committed then
    step-inv : Inv (stepping system law storage ok w e)
    unfolding Power.step
    step-inv = pick-ok Inv _ _ _ (λ u. (g, made-step u)) (λ _. (g, idle v))
      where
        t' : Tickets ℕ
        t' = after_step t ok_here

        made-step : T (ok_here || not t.pending)
            → Beside g (record { plain = Power.stepping system law storage w.plain e; tickets = put w.tickets i t'; asked = w.asked })
        made-step u =
            enter-new v i (stepped s m.replica) m (put w.tickets i t') w.asked (put-changed w.tickets i t')
            (as_it_was w.asked w.plain.count) refl refl
            (entered p a v.early (stepped s m.replica) m w.asked t' refl refl (omega arith) a.first (λ k _. refl)
            (record { from = from-quiet system made-live.from; kept = made-live.kept; good = inl refl }) made-live
            (inl (from-self system (Sent g) m.replica m.replica refl, step-void t ok_here u))
            (λ n. of_map (w.plain.made n) (λ y h q u l. let z = made-from y.replica (h q u l).now in (from-quiet system z, z)) (a.order n)))

    -- ---- an ask

    -- first the replica is recorded anew, as it is, and the earlier ticket is void
    abbrev anew : MadeHere
    anew = record_only i s.now

    abbrev w₁ : W
    w₁ = record { plain = recorded_anew w.plain i; tickets = put w.tickets i (voided t); asked = w.asked }

    at_anew : AtBox p g w₁.plain.made w.asked w₁.plain.count i s (voided t)
    at_anew =
        entered p a v.early s anew w.asked (voided t) refl refl (omega arith) a.first (λ k _. refl) a.now a.now
        (inl (from-self system (Sent g) s.now s.now refl, tt))
        (λ n. of_map (w.plain.made n) (λ y h q u l. let z = (h q u l).now in (z, z)) (a.order n))

    beside-anew : Beside g w₁
    beside-anew =
        enter-new v i s anew (put w.tickets i (voided t)) w.asked (put-changed w.tickets i (voided t)) (as_it_was w.asked w.plain.count)
        refl refl at_anew

    -- then what was asked for is made, if it can be committed; the box's replica is as it was
    ask-inv : Inv (asking system law storage ok w e)
    ask-inv =
        pick-ok (λ z. Inv (record { plain = z; tickets = put w.tickets i t'; asked = put w.asked n b })) b _ _ (λ u. (g, offered u))
        (λ u. (g, not-offered u))
      where
        n : ℕ
        n = w₁.plain.count

        b : Bool
        b = ok_here && not (is_spent t)

        t' : Tickets ℕ
        t' = after_ask t ok_here n

        given-anew : Changed (put w.tickets i (voided t)) (put w.tickets i t') i t'
        given-anew = put-again w.tickets i (voided t) t'

        offered : T b → Beside g (record { plain = changing w₁.plain i s n m; tickets = put w.tickets i t'; asked = put w.asked n b })
        offered u =
            enter-new beside-anew i s m (put w.tickets i t') (put w.asked n b) given-anew (put-changed w.asked n b) refl refl
            (entered p at_anew beside-anew.early s m (put w.asked n b) t' refl refl (omega arith) at_anew.first (put_other w.asked n b)
            a.now made-live
            (inr (subst T (sym (put-own w.asked n b)) u, ask-step t ok_here n, refl))
            (λ k. of_map (w₁.plain.made k) (λ y h q u l. let z = (h q u l).now in (z, made-from y.replica z)) (at_anew.order k)))

        not-offered : T (not b) → Beside g (record { plain = nothing w₁.plain; tickets = put w.tickets i t'; asked = put w.asked n b })
        not-offered u =
            pass beside-anew [] (inl refl, inl refl) (put w.tickets i t') (put w.asked n b)
            (still (put w.tickets i (voided t)) (put w.tickets i t') i t' given-anew
            (void-still (put w.tickets i (voided t) i) t' (ask-void t ok_here n u)))
            (λ k. of_map (w₁.plain.made k) (λ _ l. put_other w.asked n b k (λ z. absurd (omega arith))) (beside-anew.early k))

  -- ---- a commit

  module _ {g : Plain system} {w : W} (v : Beside g w) (i ticket : ℕ) (held : T (commits (w.tickets i) ticket)) where
    o : Offered p g w.plain.made w.asked i (w.plain.boxes i) (w.tickets i).step
    o = (v.at i).offer (commit-pending (w.tickets i) ticket held)

    -- what was asked for is a step now; if its record is stored, it is carried over
    commit-made : Inv (committing w i ticket (w.tickets i).step (some o.what))
    commit-made = go (either x.stored)
      where
        x : MadeHere
        x = o.what

        t : Tickets ℕ
        t = w.tickets i

        n : ℕ
        n = t.step

        t' : Tickets ℕ
        t' = after_commit t ticket

        was : Of (λ y. y.box ≡ i) (w.plain.made n)
        was = subst (Of (λ y. y.box ≡ i)) (sym o.is) o.here

        soon : n < suc w.plain.count
        soon = let h = of_some (λ y. n < w.plain.count) (w.plain.made n) x o.is (v.early n) in omega arith

        go : T x.stored ⊎ T (not x.stored) → Inv (committing w i ticket n (some x))
        go (inl safe) =
            let k = carry system g i x.replica x.frame x.command o.live.from in (
              k.plain,
              enter v i (stepped (w.plain.boxes i) x.replica) n x (put w.tickets i t') (put w.asked n false) (put-changed w.tickets i t')
                  (put-changed w.asked n false) (over k) was o.here soon (λ _ _. (k.frame, o.live.good, k.command))
                  (committed-stored p (v.at i) n o t' (commit-void t ticket held) safe k),
            )
        go (inr yet) = (
          g,
          enter v i (stepped (w.plain.boxes i) x.replica) n x (put w.tickets i t') (put w.asked n false) (put-changed w.tickets i t')
              (put-changed w.asked n false) (none_over g i) was o.here soon (λ _ u. absurd (T_not x.stored yet u))
              (committed p (v.at i) n o t' (commit-void t ticket held)),
        )

    commit-inv : Inv (committing w i ticket (w.tickets i).step (w.plain.made (w.tickets i).step))
    commit-inv = subst (λ z. Inv (committing w i ticket (w.tickets i).step z)) (sym o.is) commit-made

  -- ---- a record is stored: if it is a step's, that is carried over

  store-inv : {g : Plain system} {w : W} → Beside g w → (n : ℕ) (o : Option MadeHere) → w.plain.made n ≡ o
      → Inv (plainly w (keeping system law storage w.plain n o))
  store-inv {g} v n none is = (g, idle v)
  store-inv {g} {w} v n (some x) is =
      pick-ok (λ z. Inv (plainly w z)) (leb s.first n) _ _ (λ t. go (leb→le s.first n t) (either (w.asked n))) (λ t. (g, idle v))
    where
      i : ℕ
      i = x.box

      s : BoxHere
      s = w.plain.boxes i

      s' : BoxHere
      s' = storing s n (record_of system law storage x.replica)

      soon : n < w.plain.count
      soon = of_some (λ y. n < w.plain.count) (w.plain.made n) x is (v.early n)

      was : Of (λ y. y.box ≡ i) (w.plain.made n)
      was = subst (Of (λ y. y.box ≡ i)) (sym is) refl

      go : s.first ≤ n → T (w.asked n) ⊎ T (not (w.asked n)) → Inv (plainly w (changing w.plain i s' n (now_stored x)))
      go low (inl yet) = (
        g,
        enter v i s' n (now_stored x) w.tickets w.asked (as_it_was w.tickets i) (as_it_was w.asked n) (none_over g i) was refl
            (omega (arith, soon)) (λ u _. absurd (T_not (w.asked n) u yet))
            (kept-asked p g w.plain.made w.asked w.plain.count n x s (w.tickets i) (v.at i) is low soon yet),
      )
      go low (inr done) =
          let l = ready-live p g w.plain.made w.asked w.plain.count n x s (w.tickets i) (v.at i) is low soon in
          let k = carry system g i x.replica x.frame x.command l.from in (
            k.plain,
            enter v i s' n (now_stored x) w.tickets w.asked (as_it_was w.tickets i) (as_it_was w.asked n) (over k) was refl
                (omega (arith, soon)) (λ _ _. (k.frame, l.good, k.command))
                (kept p g w.plain.made w.asked w.plain.count n x s (w.tickets i) (v.at i) is low soon done k),
          )

  -- ---- what leaves: of steps that are made

  frame-leaves : (g : Plain system) (o : Option MadeHere) → Of (λ x. T x.stored → Told g x) o → Left g (leaving (λ m. m.frame) o)
  frame-leaves g none h = (inl refl, inl refl)
  frame-leaves g (some x) h = pick-ok (Left g) _ _ _ (λ t. ((h t).0, (h t).1)) (λ t. (inl refl, inl refl))

  command-leaves : (l : List (Issued system.Box)) (g : Plain system) (o : Option MadeHere) → Of (λ x. T x.stored → Told g x) o
      → Within l (Written g) → Within (issued_with l o) (Written g)
  command-leaves l g none h q = q
  command-leaves l g (some x) h q =
      issuing-within x.replica.box (leaving (λ m. m.command) (some x)) l (Written g)
      (pick-ok (λ b. (b ≡ []) ⊎ In (record { bytes = b; box = x.replica.box }) (Written g)) _ _ _
      (λ t. (h t).2) (λ t. inl refl)) q

  module _ {g : Plain system} {w : W} (v : Beside g w) (n : ℕ) where
    told : T (not (w.asked n)) → Of (λ x. T x.stored → Told g x) (w.plain.made n)
    told u = of_map (w.plain.made n) (λ x h. h u) (v.told n)

    frame-inv : Inv (unasked system law storage ok w (FrameLeaves n))
    unfolding Power.step
    frame-inv =
        pick-ok (λ z. Inv (plainly w z)) _ _ _ (λ _. (g, idle v))
        (λ u. (g, passing v (leaving (λ m. m.frame) (w.plain.made n)) (frame-leaves g (w.plain.made n) (told u))))

    command-inv : Inv (unasked system law storage ok w (CommandLeaves n))
    unfolding Power.step
    command-inv = pick-ok (λ z. Inv (plainly w z)) _ _ _ (λ _. (g, idle v)) (λ u. (g, leaves (idle v) u))
      where
        leaves : Beside g (plainly w (nothing w.plain)) → T (not (w.asked n))
            → Beside g (plainly w (command_left w.plain (issued_with w.plain.issued (w.plain.made n))))
        leaves q u = record {
          at = q.at;
          told = q.told;
          left = q.left;
          issued = command-leaves w.plain.issued g (w.plain.made n) (told u) q.issued;
          early = q.early;
        }

  -- ---- a return

  abbrev missed_ticks : ℕ → system.Box → Option system.Box
  missed_ticks = missed system p.returns.absent p.returns.areas

  -- a tick with no reading
  abbrev tick : Call system.Handed system.Areas
  tick = record { input = Tick p.returns.absent; areas = p.returns.areas }

  -- so many of them add a row with no reading each
  abbrev with_missed : Replica → ℕ → system.Box → Replica
  with_missed v k c = record { box = c; rows = v.rows ++ replicate k law.none }

  missed-from : (s : List (List ℕ)) (i k : ℕ) (v : Replica) (c : system.Box) → p.Kept i v.box → missed_ticks k v.box ≡ some c
      → From system s v (with_missed v k c) [] [] × p.Kept i c
  unfolding missed
  missed-from s i zero v c h e =
      let z = some-injective v.box c e in
      (from-self system s v (record { box = c; rows = v.rows ++ [] }) (λ j. record { box = sym z j; rows = append-nil v.rows j }), rw (← z) h)
  missed-from s i (suc k) v c h e =
      pick-ok (λ o. o ≡ some c → From system s v (with_missed v (suc k) c) [] [] × p.Kept i c)
      (gave system v tick).refused none (missed_ticks k (gave system v tick).box) (λ t z. absurd (none-ne-some c z))
      (λ t z. go t (missed-from s i k (then system v tick) c (keeps p i v.box h tick.input tick.areas tt).0 z)) e
    where
      row : T (not (gave system v tick).refused) → row_of system tick.input (gave system v tick) ≡ law.none ∷ []
      row t = pick_no (gave system v tick).refused [] (system.row p.returns.absent ∷ []) t ∙ ap (λ y. y ∷ []) p.returns.no_reading

      go : T (not (gave system v tick).refused)
          → From system s (then system v tick) (with_missed (then system v tick) k c) [] [] × p.Kept i c
          → From system s v (with_missed v (suc k) c) [] [] × p.Kept i c
      go t (f, q) = (
        subst (λ l. From system s v (record { box = c; rows = l }) [] [])
            (ap (λ l. (v.rows ++ l) ++ replicate k law.none) (row t) ∙ append_assoc v.rows (law.none ∷ []) (replicate k law.none))
            (from-trans system (from_then system (from-self system s v v refl) tick tt) f),
        q,
      )

  -- the box's tickets count anew
  return-inv : {g : Plain system} {w : W} → Beside g w → (i k : ℕ) (o : Option system.Box) → storage.back (w.plain.boxes i).stored.box k ≡ o
      → Inv (record {
        plain = returning system law storage w.plain i k o;
        tickets = put w.tickets i (tickets_back (w.tickets i) o);
        asked = w.asked;
      })
  return-inv {g} {w} v i k none is = (
    g,
    pass v [] (inl refl, inl refl) (put w.tickets i (w.tickets i)) w.asked
        (still w.tickets (put w.tickets i (w.tickets i)) i (w.tickets i) (put-changed w.tickets i (w.tickets i)) (λ u. (u, refl)))
        (λ n. of-all (w.plain.made n) (λ x. refl)),
  )
  return-inv {g} {w} v i k (some c) is = (g, go (v.at i).stored)
    where
      s : BoxHere
      s = w.plain.boxes i

      new : Replica
      new = recovered system law storage s k c

      t' : Tickets ℕ
      t' = tickets_back (w.tickets i) (some c)

      go : (u : Replica) × (s.stored ≡ record_of system law storage u) × Live p g i u [] []
          → Beside g (record { plain = returning system law storage w.plain i k (some c); tickets = put w.tickets i t'; asked = w.asked })
      go (u, e, l) =
          let z = (v.at i).first in
          enter-new v i (returned s w.plain.count new) (record_only i new) (put w.tickets i t') w.asked (put-changed w.tickets i t')
          (as_it_was w.asked w.plain.count) refl refl
          (entered p (v.at i) v.early (returned s w.plain.count new) (record_only i new) w.asked t' refl refl (omega arith) (omega arith)
          (λ k _. refl) live live (inl (from-self system (Sent g) new new refl, tt))
          (λ n. of_map (w.plain.made n) (λ y h q u z. absurd (omega arith)) (v.early n)))
        where
          cases : (storage.back (storage.recorded u.box) k ≡ none) ⊎ (storage.back (storage.recorded u.box) k ≡ missed_ticks k u.box)
              → storage.back (storage.recorded u.box) k ≡ some c → missed_ticks k u.box ≡ some c
          cases (inl z) here = absurd (none-ne-some c (sym z ∙ here))
          cases (inr z) here = sym z ∙ here

          ticked : missed_ticks k u.box ≡ some c
          ticked = cases (p.returns.returns i u.box k l.kept) (ap (λ z. storage.back z.box k) (sym e) ∙ is)

          -- the rows are the record's
          same : with_missed u k c ≡ record { box = c; rows = s.stored.rows ++ replicate k law.none }
          same = ap (λ z. record { box = c; rows = z.rows ++ replicate k law.none }) (sym e)

          live : Live p g i new [] []
          live =
              let (f, q) = missed-from (Sent g) i k u c l.kept ticked in record {
                from = subst (λ z. From system (Sent g) (box_in system g i) z [] []) same (from-trans system l.from f);
                kept = q;
                good = inl refl;
              }

  -- ---- the whole list

  unasked-inv : {g : Plain system} {w : W} → Beside g w → (e : Power.Entry system.Handed system.Areas) → Inv (unasked system law storage ok w e)
  unfolding Power.step
  unasked-inv v (Event e) = step-inv v e
  unasked-inv {g} {w} v (Store n) = store-inv v n (w.plain.made n) refl
  unasked-inv v (FrameLeaves n) = frame-inv v n
  unasked-inv v (CommandLeaves n) = command-inv v n
  unasked-inv {g} {w} v (Return i k) = return-inv v i k (storage.back (w.plain.boxes i).stored.box k) refl

  entry-inv : {g : Plain system} {w : W} → Beside g w → (e : Entry system.Handed system.Areas) → Inv (step system law storage ok w e)
  unfolding step
  entry-inv v (Unasked e) = unasked-inv v e
  entry-inv v (Ask e) = ask-inv v e
  entry-inv {g} {w} v (Commit i ticket) =
      pick-ok Inv (commits (w.tickets i) ticket) _ _ (λ held. commit-inv v i ticket held) (λ _. (g, idle v))

  steps-inv : (w : W) → Inv w → (h : List (Entry system.Handed system.Areas)) → Inv (steps system law storage ok w h)
  unfolding steps
  steps-inv w v [] = v
  steps-inv w v (e ∷ h) = steps-inv (step system law storage ok w e) (entry-inv v.1 e) h

  start-inv : Beside [] (start system law storage ok)
  start-inv = record {
    at = λ i. record {
      now = fresh i;
      stored = (record { box = system.fresh i; rows = [] }, refl, fresh i);
      ready = λ m. tt;
      order = λ m. tt;
      offer = λ u. absurd u;
      first = omega arith;
    };
    told = λ n. tt;
    left = λ k. (inl refl, inl refl);
    issued = λ b q. absurd q;
    early = λ m. tt;
  }
    where
      fresh : (i : ℕ) → Live p [] i (record { box = system.fresh i; rows = [] }) [] []
      fresh i = record {
        from = from-self system (Sent []) (box_in system [] i) (record { box = system.fresh i; rows = [] }) (sym (box-start system i));
        kept = p.shown.fresh_kept i;
        good = inl refl;
      }

  after-inv : (h : List (Entry system.Handed system.Areas)) → Inv (after system law storage ok h)
  unfolding after
  after-inv h = steps-inv (start system law storage ok) ([], start-inv) h

  -- ---- the last period of a command that left

  abbrev period_of : Issued system.Box → ℕ
  period_of c = system.command_period c.bytes

  abbrev latest : List (Issued system.Box) → ℕ
  latest [] = 0
  latest (c ∷ l) = pick (leb (period_of c) (latest l)) (latest l) (period_of c)

  latest-most : (l : List (Issued system.Box)) (c : Issued system.Box) → In c l → period_of c ≤ latest l
  latest-most [] c q = absurd q
  latest-most (d ∷ l) c (inl e) =
      let a = ap period_of e in
      pick-ok (λ n. period_of c ≤ n) (leb (period_of d) (latest l)) (latest l) (period_of d)
      (λ t. let b = leb→le (period_of d) (latest l) t in omega arith) (λ t. omega arith)
  latest-most (d ∷ l) c (inr q) =
      let h = latest-most l c q in
      pick-ok (λ n. period_of c ≤ n) (leb (period_of d) (latest l)) (latest l) (period_of d) (λ t. h)
      (λ t. let a = nleb→lt (period_of d) (latest l) t in omega arith)

  latest-least : (l : List (Issued system.Box)) (n : ℕ) → ((c : Issued system.Box) → In c l → period_of c ≤ n) → latest l ≤ n
  latest-least [] n h = omega arith
  latest-least (d ∷ l) n h =
      pick-ok (λ m. m ≤ n) (leb (period_of d) (latest l)) (latest l) (period_of d) (λ t. latest-least l n (λ c q. h c (inr q))) (λ t. h d (inl refl))

  -- there is none, or it is that of a command
  abbrev Is : List (Issued system.Box) → ℕ → Type 0
  Is l n = (n ≡ 0) ⊎ ((c : Issued system.Box) × In c l × (period_of c ≡ n))

  latest-is : (l : List (Issued system.Box)) → Is l (latest l)
  latest-is [] = inl refl
  latest-is (d ∷ l) =
      pick-ok (Is (d ∷ l)) (leb (period_of d) (latest l)) (latest l) (period_of d) (λ t. up (latest-is l)) (λ t. inr (d, inl refl, refl))
    where
      up : Is l (latest l) → Is (d ∷ l) (latest l)
      up (inl e) = inl e
      up (inr (c, q, e)) = inr (c, inr q, e)

  -- ---- what the calls keep

  -- it holds of each box's replica
  pub now-kept : (h : List (Entry system.Handed system.Areas)) (i : ℕ)
      → p.Kept i ((after system law storage ok h).plain.boxes i).now.box
  now-kept h i = ((after-inv h).1.at i).now.kept

  -- and of the one whose record was stored last
  pub stored-kept : (h : List (Entry system.Handed system.Areas)) (i : ℕ)
      → (c : system.Box) × (((after system law storage ok h).plain.boxes i).stored.box ≡ storage.recorded c) × p.Kept i c
  stored-kept h i =
      let (v, e, l) = ((after-inv h).1.at i).stored in
      (v.box, ap (λ (r : WithRows storage.Record Readings). r.box) e, l.kept)

  -- ---- demand 3

  -- DEMAND 3 WITH POWER CYCLES AND EVENTS ASKED FIRST: of any list, for a + b > N. It is the base's claim of the history beside the list, cut to
  -- the commands that left. The rows of that history stand behind the boxes of this one.
  pub demand-3 : p.group.size < p.group.to_decide + p.group.to_propose → (h : List (Entry system.Handed system.Areas))
      → Demand3 system law storage ok h
  demand-3 quorums h = record {
    last = latest left;
    bounded = let z = least in let y = base.bounded in omega arith;
    row = base.row;
    handed = λ k q l. handed k (base.handed k q (let z = least in omega arith));
    decided = λ c q. let d = base.decided c (v.issued c q) in record {
      period = d.period;
      from1 = d.from1;
      most = let a = latest-most left c q in let b = d.written in omega arith;
      written = d.written;
      held = d.held;
      state = d.state;
      bytes = d.bytes;
    };
    is_last = latest-is left;
  }
    where
      g : Plain system
      g = (after-inv h).0

      v : Beside g (after system law storage ok h)
      v = (after-inv h).1

      left : List (Issued system.Box)
      left = (after system law storage ok h).plain.issued

      base : BaseClaim.Demand3 system law g
      base = Agreement.demand-3 system p.Kept p.Carried law p.group p.shown quorums g

      least : latest left ≤ base.last
      least = latest-least left base.last (λ c q. let d = base.decided c (v.issued c q) in let a = d.most in let b = d.written in omega arith)

      handed : (k : ℕ) {y : Readings} → BaseClaim.HandedFor system g k y → HandedFor system law storage ok h k y
      handed k {y} d =
          let (before, later, e, n) = handed-row system g k y d in
          let f = (v.at d.box).now.from in
          let (more, z) = runs-rows system (box_in system g d.box) f.path in record {
            box = d.box;
            before = before;
            later = later ++ more;
            whole = ap (λ u. u.rows) f.same ∙ z ∙ ap (λ l. l ++ more) e ∙ append_assoc before (y ∷ later) more;
            kth = n;
          }

-- commands of one period, which their bytes have, are alike to the last byte where they follow one choice of rows
pub decided-alike : {State Readings Values : Type 0} (system : System State Readings Values) (law : Law State Readings Values) (last : ℕ)
    (row : ℕ → Readings) (c d : Issued system.Box) → Decided system law last row c → Decided system law last row d
    → system.command_period c.bytes ≡ system.command_period d.bytes → c.bytes ≡ d.bytes
decided-alike system law last row c d a b e =
    let k : a.period ≡ b.period = sym a.written ∙ e ∙ b.written in
    a.bytes ∙ ap (λ n. system.command_bytes (record { period = n; values = controller_command law row n })) k ∙ sym b.bytes

-- all commands of one period that left, which their bytes have, are alike to the last byte
pub commands-alike : {State Readings Values : Type 0} (system : System State Readings Values) (law : Law State Readings Values)
    (storage : Storage system) (ok : Answering system) (h : List (Entry system.Handed system.Areas)) → Demand3 system law storage ok h
    → (c d : Issued system.Box) → In c (after system law storage ok h).plain.issued → In d (after system law storage ok h).plain.issued
    → system.command_period c.bytes ≡ system.command_period d.bytes → c.bytes ≡ d.bytes
commands-alike system law storage ok h run c d q r e =
    decided-alike system law run.last run.row c d (run.decided c q) (run.decided d r) e
