-- What holds after every list of entries, for an implementation whose calls show the protocol's steps: all replicas, frames and commands
-- are tied to the facts. Assumes nothing.
use mathlib.Core.Path.{◌≡◌, refl, sym, ap, ◌∙◌, subst}
use mathlib.Core.Logic.{◌⊎◌, inl, inr}
use mathlib.Core.Bool.{Bool, true, false, not, ◌&&◌, false≢true}
use mathlib.Core.Option.{Option, none, some}
use mathlib.Core.List.{List, [], ◌∷◌, ◌++◌, append_assoc, append-nil}
use Prim.Native.Nat.{ℕ, zero, suc, ◌+◌, ◌≤◌}
use native.Mathlib.Omega.{arith}
use lib.ListN.{length, get_or}
use lib.Dec.{T, eqb, eqb→eq}
use Rattle.lists.specs.Choice.{pick}
use Rattle.lists.proofs.Choice.{pick-ok, pick-false}
use Rattle.lists.proofs.Booleans.{eqb_no}
use Rattle.scram.specs.Held.{Law, Group, Held, Message, Command, Input, Tick, Arrival, GiveUp}
use Rattle.scram.specs.Events.{largest, command_of}
use Rattle.scram.specs.History.{Result, System, Entry, Issued, Situation, issuing, ticks_on, In, delivered, called, step, steps, after}
use Rattle.scram.specs.Shown.{is_refused, Still, in_bytes, outcome, Arrives, Sent, Commanded, Does, Shown}
use Rattle.scram.proofs.Facts.{Facts, Consistent}
use Rattle.scram.proofs.Growth.{Among, GrownAt, grown-refl}
use Rattle.scram.proofs.Periods.{tick-counted, give_up-stays, arrive-stays}
use Rattle.scram.proofs.Ties.{Tied, Tells, SentTells, DecisionTells, IssuedTells, Keeps, tells-kept, decision-kept, tied-kept}
use Rattle.scram.proofs.Steps.{tick-keeps, give_up-keeps, arrive-keeps}

-- ---- lists of entries

sent-more {ℓ} : (P : List ℕ → Type ℓ) (l : List (List ℕ)) (o : List ℕ) → P [] → ((k : ℕ) → P (get_or l k [])) → P o
    → (k : ℕ) → P (get_or (l ++ (o ∷ [])) k [])
sent-more P [] o n f x zero = x
sent-more P [] o n f x (suc k) = n
sent-more P (y ∷ l) o n f x zero = f zero
sent-more P (y ∷ l) o n f x (suc k) = sent-more P l o n (λ k. f (suc k)) x k

module _ {State Readings Values : Type 0} (system : System State Readings Values) where
  steps-more : (w : Situation system.Box) (h : List (Entry system.Handed system.Areas)) (e : Entry system.Handed system.Areas)
      → steps system w (h ++ (e ∷ [])) ≡ step system (steps system w h) e
  unfolding steps
  steps-more w [] e = refl
  steps-more w (x ∷ h) e = steps-more (step system w x) h e

  after_more : (h : List (Entry system.Handed system.Areas)) (e : Entry system.Handed system.Areas)
      → after system (h ++ (e ∷ [])) ≡ step system (after system h) e
  unfolding after
  after_more h e = steps-more (record { box = system.fresh; sent = []; issued = []; ticks = λ j. 0 }) h e

-- ---- which entries count as ticks

-- a refused input does not count
refused-no-tick : {Handed Arriving : Type 0} (e : Input Handed Arriving) → ticks_on e true ≡ false
refused-no-tick (Tick y) = refl
refused-no-tick (Arrival x) = refl
refused-no-tick GiveUp = refl

at-box : (b c : Bool) → T b → ◌≡◌ {A = ℕ} (pick (b && c) 1 0) (pick c 1 0)
at-box true c t = refl
at-box false c t = absurd t

at-another : (b c : Bool) → T (not b) → ◌≡◌ {A = ℕ} (pick (b && c) 1 0) 0
at-another true c t = absurd t
at-another false c t = pick-false false 1 0 refl

module _ {State Readings Values : Type 0} (system : System State Readings Values) (Kept : ℕ → system.Box → Type 0)
    (Carried : Message State Readings → Type 0) (law : Law State Readings Values) (group : Group) (shown : Shown system Kept Carried law group)
    (fed : ℕ → Readings → Type 0) where
  -- ---- the protocol's step for an input

  -- an arriving message tells what the facts bear out
  abbrev Brings : Facts Readings → Input system.Handed (Message State Readings) → Type 0
  Brings f (Tick y) = Unit {0}
  Brings f (Arrival m) = Tells law group fed f m.kind m
  Brings f GiveUp = Unit {0}

  -- a tick of period k that is not refused feeds its row, where the period is not above the largest
  abbrev Feeds : {Arriving : Type 0} → Input system.Handed Arriving → ℕ → Bool → Type 0
  Feeds (Tick y) k refused = refused ≡ false → k ≤ largest → fed k (system.row y)
  Feeds (Arrival x) k refused = Unit {0}
  Feeds GiveUp k refused = Unit {0}

  outcome-keeps : (f : Facts Readings) (i : ℕ) (s : Held State Readings) (e : Input system.Handed (Message State Readings)) → Consistent f group fed
      → Tied law group fed f i s → Brings f e → Feeds e (suc s.period) (is_refused (outcome system law group i s e).answer)
      → Keeps law group fed f i (outcome system law group i s e)
  outcome-keeps f i s (Tick y) ok t b h = tick-keeps law group fed f i s (system.beyond y) (system.row y) ok t h
  outcome-keeps f i s (Arrival m) ok t b h = arrive-keeps law group fed f i s ok t m b
  outcome-keeps f i s GiveUp ok t b h = give_up-keeps law group fed f i s ok t

  outcome-period : (i : ℕ) (s : Held State Readings) (e : Input system.Handed (Message State Readings))
      → (outcome system law group i s e).held.period ≡ s.period + pick (ticks_on e (is_refused (outcome system law group i s e).answer)) 1 0
  unfolding pick
  outcome-period i s (Tick y) = (tick-counted law group i s (system.beyond y) (system.row y)).period
  outcome-period i s (Arrival m) = let e = (arrive-stays law group i s m).period in omega arith
  outcome-period i s GiveUp = let e = (give_up-stays law group i s).period in omega arith

  -- ---- one call

  -- bytes sent: none, or those of a message that tells what the facts bear out
  abbrev Frames : Facts Readings → List ℕ → Type 0
  Frames f b = (b ≡ []) ⊎ ((m : Message State Readings) × (b ≡ system.frame_bytes m) × Carried m × Tells law group fed f m.kind m)

  -- a command written: that of the replica given back with it, which decided
  pub record Told (f : Facts Readings) (x : Issued system.Box) : Type 0 where
    pub bytes : x.bytes ≡ system.command_bytes (command_of law (system.held x.box).period (system.held x.box).estimate)
    pub decision : DecisionTells law group fed f (system.held x.box)

  -- after a call at box i with replica c, which took in n ticks
  record Called (f : Facts Readings) (i : ℕ) (c : system.Box) (n : ℕ) (r : Result system.Box) : Type 1 where
    facts : Facts Readings
    grown : GrownAt group.coordinator i f facts
    consistent : Consistent facts group fed
    kept : Kept i r.box
    tied : Tied law group fed facts i (system.held r.box)
    frame : Frames facts r.frame
    command : (r.command ≡ []) ⊎ Told facts (record { bytes = r.command; box = r.box })
    period : (system.held r.box).period ≡ (system.held c).period + n

  still-called : (f : Facts Readings) (i : ℕ) (c : system.Box) (n : ℕ) (r : Result system.Box) → Consistent f group fed → Kept i c
      → Tied law group fed f i (system.held c) → r.box ≡ c → r.frame ≡ [] → r.command ≡ [] → n ≡ 0 → Called f i c n r
  still-called f i c n r ok k t e a b z = record {
    facts = f;
    grown = grown-refl f;
    consistent = ok;
    kept = rw e k;
    tied = rw e t;
    frame = inl a;
    command = inl b;
    period = ap (λ x. (system.held x).period) e ∙ omega arith;
  }

  shown-called : (f : Facts Readings) (i : ℕ) (c : system.Box) (e : Input system.Handed (Message State Readings)) (a : system.Areas)
      → Consistent f group fed → Kept i c → Tied law group fed f i (system.held c) → Arrives system Carried e → Brings f e
      → Feeds e (suc (system.held c).period) (system.call c (in_bytes system e) a).refused
      → Called f i c (pick (ticks_on e (system.call c (in_bytes system e) a).refused) 1 0) (system.call c (in_bytes system e) a)
  shown-called f i c e a ok k t x b h = go (shown.calls i c e a k x)
    where
      s : Held State Readings
      s = system.held c

      r : Result system.Box
      r = system.call c (in_bytes system e) a

      frames : (g : Facts Readings) (m : Option (Message State Readings)) → SentTells law group fed g m → Sent system Carried m r.frame
          → Frames g r.frame
      frames g none t y = inl y
      frames g (some m) t y = inr (m, y.0, y.1, t)

      commands : (g : Facts Readings) (m : Option (Command Values)) → IssuedTells law group fed g (system.held r.box) m
          → Commanded system m r.command → (r.command ≡ []) ⊎ Told g (record { bytes = r.command; box = r.box })
      commands g none t y = inl y
      commands g (some m) t y = inr (record { bytes = y ∙ ap system.command_bytes t.0; decision = t.1 })

      does : (q : Does system Kept Carried i (outcome system law group i s e) r) → Keeps law group fed f i (outcome system law group i s e)
          → Called f i c (pick (ticks_on e r.refused) 1 0) r
      does q p = record {
        facts = p.facts;
        grown = p.grown;
        consistent = p.consistent;
        kept = q.kept;
        tied = rw q.held p.tied;
        frame = frames p.facts (outcome system law group i s e).sent p.sent q.frame;
        command = commands p.facts (outcome system law group i s e).command (rw q.held p.issued) q.command;
        period = ap (λ y. y.period) q.held ∙ outcome-period i s e ∙ ap (λ z. s.period + pick (ticks_on e z) 1 0) (sym q.refused);
      }

      go : Does system Kept Carried i (outcome system law group i s e) r ⊎ Still c r → Called f i c (pick (ticks_on e r.refused) 1 0) r
      go (inl q) = does q (outcome-keeps f i s e ok t b (subst (λ z. Feeds e (suc s.period) z) q.refused h))
      go (inr q) =
          still-called f i c (pick (ticks_on e r.refused) 1 0) r ok k t q.box q.frame q.command
          (pick-false (ticks_on e r.refused) 1 0 (ap (λ z. ticks_on e z) q.refused ∙ refused-no-tick e))

  delivered-called : (f : Facts Readings) (i : ℕ) (c : system.Box) (b : List ℕ) (a : system.Areas) → Consistent f group fed → Kept i c
      → Tied law group fed f i (system.held c) → Frames f b → Called f i c (pick false 1 0) (delivered system c b a)
  delivered-called f i c [] a ok k t x =
      still-called f i c (pick false 1 0) (record { box = c; refused = false; frame = []; command = [] }) ok k t refl refl refl (pick-false false 1 0 refl)
  delivered-called f i c (b ∷ bs) a ok k t (inl x) = let z = ap length x in absurd (omega arith)
  delivered-called f i c (b ∷ bs) a ok k t (inr (m, e, w, q)) =
      subst (λ x. Called f i c (pick false 1 0) (system.call c (Arrival x) a)) (sym e) (shown-called f i c (Arrival m) a ok k t w q tt)

  call-called : (f : Facts Readings) (i : ℕ) (c : system.Box) (sent : List (List ℕ)) (e : Input system.Handed ℕ) (a : system.Areas)
      → Consistent f group fed → Kept i c → Tied law group fed f i (system.held c) → ((j : ℕ) → Frames f (get_or sent j []))
      → Feeds e (suc (system.held c).period) (called system c sent e a).refused
      → Called f i c (pick (ticks_on e (called system c sent e a).refused) 1 0) (called system c sent e a)
  call-called f i c sent (Tick y) a ok k t n h = shown-called f i c (Tick y) a ok k t tt tt h
  call-called f i c sent (Arrival j) a ok k t n h = delivered-called f i c (get_or sent j []) a ok k t (n j)
  call-called f i c sent GiveUp a ok k t n h = shown-called f i c GiveUp a ok k t tt tt tt

  -- ---- the commands written

  abbrev Written : Facts Readings → List (Issued system.Box) → Type 0
  Written f l = (x : Issued system.Box) → In x l → Told f x

  written-kept : (f g : Facts Readings) (l : List (Issued system.Box)) → Among f g → Written f l → Written g l
  written-kept f g l u w x p = record {
    bytes = (w x p).bytes;
    decision = decision-kept law group fed f g u (system.held x.box) (w x p).decision;
  }

  written-more : (f : Facts Readings) (l : List (Issued system.Box)) (c : system.Box) (b : List ℕ)
      → (b ≡ []) ⊎ Told f (record { bytes = b; box = c }) → Written f l → Written f (issuing c b l)
  written-more f l c [] t w x p = w x p
  written-more f l c (b ∷ bs) (inl z) w x p = let q = ap length z in absurd (omega arith)
  written-more f l c (b ∷ bs) (inr t) w x (inl q) = rw q t
  written-more f l c (b ∷ bs) (inr t) w x (inr q) = w x q

  -- ---- the whole group

  pub record Invariant (w : Situation system.Box) : Type 1 where
    pub facts : Facts Readings
    pub consistent : Consistent facts group fed
    pub kept : (i : ℕ) → Kept i (w.box i)
    pub tied : (i : ℕ) → Tied law group fed facts i (system.held (w.box i))
    pub frames : (k : ℕ) → Frames facts (get_or w.sent k [])
    pub written : Written facts w.issued
    pub periods : (i : ℕ) → (system.held (w.box i)).period ≡ w.ticks i

  -- an entry feeds its row in the period that its box's ticks count to
  abbrev pub EntryFeeds : Situation system.Box → Entry system.Handed system.Areas → Type 0
  EntryFeeds w e = Feeds e.event (suc (w.ticks e.box)) (called system (w.box e.box) w.sent e.event e.areas).refused

  step-invariant : (w : Situation system.Box) (e : Entry system.Handed system.Areas) → EntryFeeds w e → Invariant w → Invariant (step system w e)
  unfolding step
  step-invariant w e h v = record {
    facts = d.facts;
    consistent = d.consistent;
    kept = λ j. pick-ok (Kept j) (eqb j i) r.box (w.box j) (λ t. rw (eqb→eq j i t) d.kept) (λ t. v.kept j);
    tied = λ j. pick-ok (λ c. Tied law group fed d.facts j (system.held c)) (eqb j i) r.box (w.box j) (λ t. rw (eqb→eq j i t) d.tied)
        (λ t. tied-kept law group fed v.facts d.facts j i (system.held (w.box j)) d.grown (eqb_no j i t) (v.tied j));
    frames = sent-more (Frames d.facts) w.sent r.frame (inl refl) (λ k. frames-kept (v.frames k)) d.frame;
    written = written-more d.facts w.issued r.box r.command d.command
        (written-kept v.facts d.facts w.issued d.grown.kept v.written);
    periods = λ j. pick-ok (λ c. (system.held c).period ≡ w.ticks j + pick (eqb j i && ticks_on e.event r.refused) 1 0) (eqb j i) r.box (w.box j)
        (λ t. d.period ∙ own j t)
        (λ t. let p = v.periods j in let z = at-another (eqb j i) (ticks_on e.event r.refused) t in omega arith);
  }
    where
      i : ℕ
      i = e.box

      r : Result system.Box
      r = called system (w.box i) w.sent e.event e.areas

      d : Called v.facts i (w.box i) (pick (ticks_on e.event r.refused) 1 0) r
      d = call-called v.facts i (w.box i) w.sent e.event e.areas v.consistent (v.kept i) (v.tied i) v.frames
          (subst (λ k. Feeds e.event (suc k) r.refused) (sym (v.periods i)) h)

      own : (j : ℕ) → T (eqb j i)
          → (system.held (w.box i)).period + pick (ticks_on e.event r.refused) 1 0 ≡ w.ticks j + pick (eqb j i && ticks_on e.event r.refused) 1 0
      own j t =
          let p = v.periods i in
          let q = ap (λ x. w.ticks x) (eqb→eq j i t) in
          let z = at-box (eqb j i) (ticks_on e.event r.refused) t in
          omega arith

      frames-kept : {b : List ℕ} → Frames v.facts b → Frames d.facts b
      frames-kept (inl z) = inl z
      frames-kept (inr (m, z, k, q)) = inr (m, z, k, tells-kept law group fed v.facts d.facts d.grown.kept m.kind m q)

  pub start-invariant : Invariant (record { box = system.fresh; sent = []; issued = []; ticks = λ j. 0 })
  start-invariant = record {
    facts = record { proposed = λ v k l. ⊥; accepted = λ i v k l. ⊥; estimated = λ i v k a b l. ⊥ };
    consistent = record {
      rows = λ v k l p. absurd p;
      grows = λ v k j l m p. absurd p;
      opened = λ v k l p. absurd p;
      offered = λ i v k l p. absurd p;
      based = λ i v k a b l p. absurd p;
      ordered = λ i v k w j a b l m p. absurd p;
    };
    kept = shown.fresh_kept;
    tied = λ i. rw (shown.fresh_held i) (record {
      rows = [];
      ties = record {
        rows = (refl, tt);
        made = refl;
        accepted = λ v k m p. absurd p;
        estimated = λ v k a b m p. absurd p;
        based = inl (refl, refl);
        base_below = omega arith;
        proposed = λ v k m p. absurd p;
        start = λ _. (refl, refl);
      };
      normal = λ _ h _. absurd (omega arith);
      change = λ _ e. absurd (false≢true e);
    });
    frames = λ k. inl refl;
    written = λ x p. absurd p;
    periods = λ i. ap (λ s. s.period) (shown.fresh_held i);
  }

  pub after-invariant : (before later : List (Entry system.Handed system.Areas))
      → ((b a : List (Entry system.Handed system.Areas)) (e : Entry system.Handed system.Areas) → before ++ later ≡ b ++ (e ∷ a)
      → EntryFeeds (after system b) e)
      → Invariant (after system before) → Invariant (after system (before ++ later))
  after-invariant before [] h v = rw (append-nil before) v
  after-invariant before (e ∷ later) h v =
      subst (λ x. Invariant (after system x)) (append_assoc before (e ∷ []) later)
      (after-invariant (before ++ (e ∷ [])) later (λ b a e' q. h b a e' (sym (append_assoc before (e ∷ []) later) ∙ q))
      (rw (after_more system before e) (step-invariant (after system before) e (h before later e refl) v)))
