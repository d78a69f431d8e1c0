-- What ties a box's replica, the frames sent and the commands to the facts; a step of another box leaves these ties as they were.
-- Assumes nothing.
use mathlib.Core.Path.{◌≡◌, sym, ap₂, ◌∙◌}
use mathlib.Core.Logic.{◌⊎◌, inl, inr, ◌≢◌}
use mathlib.Core.Bool.{true, false}
use mathlib.Core.Option.{Option, none, some}
use mathlib.Core.List.{List, [], ◌∷◌}
use Prim.Native.Nat.{ℕ, ◌≤◌, ◌<◌}
use lib.Dec.{T}
use Rattle.scram.specs.Quorum.{among}
use Rattle.scram.specs.Held.{Law, Group, Estimate, Held, Kind, Message, Command, Outcome}
use Rattle.scram.specs.Events.{command_of}
use Rattle.scram.proofs.Rows.{AtMost}
use Rattle.scram.proofs.Facts.{Facts, RowsTo, Based, Gave, Chosen, Consistent}
use Rattle.scram.proofs.Growth.{Among, GrownAt, grown-refl, grown-trans, based-kept, chosen-kept}

module _ {State Readings Values : Type 0} (law : Law State Readings Values) where
  -- the state that rows lead to, the newest row first
  unfoldable pub run : List Readings → State
  run [] = law.start
  run (y ∷ l) = law.update (run l) y

  -- an estimate made from rows: its state is the run of all but the last, its readings are the last
  abbrev pub Made : List Readings → Estimate State Readings → Type 0
  Made [] e = e.state ≡ law.start
  Made (y ∷ l) e = (e.state ≡ run l) × (e.readings ≡ y)

  pub made-run : (y : Readings) (l : List Readings) (e : Estimate State Readings) → Made (y ∷ l) e → law.update e.state e.readings ≡ run (y ∷ l)
  unfolding run
  made-run y l e m = ap₂ law.update m.0 m.1

module _ {State Readings Values : Type 0} (law : Law State Readings Values) (group : Group) (fed : ℕ → Readings → Type 0) where
  -- the replica s of box i, whose estimate was made from the rows l
  pub record Ties (f : Facts Readings) (i : ℕ) (s : Held State Readings) (l : List Readings) : Type 0 where
    pub rows : RowsTo fed s.period l
    pub made : Made law l s.estimate
    -- whatever the box accepted lies at or below its base
    pub accepted : (v k : ℕ) (m : List Readings) → f.accepted i v k m → (k ≤ s.period) × AtMost v k s.base_view s.base_period
    -- no view entered lies above its view
    pub estimated : (v k a b : ℕ) (m : List Readings) → f.estimated i v k a b m → v ≤ s.view
    pub based : Based f s.base_view s.base_period l
    pub base_below : s.base_view ≤ s.view
    -- what it proposed as coordinator is of a lower view, or of its view in normal mode
    pub proposed : (v k : ℕ) (m : List Readings) → f.proposed v k m → group.coordinator v ≡ i
        → (v < s.view) ⊎ ((v ≡ s.view) × (k ≤ s.period) × (s.view_change ≡ false))
    pub start : s.period ≡ 0 → (s.view ≡ 0) × (s.view_change ≡ false)

  -- a coordinator in normal mode has proposed its estimate, and each box heard has accepted it
  pub record Leads (f : Facts Readings) (s : Held State Readings) (l : List Readings) : Type 0 where
    pub mine : f.proposed s.view s.period l
    pub acks : (j : ℕ) → T (among s.heard j) → f.accepted j s.view s.period l

  -- a coordinator in view-change mode holds the best of the estimates heard
  pub record Hears (f : Facts Readings) (s : Held State Readings) : Type 0 where
    pub any : s.best.any ≡ true
    pub rows : List Readings
    pub given : f.estimated s.best.box s.view s.period s.best.base_view s.best.base_period rows
    pub made : Made law rows s.best.estimate
    pub others : (j : ℕ) → T (among s.heard j) → Gave f j s.view s.period s.best.base_view s.best.base_period

  pub record Tied (f : Facts Readings) (i : ℕ) (s : Held State Readings) : Type 0 where
    pub rows : List Readings
    pub ties : Ties f i s rows
    pub normal : group.coordinator s.view ≡ i → 1 ≤ s.period → s.view_change ≡ false → Leads f s rows
    pub change : group.coordinator s.view ≡ i → s.view_change ≡ true → Hears f s

  -- what a sent frame tells, by its kind
  abbrev pub Tells : Facts Readings → Kind → Message State Readings → Type 0
  Tells f Kind.Propose m = (l : List Readings) × f.proposed m.view m.period l × Made law l m.estimate
  Tells f Kind.Ack m = (l : List Readings) × f.accepted m.sender m.view m.period l
  Tells f Kind.Decide m = (l : List Readings) × f.proposed m.view m.period l × Made law l m.estimate × Chosen f group m.view m.period l
  Tells f Kind.Estimate m = (l : List Readings) × f.estimated m.sender m.view m.period m.base_view m.base_period l × Made law l m.estimate

  abbrev pub SentTells : Facts Readings → Option (Message State Readings) → Type 0
  SentTells f none = Unit {0}
  SentTells f (some m) = Tells f m.kind m

  -- what a replica tells that decided: its estimate was made from rows that were chosen for its period
  abbrev pub DecisionTells : Facts Readings → Held State Readings → Type 0
  DecisionTells f s = (v : ℕ) × (l : List Readings) × f.proposed v s.period l × Chosen f group v s.period l × Made law l s.estimate

  -- a command is that of the replica given back, which decided
  abbrev pub IssuedTells : Facts Readings → Held State Readings → Option (Command Values) → Type 0
  IssuedTells f s none = Unit {0}
  IssuedTells f s (some c) = (c ≡ command_of law s.period s.estimate) × DecisionTells f s

  -- after a step of box i the facts have grown at box i, and all is tied again
  pub record Keeps (f : Facts Readings) (i : ℕ) (o : Outcome State Readings Values) : Type 1 where
    pub facts : Facts Readings
    pub grown : GrownAt group.coordinator i f facts
    pub consistent : Consistent facts group fed
    pub tied : Tied facts i o.held
    pub sent : SentTells facts o.sent
    pub issued : IssuedTells facts o.held o.command

  pub keeps_then : {f g : Facts Readings} (i : ℕ) (o : Outcome State Readings Values) → GrownAt group.coordinator i f g → Keeps g i o → Keeps f i o
  keeps_then i o e p = record {
    facts = p.facts;
    grown = grown-trans e p.grown;
    consistent = p.consistent;
    tied = p.tied;
    sent = p.sent;
    issued = p.issued;
  }

  -- the facts stay, and nothing is sent
  pub keeps-quiet : (f : Facts Readings) (i : ℕ) (o : Outcome State Readings Values) → o.sent ≡ none → o.command ≡ none → Consistent f group fed
      → Tied f i o.held → Keeps f i o
  keeps-quiet f i o e d ok t = record { facts = f; grown = grown-refl f; consistent = ok; tied = t; sent = rw e tt; issued = rw d tt }

  pub tells-kept : (f g : Facts Readings) → Among f g → (kind : Kind) (m : Message State Readings) → Tells f kind m → Tells g kind m
  tells-kept f g u Kind.Propose m q = (q.0, u.proposed m.view m.period q.0 q.1, q.2)
  tells-kept f g u Kind.Ack m q = (q.0, u.accepted m.sender m.view m.period q.0 q.1)
  tells-kept f g u Kind.Decide m q =
      (q.0, u.proposed m.view m.period q.0 q.1, q.2, chosen-kept group u m.view m.period q.0 q.3)
  tells-kept f g u Kind.Estimate m q = (q.0, u.estimated m.sender m.view m.period m.base_view m.base_period q.0 q.1, q.2)

  pub decision-kept : (f g : Facts Readings) → Among f g → (s : Held State Readings) → DecisionTells f s → DecisionTells g s
  decision-kept f g u s (v, l, p, c, m) = (v, l, u.proposed v s.period l p, chosen-kept group u v s.period l c, m)

  -- a step of box j leaves the ties of box i
  pub tied-kept : (f g : Facts Readings) (i j : ℕ) (s : Held State Readings) → GrownAt group.coordinator j f g → i ≢ j → Tied f i s → Tied g i s
  tied-kept f g i j s e d t = record {
    rows = t.rows;
    ties = record {
      rows = c.rows;
      made = c.made;
      accepted = λ v k m p. c.accepted v k m (old (λ q. d q) (e.accepted i v k m p));
      estimated = λ v k a b m p. c.estimated v k a b m (old (λ q. d q) (e.estimated i v k a b m p));
      based = based-kept e.kept s.base_view s.base_period t.rows c.based;
      base_below = c.base_below;
      proposed = λ v k m p q. c.proposed v k m (old (λ r. d (sym q ∙ r)) (e.proposed v k m p)) q;
      start = c.start;
    };
    normal = λ x y z. let n = t.normal x y z in record {
      mine = e.kept.proposed s.view s.period t.rows n.mine;
      acks = λ j u. e.kept.accepted j s.view s.period t.rows (n.acks j u);
    };
    change = λ x y. let n = t.change x y in record {
      any = n.any;
      rows = n.rows;
      given = e.kept.estimated s.best.box s.view s.period s.best.base_view s.best.base_period n.rows n.given;
      made = n.made;
      others = λ j u. let (a, b, m, q, x) = n.others j u in (a, b, m, e.kept.estimated j s.view s.period a b m q, x);
    };
  }
    where
      c : Ties f i s t.rows
      c = t.ties

      old : {A : Type 0} {C : Type 0} → (C → ⊥) → A ⊎ C → A
      old f (inl a) = a
      old f (inr b) = absurd (f b)
