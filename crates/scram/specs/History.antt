-- Histories (document 01, "The history of demand 3"): an implementation as its calls, the entries of a list, and where a list of entries
-- leads. What is claimed of them stands in files of its own.
use Rattle.std.specs.Prelude.{◌≡◌, ◌⊎◌, Bool, false, not, ◌&&◌, ℕ, ◌+◌, get_or, eqb}
use mathlib.Core.List.{List, [], ◌∷◌, ◌++◌}
use Rattle.lists.specs.Choice.{pick}
use Rattle.scram.specs.Held.{Held, Message, Command, Input, Tick, Arrival, GiveUp}

-- ---- an implementation

-- What a call gives back: the replica, whether the call was refused, and the bytes written to the two lent areas, none where nothing was
-- written.
pub record Result (Box : Type 0) : Type 0 where
  pub box : Box
  pub refused : Bool
  pub frame : List ℕ
  pub command : List ℕ

-- An implementation: its replicas, what a tick is handed, the lent areas, its call for an input (what arrives are bytes), and how they are
-- read: what a replica holds, the row that readings handed to it are, whether a mark among them is out of place, the bytes of a frame and
-- of a command, and the period that a command's bytes have.
pub record System (State Readings Values : Type 0) : Type 1 where
  pub Box : Type 0
  pub Handed : Type 0
  pub Areas : Type 0
  pub fresh : ℕ → Box
  pub call : Box → Input Handed (List ℕ) → Areas → Result Box
  pub held : Box → Held State Readings
  pub row : Handed → Readings
  pub beyond : Handed → Bool
  pub frame_bytes : Message State Readings → List ℕ
  pub command_bytes : Command Values → List ℕ
  pub command_period : List ℕ → ℕ

-- ---- entries

-- "A list entry is one event at one box: a tick, an arriving frame or a give-up, with any readings and lent areas." "An arriving frame has
-- the bytes of one that an earlier entry sent": the number of that entry, counted from 0.
pub record Entry (Handed Areas : Type 0) : Type 0 where
  pub box : ℕ
  pub event : Input Handed ℕ
  pub areas : Areas

-- ---- situations

-- a command that was written, and the replica that this step gave back
pub record Issued (Box : Type 0) : Type 0 where
  pub bytes : List ℕ
  pub box : Box

-- Where a list of entries has led: each box's replica, what each entry sent (nothing is the empty list), the commands written, and how
-- many ticks not refused each box has had.
pub record Situation (Box : Type 0) : Type 0 where
  pub box : ℕ → Box
  pub sent : List (List ℕ)
  pub issued : List (Issued Box)
  pub ticks : ℕ → ℕ

-- a command is issued where bytes were written
abbrev pub issuing : {Box : Type 0} → Box → List ℕ → List (Issued Box) → List (Issued Box)
issuing c [] l = l
issuing c (b ∷ bs) l = record { bytes = b ∷ bs; box = c } ∷ l

-- whether an input was a tick not refused
abbrev pub ticks_on : {Handed Arriving : Type 0} → Input Handed Arriving → Bool → Bool
ticks_on (Tick y) refused = not refused
ticks_on (Arrival x) refused = false
ticks_on GiveUp refused = false

-- whether x stands in a list
abbrev pub In : {A : Type 0} → A → List A → Type 0
In x [] = ⊥
In x (y ∷ l) = (x ≡ y) ⊎ In x l

-- ---- what a list leads to

module _ {State Readings Values : Type 0} (system : System State Readings Values) where
  -- the call that an arriving frame makes; where none was sent, none is made
  abbrev pub delivered : system.Box → List ℕ → system.Areas → Result system.Box
  delivered c [] a = record { box = c; refused = false; frame = []; command = [] }
  delivered c (b ∷ bs) a = system.call c (Arrival (b ∷ bs)) a

  -- the call that an event makes, where these frames were sent so far
  abbrev pub called : system.Box → List (List ℕ) → Input system.Handed ℕ → system.Areas → Result system.Box
  called c sent (Tick y) a = system.call c (Tick y) a
  called c sent (Arrival k) a = delivered c (get_or sent k []) a
  called c sent GiveUp a = system.call c GiveUp a

  -- where an entry and what its call gives back lead; "nothing else writes that"
  abbrev pub led : Situation system.Box → Entry system.Handed system.Areas → Result system.Box → Situation system.Box
  led w e r = record {
    box = λ j. pick (eqb j e.box) r.box (w.box j);
    sent = w.sent ++ (r.frame ∷ []);
    issued = issuing r.box r.command w.issued;
    ticks = λ j. w.ticks j + pick (eqb j e.box && ticks_on e.event r.refused) 1 0;
  }

  -- one entry more: "It gets the replica that the box's entry before gave back, at first the fresh one"
  unfoldable pub step : Situation system.Box → Entry system.Handed system.Areas → Situation system.Box
  step w e = led w e (called (w.box e.box) w.sent e.event e.areas)

  -- one entry after the other
  unfoldable pub steps : Situation system.Box → List (Entry system.Handed system.Areas) → Situation system.Box
  unfolding step
  steps w [] = w
  steps w (e ∷ h) = steps (step w e) h

  -- "Boxes 1 to N start as fresh replicas whose settings differ in the own number alone."
  unfoldable pub after : List (Entry system.Handed system.Areas) → Situation system.Box
  unfolding steps
  after h = steps (record { box = system.fresh; sent = []; issued = []; ticks = λ j. 0 }) h
