-- Demand 3 with power cycles (document 02, L4), over any implementation: the entries of a list, where a list leads, and the claim. "A box that
-- stops and returns is now in every history the group must withstand, provided each frame or command left after its step's record was stored,
-- none was stored after one made later, and the last one stored is returned". These conditions are not asked of a list. They stand in what its
-- entries do: an entry that breaks one does nothing. So any list is a history, and in a list that keeps them each entry does what it says. What is
-- said of a command, and the single controller, are the base's.
use Rattle.std.specs.Prelude.{◌≡◌, ◌⊎◌, Bool, true, false, ℕ, suc, ◌≤◌, length, replicate, eqb, leb}
use Rattle.std.proofs.Math.Option.{Option, none, some}
use mathlib.Core.List.{List, [], ◌∷◌, ◌++◌}
use Rattle.lists.specs.Choice.{pick}
use Rattle.scram.specs.Held.{Law, Input, Tick, Arrival, GiveUp}
use Rattle.scram.specs.Events.{largest}
use Rattle.scram.specs.History as Base
use Rattle.scram.specs.History.{Result, System, Issued, In, issuing, called}
use Rattle.scram.specs.Demand3.{Decided}

-- ---- entries

-- One entry of a list. Entries have numbers, counted from 0. A frame that arrives is one that left, named by the number of the entry by
-- which it left.
pub data Entry (Handed Areas : Type 0) : Type 0 where
  -- an event at a box, as document 01 has it
  Event : Base.Entry Handed Areas → Entry Handed Areas
  -- the record that the entry of this number made is stored
  Store : ℕ → Entry Handed Areas
  -- the frame of the step that the entry of this number made leaves
  FrameLeaves : ℕ → Entry Handed Areas
  -- the command of the step that the entry of this number made leaves
  CommandLeaves : ℕ → Entry Handed Areas
  -- "A box that stops and returns": the box of this number, with so many missed periods
  Return : ℕ → ℕ → Entry Handed Areas

-- ---- situations

-- a replica, or the record of one, and the rows of the ticks that count in it, the first tick's first
pub record WithRows (Box Readings : Type 0) : Type 0 where
  pub box : Box
  pub rows : List Readings

-- What an entry made: the box where, the replica that was given back (and by that the record), the frame and the command; and whether the
-- record was stored.
pub record Made (Box Readings : Type 0) : Type 0 where
  pub box : ℕ
  pub replica : WithRows Box Readings
  pub frame : List ℕ
  pub command : List ℕ
  pub stored : Bool

-- What there is of one box: its replica, the record that was stored last, and the number of the first entry whose record may still be
-- stored there.
pub record OneBox (Box Record Readings : Type 0) : Type 0 where
  pub now : WithRows Box Readings
  pub stored : WithRows Record Readings
  pub first : ℕ

-- Where a list of entries has led: how many there were, what there is of each box, what each entry made, the frame that left by each entry
-- (nothing is the empty list), and the commands that left.
pub record Situation (Box Record Readings : Type 0) : Type 0 where
  pub count : ℕ
  pub boxes : ℕ → OneBox Box Record Readings
  pub made : ℕ → Option (Made Box Readings)
  pub left : List (List ℕ)
  pub issued : List (Issued Box)

-- ---- parts of what an entry does

-- a table with one place changed
abbrev pub put : {A : Type 0} → (ℕ → A) → ℕ → A → ℕ → A
put f i x j = pick (eqb j i) x (f j)

module _ {Box Readings : Type 0} where
  -- "each frame or command left after its step's record was stored": before that nothing leaves; then it may leave at any time, also after a
  -- return, and more than once
  abbrev pub leaving : (Made Box Readings → List ℕ) → Option (Made Box Readings) → List ℕ
  leaving part none = []
  leaving part (some m) = pick m.stored (part m) []

  -- the commands that left, with that of an entry
  abbrev pub issued_with : List (Issued Box) → Option (Made Box Readings) → List (Issued Box)
  issued_with l none = l
  issued_with l (some m) = issuing m.replica.box (leaving (λ x. x.command) (some m)) l

  -- what an entry made, its record stored
  abbrev pub now_stored : Made Box Readings → Made Box Readings
  now_stored m = record { box = m.box; replica = m.replica; frame = m.frame; command = m.command; stored = true }

  -- what a return makes: a record, and neither frame nor command
  abbrev pub record_only : ℕ → WithRows Box Readings → Made Box Readings
  record_only i v = record { box = i; replica = v; frame = []; command = []; stored = false }

module _ {Box Record Readings : Type 0} where
  -- the box after a step: only its replica is another
  abbrev pub stepped : OneBox Box Record Readings → WithRows Box Readings → OneBox Box Record Readings
  stepped s v = record { now = v; stored = s.stored; first = s.first }

  -- The box with a record stored, which the entry n made. "none was stored after one made later": from now on only what later entries make
  -- may be stored.
  abbrev pub storing : OneBox Box Record Readings → ℕ → WithRows Record Readings → OneBox Box Record Readings
  storing s n r = record { now = s.now; stored = r; first = suc n }

  -- The box returned, by the entry n. "steps between that record and the stop .. don't count": what was made before the stop and was not
  -- stored by then is gone, and only records made from the return on may be stored. Without this demand 3 is false: the record of a lost
  -- step could be stored after the return, and its Ack leave from a box that knows nothing of it (proofs/Examples, `late`).
  abbrev pub returned : OneBox Box Record Readings → ℕ → WithRows Box Readings → OneBox Box Record Readings
  returned s n v = record { now = v; stored = s.stored; first = n }

  -- an entry by which this frame left, if any
  abbrev pub frame_left : Situation Box Record Readings → List ℕ → Situation Box Record Readings
  frame_left w frame = record { count = suc w.count; boxes = w.boxes; made = w.made; left = w.left ++ (frame ∷ []); issued = w.issued }

  -- an entry that does nothing
  abbrev pub nothing : Situation Box Record Readings → Situation Box Record Readings
  nothing w = frame_left w []

  -- an entry after which these are the commands that left
  abbrev pub command_left : Situation Box Record Readings → List (Issued Box) → Situation Box Record Readings
  command_left w issued = record { count = suc w.count; boxes = w.boxes; made = w.made; left = w.left ++ ([] ∷ []); issued = issued }

  -- an entry that changes what there is of box i, and what the entry n made
  abbrev pub changing : Situation Box Record Readings → ℕ → OneBox Box Record Readings → ℕ → Made Box Readings → Situation Box Record Readings
  changing w i s n m = record {
    count = suc w.count;
    boxes = put w.boxes i s;
    made = put w.made n (some m);
    left = w.left ++ ([] ∷ []);
    issued = w.issued;
  }

-- ---- what an entry does

module _ {State Readings Values : Type 0} (system : System State Readings Values) where
  -- What recording and returning add to an implementation: its records, the record of a replica, and the replica that returning from a
  -- record with so many missed periods gives, if it is not refused.
  pub record Storage : Type 1 where
    pub Record : Type 0
    pub recorded : system.Box → Record
    pub back : Record → ℕ → Option system.Box

  -- the row of a tick not refused
  abbrev pub row_of : {Arriving : Type 0} → Input system.Handed Arriving → Result system.Box → List Readings
  row_of (Tick y) r = pick r.refused [] (system.row y ∷ [])
  row_of (Arrival x) r = []
  row_of GiveUp r = []

  -- what an event at box i, with this replica, makes: the call's result, not yet stored
  abbrev pub made_at : ℕ → WithRows system.Box Readings → Input system.Handed ℕ → Result system.Box → Made system.Box Readings
  made_at i v e r = record {
    box = i;
    replica = record { box = r.box; rows = v.rows ++ row_of e r };
    frame = r.frame;
    command = r.command;
    stored = false;
  }

  module _ (law : Law State Readings Values) (storage : Storage) where
    -- where a list of entries has led
    abbrev pub Reached : Type 0
    Reached = Situation system.Box storage.Record Readings

    -- the record of a replica; its rows are the replica's
    abbrev pub record_of : WithRows system.Box Readings → WithRows storage.Record Readings
    record_of v = record { box = storage.recorded v.box; rows = v.rows }

    -- an event at a box: the call gets the box's replica, and an arriving frame is one that left
    abbrev pub stepping : Reached → Base.Entry system.Handed system.Areas → Reached
    stepping w e =
        let s = w.boxes e.box in
        let m = made_at e.box s.now e.event (called system s.now.box w.left e.event e.areas) in
        changing w e.box (stepped s m.replica) w.count m

    -- the record that the entry n made is stored, unless one made later was stored or the box has returned since
    abbrev pub keeping : Reached → ℕ → Option (Made system.Box Readings) → Reached
    keeping w n none = nothing w
    keeping w n (some m) =
        let s = w.boxes m.box in
        pick (leb s.first n) (changing w m.box (storing s n (record_of m.replica)) n (now_stored m)) (nothing w)

    -- The replica c of a box that returned with k missed periods, and the rows of the ticks that count in it. They are the record's, not
    -- those of the box at the stop, since "steps between that record and the stop .. don't count"; and then "all-absent readings for the missed
    -- periods, which count as ticks".
    abbrev pub recovered : OneBox system.Box storage.Record Readings → ℕ → system.Box → WithRows system.Box Readings
    recovered s k c = record { box = c; rows = s.stored.rows ++ replicate k law.none }

    -- Box i returns as this replica. Where returning is refused the list goes on as without this entry; a box that does not come back has no
    -- further one.
    abbrev pub returning : Reached → ℕ → ℕ → Option system.Box → Reached
    returning w i k none = nothing w
    returning w i k (some c) =
        let v = recovered (w.boxes i) k c in
        changing w i (returned (w.boxes i) w.count v) w.count (record_only i v)

    -- one entry more; a return is from the box's record as it stands: "the last one stored is returned"
    unfoldable pub step : Reached → Entry system.Handed system.Areas → Reached
    step w (Event e) = stepping w e
    step w (Store n) = keeping w n (w.made n)
    step w (FrameLeaves n) = frame_left w (leaving (λ m. m.frame) (w.made n))
    step w (CommandLeaves n) = command_left w (issued_with w.issued (w.made n))
    step w (Return i k) = returning w i k (storage.back (w.boxes i).stored.box k)

    -- one entry after the other
    unfoldable pub steps : Reached → List (Entry system.Handed system.Areas) → Reached
    unfolding step
    steps w [] = w
    steps w (e ∷ h) = steps (step w e) h

    -- "Boxes 1 to N start as fresh replicas"; a box that has stored nothing returns from the record of its fresh replica
    abbrev pub start : Reached
    start = record {
      count = 0;
      boxes = λ i. record {
        now = record { box = system.fresh i; rows = [] };
        stored = record { box = storage.recorded (system.fresh i); rows = [] };
        first = 0;
      };
      made = λ n. none;
      left = [];
      issued = [];
    }

    unfoldable pub after : List (Entry system.Handed system.Areas) → Reached
    unfolding steps
    after h = steps start h

-- ---- the claim

module _ {State Readings Values : Type 0} (system : System State Readings Values) (law : Law State Readings Values) (storage : Storage system) where
  -- "Row k is one that some box was handed for period k: by that box's k-th tick not refused." These are the ticks that count in the box's
  -- replica at the end of the list: "the single controller's run may use all-absent readings for the missed periods, which count as ticks;
  -- steps between that record and the stop .. don't count".
  pub record HandedFor (h : List (Entry system.Handed system.Areas)) (k : ℕ) (y : Readings) : Type 0 where
    pub box : ℕ
    pub before : List Readings
    pub later : List Readings
    pub whole : ((after system law storage h).boxes box).now.rows ≡ before ++ (y ∷ later)
    pub kth : k ≡ suc (length before)

  -- "It is fed one row of readings for each period from 1 to the last one decided." "One choice of rows serves all decided periods". "frames
  -- and commands that never left, don't count": decided are the periods of the commands that left.
  pub record Demand3 (h : List (Entry system.Handed system.Areas)) : Type 0 where
    pub last : ℕ
    pub bounded : last ≤ largest
    pub row : ℕ → Readings
    pub handed : (k : ℕ) → 1 ≤ k → k ≤ last → HandedFor h k (row k)
    pub decided : (c : Issued system.Box) → In c (after system law storage h).issued → Decided system law last row c
    pub is_last : (last ≡ 0) ⊎ ((c : Issued system.Box) × In c (after system law storage h).issued × (system.command_period c.bytes ≡ last))
