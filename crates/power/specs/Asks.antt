-- Demand 3 with events asked first (document 02, L6), over any implementation: "In demand 3 the commit counts as writing and sending what its ask gave;
-- none of it leaves earlier." A list has L4's entries, asks and commits. As in L4 nothing is asked of a list: an entry that breaks a condition does
-- nothing. What is said of a command, and the single controller, are the base's; a list without asks and commits is one of L4 (proofs/Unasked).
use Rattle.std.specs.Prelude.{◌≡◌, ◌⊎◌, Bool, false, not, ◌&&◌, ◌||◌, ℕ, suc, ◌≤◌, length, get_or}
use Rattle.std.proofs.Math.Option.{Option, none, some}
use mathlib.Core.List.{List, [], ◌∷◌, ◌++◌}
use Rattle.lists.specs.Choice.{pick}
use Rattle.scram.specs.Held.{Law, Input, Tick, Arrival, GiveUp}
use Rattle.scram.specs.Events.{largest}
use Rattle.scram.specs.History as Base
use Rattle.scram.specs.History.{System, Issued, In, called}
use Rattle.scram.specs.Demand3.{Decided}
use Rattle.tickets.specs.Tickets.{Tickets, no_tickets, is_spent, after_ask, after_step, commits, after_commit}
use Rattle.power.specs.Demand3 as Power
use Rattle.power.specs.Demand3.{Event, Store, FrameLeaves, CommandLeaves, Return, Made, Storage}
use Rattle.power.specs.Demand3.{put, record_only, stepped, nothing, changing, made_at}

-- ---- entries

-- One entry of a list.
pub data Entry (Handed Areas : Type 0) : Type 0 where
  -- an entry as L4 has it
  Unasked : Power.Entry Handed Areas → Entry Handed Areas
  -- "Asking an event" at a box. An ask takes two numbers: the first is that of a record of the replica as it is, the second that of what the ask gave.
  Ask : Base.Entry Handed Areas → Entry Handed Areas
  -- the box of this number commits this ticket
  Commit : ℕ → ℕ → Entry Handed Areas

-- ---- situations

-- Where a list of entries has led: what L4 has of it; the tickets of each box, where the step of a ticket is the number of its ask; and whether what an
-- entry made was asked for, and has not been committed.
pub record Situation (Box Record Readings : Type 0) : Type 0 where
  pub plain : Power.Situation Box Record Readings
  pub tickets : ℕ → Tickets ℕ
  pub asked : ℕ → Bool

-- ---- parts of what an entry does

-- the tickets of a box that returned as some replica: they "count from 1 after each making or return"
abbrev pub tickets_back : {Box : Type 0} → Tickets ℕ → Option Box → Tickets ℕ
tickets_back t none = t
tickets_back t (some c) = no_tickets 0

module _ {Box Record Readings : Type 0} where
  -- an entry that changes nothing but what L4 has
  abbrev pub plainly : Situation Box Record Readings → Power.Situation Box Record Readings → Situation Box Record Readings
  plainly w plain = record { plain = plain; tickets = w.tickets; asked = w.asked }

  -- A record of the replica as it is, made anew: "in L4 a record of the unstepped replica counts as made before the ask's". It has the number before the
  -- ask's, and so stands for every such record that is made until the commit. Without this demand 3 is false: after the ask's record one of the unstepped
  -- replica could be stored, the ask committed, its frame leave, and the box return to a replica that knows nothing of it (proofs/AskExamples).
  abbrev pub recorded_anew : Power.Situation Box Record Readings → ℕ → Power.Situation Box Record Readings
  recorded_anew w i = changing w i (w.boxes i) w.count (record_only i (w.boxes i).now)

  -- "committing that ticket makes exactly that step": what the ask of the entry n made is the box's replica, and may leave once its record is stored
  abbrev pub committing : Situation Box Record Readings → (i ticket n : ℕ) → Option (Made Box Readings) → Situation Box Record Readings
  committing w i ticket n none = plainly w (nothing w.plain)
  committing w i ticket n (some m) = record {
    plain = changing w.plain i (stepped (w.plain.boxes i) m.replica) n m;
    tickets = put w.tickets i (after_commit (w.tickets i) ticket);
    asked = put w.asked n false;
  }

-- ---- what an entry does

module _ {State Readings Values : Type 0} (system : System State Readings Values) where
  -- What asking adds to an implementation: whether the answer of a call is ok.
  abbrev pub Answering : Type 0
  Answering = system.Box → Input system.Handed (List ℕ) → system.Areas → Bool

  module _ (ok : Answering) where
    -- of the call that an arriving frame makes; where none left, none is made
    abbrev pub delivered_ok : system.Box → List ℕ → system.Areas → Bool
    delivered_ok c [] a = false
    delivered_ok c (b ∷ bs) a = ok c (Arrival (b ∷ bs)) a

    -- of the call that an event makes, where these frames left so far
    abbrev pub called_ok : system.Box → List (List ℕ) → Input system.Handed ℕ → system.Areas → Bool
    called_ok c left (Tick y) a = ok c (Tick y) a
    called_ok c left (Arrival k) a = delivered_ok c (get_or left k []) a
    called_ok c left GiveUp a = ok c GiveUp a

  module _ (law : Law State Readings Values) (storage : Storage system) (ok : Answering) where
    -- where a list of entries has led
    abbrev pub Reached : Type 0
    Reached = Situation system.Box storage.Record Readings

    -- whether the answer of an event at its box is ok
    abbrev pub ok_at : Reached → Base.Entry system.Handed system.Areas → Bool
    ok_at w e = called_ok ok (w.plain.boxes e.box).now.box w.plain.left e.event e.areas

    -- An event that is not asked: L4's, and "a step made, voids the earlier ticket". An event that is ignored or refused leaves the replica as it is. So what
    -- it makes is a record of the unstepped replica; while an ask can be committed that is the one which the ask made.
    abbrev pub stepping : Reached → Base.Entry system.Handed system.Areas → Reached
    stepping w e =
        let t = w.tickets e.box in
        pick (ok_at w e || not t.pending)
        (record { plain = Power.step system law storage w.plain (Event e); tickets = put w.tickets e.box (after_step t (ok_at w e)); asked = w.asked })
        (plainly w (nothing w.plain))

    -- what an ask makes, by the number n: "the answer, record, frame and command it would give", if the answer is ok and a ticket is left
    abbrev pub offering : Reached → Base.Entry system.Handed system.Areas → (n : ℕ) → Power.Situation system.Box storage.Record Readings
        → Power.Situation system.Box storage.Record Readings
    offering w e n before =
        let s = w.plain.boxes e.box in
        pick (ok_at w e && not (is_spent (w.tickets e.box)))
        (changing before e.box s n (made_at system e.box s.now e.event (called system s.now.box w.plain.left e.event e.areas)))
        (nothing before)

    -- "Asking an event yields the answer, record, frame and command it would give, with a ticket, making no step"
    abbrev pub asking : Reached → Base.Entry system.Handed system.Areas → Reached
    asking w e =
        let n = suc w.plain.count in
        let t = w.tickets e.box in
        record {
          plain = offering w e n (recorded_anew w.plain e.box);
          tickets = put w.tickets e.box (after_ask t (ok_at w e) n);
          asked = put w.asked n (ok_at w e && not (is_spent t));
        }

    -- an entry of L4: nothing leaves of what was asked for and not committed, stored or not
    abbrev pub unasked : Reached → Power.Entry system.Handed system.Areas → Reached
    unasked w (Event e) = stepping w e
    unasked w (Store n) = plainly w (Power.step system law storage w.plain (Store n))
    unasked w (FrameLeaves n) = plainly w (pick (w.asked n) (nothing w.plain) (Power.step system law storage w.plain (FrameLeaves n)))
    unasked w (CommandLeaves n) = plainly w (pick (w.asked n) (nothing w.plain) (Power.step system law storage w.plain (CommandLeaves n)))
    unasked w (Return i k) = record {
      plain = Power.step system law storage w.plain (Return i k);
      tickets = put w.tickets i (tickets_back (w.tickets i) (storage.back (w.plain.boxes i).stored.box k));
      asked = w.asked;
    }

    -- one entry more
    unfoldable pub step : Reached → Entry system.Handed system.Areas → Reached
    step w (Unasked e) = unasked w e
    step w (Ask e) = asking w e
    step w (Commit i ticket) =
        let t = w.tickets i in
        pick (commits t ticket) (committing w i ticket t.step (w.plain.made t.step)) (plainly w (nothing w.plain))

    -- one entry after the other
    unfoldable pub steps : Reached → List (Entry system.Handed system.Areas) → Reached
    unfolding step
    steps w [] = w
    steps w (e ∷ h) = steps (step w e) h

    -- L4's start; no ticket was given, and nothing asked
    abbrev pub start : Reached
    start = record { plain = Power.start system law storage; tickets = λ i. no_tickets 0; asked = λ n. false }

    unfoldable pub after : List (Entry system.Handed system.Areas) → Reached
    unfolding steps
    after h = steps start h

-- ---- the claim

module _ {State Readings Values : Type 0} (system : System State Readings Values) (law : Law State Readings Values) (storage : Storage system)
    (ok : Answering system) where
  -- L4's: "Row k is one that some box was handed for period k: by that box's k-th tick not refused", of the ticks that count in its replica at the end.
  -- "an event never committed has not occurred, unless its record is returned": so with its row.
  pub record HandedFor (h : List (Entry system.Handed system.Areas)) (k : ℕ) (y : Readings) : Type 0 where
    pub box : ℕ
    pub before : List Readings
    pub later : List Readings
    pub whole : ((after system law storage ok h).plain.boxes box).now.rows ≡ before ++ (y ∷ later)
    pub kth : k ≡ suc (length before)

  -- L4's: one choice of rows for all decided periods, which are those of the commands that left
  pub record Demand3 (h : List (Entry system.Handed system.Areas)) : Type 0 where
    pub last : ℕ
    pub bounded : last ≤ largest
    pub row : ℕ → Readings
    pub handed : (k : ℕ) → 1 ≤ k → k ≤ last → HandedFor h k (row k)
    pub decided : (c : Issued system.Box) → In c (after system law storage ok h).plain.issued → Decided system law last row c
    pub is_last : (last ≡ 0)
        ⊎ ((c : Issued system.Box) × In c (after system law storage ok h).plain.issued × (system.command_period c.bytes ≡ last))
