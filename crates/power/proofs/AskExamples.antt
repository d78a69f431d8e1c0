-- The definitions compute: in the group of three of Examples events are asked, stored, committed and lost. An ask takes two numbers. Assumes
-- nothing.
use mathlib.Core.Path.{◌≡◌, refl}
use mathlib.Core.Bool.{Bool, true, false}
use mathlib.Core.List.{List, [], ◌∷◌, map}
use mathlib.Core.Option.{Option, none, some}
use Prim.Native.Nat.{ℕ}
use lib.ListN.{get_or}
use Rattle.lists.specs.Choice.{pick}
use Rattle.scram.specs.Quorum.{majority, coordinator, beats, count}
use Rattle.scram.specs.Held.{Tick, Arrival, GiveUp}
use Rattle.scram.specs.Answers.{Answered, Done, Ignored, Refused}
use Rattle.scram.specs.Events.{better, bad_sender, bad_place, bad_base, unwanted, raise, after_tick, tick, give_up, hear_ack, hear_estimate, receive, arrive}
use Rattle.tickets.specs.Tickets.{after_ask, after_step, commits, after_commit}
use Rattle.power.specs.Demand3 as Power
use Rattle.power.specs.Demand3.{Event, Store, FrameLeaves, CommandLeaves, Return, OneBox}
use Rattle.power.specs.Asks.{Entry, Unasked, Ask, Commit, Answering, step, steps, after}
use Rattle.power.specs.Returns.{missed}
use Rattle.power.proofs.Examples.{law, Replica, outcome_of, system, storage}

-- ---- lists

abbrev is_ok : Answered → Bool
is_ok Done = true
is_ok Ignored = false
is_ok (Refused number) = false

abbrev ok : Answering system
ok c e a = is_ok (outcome_of c e).answer

abbrev One : Type 0
One = Entry (Option ℕ) (Unit {0})

abbrev History : Type 0
History = List One

-- box i ticks, gets the frame that left by entry k, gives up
abbrev T : ℕ → Option ℕ → One
T i y = Unasked (Event (record { box = i; event = Tick y; areas = tt }))

abbrev D : ℕ → ℕ → One
D i k = Unasked (Event (record { box = i; event = Arrival k; areas = tt }))

abbrev G : ℕ → One
G i = Unasked (Event (record { box = i; event = GiveUp; areas = tt }))

-- the same asked
abbrev AT : ℕ → Option ℕ → One
AT i y = Ask (record { box = i; event = Tick y; areas = tt })

abbrev AD : ℕ → ℕ → One
AD i k = Ask (record { box = i; event = Arrival k; areas = tt })

-- the record that entry n made is stored, its frame leaves, its command leaves; box i returns
abbrev store : ℕ → One
store n = Unasked (Store n)

abbrev send : ℕ → One
send n = Unasked (FrameLeaves n)

abbrev issue : ℕ → One
issue n = Unasked (CommandLeaves n)

abbrev back : ℕ → ℕ → One
back i k = Unasked (Return i k)

-- ---- what they come to

-- the commands that left, the last one first: period and value
commands : History → List (List ℕ)
commands h = map (λ c. c.bytes) (after system law storage ok h).plain.issued

-- the frame that left by entry n
frame : History → ℕ → List ℕ
frame h n = get_or (after system law storage ok h).plain.left n []

-- what there is of a box, and the rows of the ticks that count in its replica
box : History → ℕ → OneBox Replica Replica (Option ℕ)
box h i = (after system law storage ok h).plain.boxes i

rows : History → ℕ → List (Option ℕ)
rows h i = ((after system law storage ok h).plain.boxes i).now.rows

-- ---- an ask, its record stored, a commit

-- Box 1 asks a tick (entries 0 and 1) and stores its record. The Propose leaves once the tick is committed (entry 4), not before.
abbrev asked : History
asked = AT 1 (some 100) ∷ store 1 ∷ send 1 ∷ Commit 1 1 ∷ send 1 ∷ []

propose : List ℕ
propose = 1 ∷ 1 ∷ 1 ∷ 0 ∷ 0 ∷ 1 ∷ 0 ∷ 1 ∷ 100 ∷ []

asked-frames : (frame asked 3 ≡ []) × (frame asked 5 ≡ propose)
unfolding frame propose after steps step Power.step missed pick majority coordinator beats count better bad_sender bad_place bad_base unwanted
    tick after_tick raise give_up arrive receive hear_ack hear_estimate after_ask after_step commits after_commit
asked-frames = (refl, refl)

-- The ask makes no step, and the commit makes it.
asked-rows : (rows (AT 1 (some 100) ∷ []) 1 ≡ []) × (rows (AT 1 (some 100) ∷ Commit 1 1 ∷ []) 1 ≡ some 100 ∷ [])
unfolding rows after steps step Power.step missed pick majority coordinator beats count better bad_sender bad_place bad_base unwanted
    tick after_tick raise give_up arrive receive hear_ack hear_estimate after_ask after_step commits after_commit
asked-rows = (refl, refl)

-- The record may as well be stored after the commit, by entry 4: the Propose leaves then, not before.
abbrev committed_first : History
committed_first = AT 1 (some 100) ∷ Commit 1 1 ∷ send 1 ∷ store 1 ∷ send 1 ∷ []

committed-frames : (frame committed_first 3 ≡ []) × (frame committed_first 5 ≡ propose)
unfolding frame propose after steps step Power.step missed pick majority coordinator beats count better bad_sender bad_place bad_base unwanted
    tick after_tick raise give_up arrive receive hear_ack hear_estimate after_ask after_step commits after_commit
committed-frames = (refl, refl)

-- ---- the record of the unstepped replica

-- All three boxes tick with readings of their own, and store; the Propose of box 1 leaves by entry 2. Box 2 asks about it (entries 7 and 8)
-- and stores what it asked for.
abbrev begun : History → History
begun h =
    T 1 (some 100) ∷ store 0 ∷ send 0 ∷ T 2 (some 200) ∷ store 3 ∷ T 3 (some 300) ∷ store 5 ∷ AD 2 2 ∷ store 8 ∷ h

-- Then the record of the replica as it is counts as made before, and storing it (entry 10) does nothing.
unstepped : box (begun (store 7 ∷ [])) 2 ≡ box (begun []) 2
unfolding box after steps step Power.step missed pick majority coordinator beats count better bad_sender bad_place bad_base unwanted
    tick after_tick raise give_up arrive receive hear_ack hear_estimate after_ask after_step commits after_commit
unstepped = refl

-- Nor does an event that is not ok make another one while the ask can be committed: no frame left by entry 0, and there is nothing to store of
-- entry 10.
ignored : box (begun (D 2 0 ∷ store 10 ∷ [])) 2 ≡ box (begun []) 2
unfolding box after steps step Power.step missed pick majority coordinator beats count better bad_sender bad_place bad_base unwanted
    tick after_tick raise give_up arrive receive hear_ack hear_estimate after_ask after_step commits after_commit
ignored = refl

-- So once the Ack left (entry 12), a return gives the replica that sent it. It takes over with the estimate that it acknowledged, and both
-- commands are the same. Had it returned unstepped, boxes 2 and 3 would decide 100 in the period in which box 1 decided 50.
returned : (box (begun (store 7 ∷ Commit 2 1 ∷ send 8 ∷ back 2 0 ∷ [])) 2).now ≡ (box (begun (store 7 ∷ Commit 2 1 ∷ [])) 2).now
unfolding box after steps step Power.step missed pick majority coordinator beats count better bad_sender bad_place bad_base unwanted
    tick after_tick raise give_up arrive receive hear_ack hear_estimate after_ask after_step commits after_commit
returned = refl

returned-commands : commands (begun (
    store 7 ∷ Commit 2 1 ∷ send 8 ∷ D 1 12 ∷ store 13 ∷ issue 13 ∷ back 2 0 ∷ G 2 ∷ store 17 ∷ G 3 ∷ store 19 ∷ send 19 ∷ D 2 21 ∷ store 22
    ∷ send 22 ∷ D 3 24 ∷ store 25 ∷ send 25 ∷ D 2 27 ∷ store 28 ∷ issue 28 ∷ []))
    ≡ (1 ∷ 50 ∷ []) ∷ (1 ∷ 50 ∷ []) ∷ []
unfolding commands after steps step Power.step missed pick majority coordinator beats count better bad_sender bad_place bad_base unwanted
    tick after_tick raise give_up arrive receive hear_ack hear_estimate after_ask after_step commits after_commit
returned-commands = refl

-- ---- never committed

-- Box 1 asks a tick, stores its record, stops and returns: the tick has occurred. Its Propose never leaves, and its ticket is gone.
abbrev lost : History
lost = AT 1 (some 100) ∷ store 1 ∷ back 1 0 ∷ Commit 1 1 ∷ send 1 ∷ []

lost-occurred : (rows lost 1 ≡ some 100 ∷ []) × (frame lost 5 ≡ [])
unfolding rows frame after steps step Power.step missed pick majority coordinator beats count better bad_sender bad_place bad_base unwanted
    tick after_tick raise give_up arrive receive hear_ack hear_estimate after_ask after_step commits after_commit
lost-occurred = (refl, refl)

-- ---- tickets that make no step

-- void by another ask; of an ask that was not ok; void by a step; committed before; given before a return, with the record stored and without
no_step : (rows (AT 1 (some 100) ∷ AT 1 (some 50) ∷ Commit 1 1 ∷ []) 1 ≡ [])
    × (rows (AT 1 (some 100) ∷ AD 1 0 ∷ Commit 1 2 ∷ []) 1 ≡ [])
    × (rows (AT 1 (some 100) ∷ T 1 (some 50) ∷ Commit 1 1 ∷ []) 1 ≡ some 50 ∷ [])
    × (rows (AT 1 (some 100) ∷ Commit 1 1 ∷ Commit 1 1 ∷ []) 1 ≡ some 100 ∷ [])
    × (rows (AT 1 (some 100) ∷ store 1 ∷ back 1 1 ∷ Commit 1 1 ∷ []) 1 ≡ some 100 ∷ none ∷ [])
    × (rows (AT 1 (some 100) ∷ back 1 0 ∷ Commit 1 1 ∷ []) 1 ≡ [])
unfolding rows after steps step Power.step missed pick majority coordinator beats count better bad_sender bad_place bad_base unwanted
    tick after_tick raise give_up arrive receive hear_ack hear_estimate after_ask after_step commits after_commit
no_step = (refl, refl, refl, refl, refl, refl)

-- the other ask's ticket, and one given after a return, make theirs
a-step : (rows (AT 1 (some 100) ∷ AT 1 (some 50) ∷ Commit 1 2 ∷ []) 1 ≡ some 50 ∷ [])
    × (rows (AT 1 (some 100) ∷ back 1 0 ∷ AT 1 (some 50) ∷ Commit 1 1 ∷ []) 1 ≡ some 50 ∷ [])
unfolding rows after steps step Power.step missed pick majority coordinator beats count better bad_sender bad_place bad_base unwanted
    tick after_tick raise give_up arrive receive hear_ack hear_estimate after_ask after_step commits after_commit
a-step = (refl, refl)
