-- A history of document 01 as one with power cycles: no box returns, each step's record is stored at once, and its frame and its command
-- leave at once. Of such a history demand 3 with power cycles is demand 3 (proofs/Special).
use Rattle.std.specs.Prelude.{List, [], ◌∷◌, ℕ, zero, suc}
use Rattle.scram.specs.Held.{Input, Tick, Arrival, GiveUp}
use Rattle.scram.specs.History as Base
use Rattle.power.specs.Demand3.{Entry, Event, Store, FrameLeaves, CommandLeaves}

-- the number of the entry by which the frame of the base's entry k leaves: 4 k + 2
abbrev pub leaves_by : ℕ → ℕ
leaves_by zero = 2
leaves_by (suc k) = suc (suc (suc (suc (leaves_by k))))

-- an arriving frame is named by the entry by which it left
abbrev pub renumbered : {Handed : Type 0} → Input Handed ℕ → Input Handed ℕ
renumbered (Tick y) = Tick y
renumbered (Arrival k) = Arrival (leaves_by k)
renumbered GiveUp = GiveUp

-- the entry with its event so
abbrev pub step_of : {Handed Areas : Type 0} → Base.Entry Handed Areas → Base.Entry Handed Areas
step_of e = record { box = e.box; event = renumbered e.event; areas = e.areas }

-- the base's list, as entries from the number n on
unfoldable pub plainly : {Handed Areas : Type 0} → ℕ → List (Base.Entry Handed Areas) → List (Entry Handed Areas)
plainly n [] = []
plainly n (e ∷ h) = Event (step_of e) ∷ Store n ∷ FrameLeaves n ∷ CommandLeaves n ∷ plainly (suc (suc (suc (suc n)))) h
