-- The numbers of the refusals.
use Rattle.std.specs.Prelude.{ℕ, Result, Ok, Err}
use Rattle.refusal.specs.declared.Refusal.{Refusal}
use Rattle.refusal.specs.declared.Refusal.TheVariants.{Group, Sizes, Coefficient, Limits, Area, LastPeriod, Mark, Frame, Sender, Place, Base, LastView, PageArea, Page, Record, Missed, Ticket, Quorums}

-- "A refusal returns its number": that of the table under "Where each refusal is made"
abbrev pub number : Refusal → ℕ
number Group = 1
number Sizes = 2
number Coefficient = 3
number Limits = 4
number Area = 5
number LastPeriod = 6
number Mark = 7
number Frame = 8
number Sender = 9
number Place = 10
number Base = 11
number LastView = 12
number PageArea = 13
number Page = 14
number Record = 15
number Missed = 16
number Ticket = 17
number Quorums = 18

-- the number of the refusal of a call, 0 where nothing is refused
abbrev pub number_of : {A : Type 0} → Result A Refusal → ℕ
number_of (Ok _) = 0
number_of (Err refusal) = number refusal
