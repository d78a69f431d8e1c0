-- Calls at one box, one after the other: steps, asks, commits and returns. So it can be said that an ask which is never committed leaves all calls that
-- follow as if it had not been, but for tickets: "an event never committed has not occurred".
use Rattle.std.specs.Prelude.{ℕ, ◌+◌, ◌<◌, ◌≡◌, Bool, List, [], ◌∷◌, leb}
use Rattle.lists.specs.Choice.{pick}
use Rattle.tickets.specs.Tickets.{Tickets, largest_ticket, no_tickets, is_spent, ticket_for, voided, after_ask, after_step, commits, after_commit}

-- what an event gives at a replica: whether the answer is ok, the replica then, and all that the call answers and writes
pub record Result (Replica Output : Type 0) : Type 0 where
  pub ok : Bool
  pub replica : Replica
  pub output : Output

-- a call
pub data Call (Replica Event : Type 0) : Type 0 where
  -- an event that is not asked
  Step : Event → Call Replica Event
  Ask : Event → Call Replica Event
  Commit : ℕ → Call Replica Event
  -- the box is made anew, or returns, as this replica
  Return : Replica → Call Replica Event

-- what a call gives its caller
pub data Given (Output : Type 0) : Type 0 where
  Stepped : Output → Given Output
  Asked : Output → (ticket : ℕ) → Given Output
  Committed : (made : Bool) → Given Output
  Returned : Given Output

-- a box: its replica, with the tickets beside it
pub record Box (Replica : Type 0) : Type 0 where
  pub replica : Replica
  pub tickets : Tickets Replica

-- An implementation by what an event gives at a replica; `ignored` is what an ask at it gives after the largest ticket.
module _ {Replica Event Output : Type 0} (step : Replica → Event → Result Replica Output) (ignored : Replica → Output) where
  -- the box after a call
  unfoldable pub after : Box Replica → Call Replica Event → Box Replica
  after b (Step e) = let r = step b.replica e in record { replica = r.replica; tickets = after_step b.tickets r.ok }
  after b (Ask e) = let r = step b.replica e in record { replica = b.replica; tickets = after_ask b.tickets r.ok r.replica }
  after b (Commit ticket) = record {
    replica = pick (commits b.tickets ticket) b.tickets.step b.replica;
    tickets = after_commit b.tickets ticket;
  }
  after b (Return r) = record { replica = r; tickets = no_tickets r }

  -- and what the call gives
  unfoldable pub given : Box Replica → Call Replica Event → Given Output
  given b (Step e) = Stepped (step b.replica e).output
  given b (Ask e) = Asked (pick (is_spent b.tickets) (ignored b.replica) (step b.replica e).output) (ticket_for b.tickets)
  given b (Commit ticket) = Committed (commits b.tickets ticket)
  given b (Return r) = Returned

  -- what calls give, one after the other
  unfoldable pub all_given : Box Replica → List (Call Replica Event) → List (Given Output)
  all_given b [] = []
  all_given b (c ∷ cs) = given b c ∷ all_given (after b c) cs

  -- and the box after them
  unfoldable pub after_all : Box Replica → List (Call Replica Event) → Box Replica
  after_all b [] = b
  after_all b (c ∷ cs) = after_all (after b c) cs

-- ---- "but for tickets"

-- a ticket above n is by one higher
abbrev pub higher : ℕ → ℕ → ℕ
higher n ticket = pick (leb ticket n) ticket (ticket + 1)

-- calls with their tickets above n so, until the box returns: from there on tickets count from 1
unfoldable pub called_higher : {Replica Event : Type 0} → ℕ → List (Call Replica Event) → List (Call Replica Event)
called_higher n [] = []
called_higher n (Step e ∷ cs) = Step e ∷ called_higher n cs
called_higher n (Ask e ∷ cs) = Ask e ∷ called_higher n cs
called_higher n (Commit ticket ∷ cs) = Commit (higher n ticket) ∷ called_higher n cs
called_higher n (Return r ∷ cs) = Return r ∷ cs

-- and what they give
unfoldable pub given_higher : {Output : Type 0} → ℕ → List (Given Output) → List (Given Output)
given_higher n [] = []
given_higher n (Stepped o ∷ gs) = Stepped o ∷ given_higher n gs
given_higher n (Asked o ticket ∷ gs) = Asked o (higher n ticket) ∷ given_higher n gs
given_higher n (Committed made ∷ gs) = Committed made ∷ given_higher n gs
given_higher n (Returned ∷ gs) = Returned ∷ gs

-- how many asks there are until the box returns
unfoldable pub asks_in : {Replica Event : Type 0} → List (Call Replica Event) → ℕ
asks_in [] = 0
asks_in (Step e ∷ cs) = asks_in cs
asks_in (Ask e ∷ cs) = 1 + asks_in cs
asks_in (Commit ticket ∷ cs) = asks_in cs
asks_in (Return r ∷ cs) = 0

-- An ask that is never committed. After it the calls give what they would give without it, and leave the same replica, but for tickets: those of later asks
-- are by one higher, and the ticket before it is void. No commit of `called_higher` has the ask's own ticket. Tickets must last, with the ask and without.
abbrev pub NeverCommitted : Type 1
NeverCommitted = (Replica Event Output : Type 0) (step : Replica → Event → Result Replica Output) (ignored : Replica → Output) (b : Box Replica) (e : Event)
    (cs : List (Call Replica Event)) → b.tickets.latest + asks_in cs < largest_ticket
    → let n = b.tickets.latest in
    let without : Box Replica = record { replica = b.replica; tickets = voided b.tickets } in
    let with = after step ignored b (Ask e) in
    (all_given step ignored with (called_higher n cs) ≡ given_higher n (all_given step ignored without cs))
    × ((after_all step ignored with (called_higher n cs)).replica ≡ (after_all step ignored without cs).replica)
