-- What the calls of an implementation must show, so that demand 3 holds of it: each call does nothing and is refused, or does what the
-- protocol's step does; and a command's period is read back from its bytes.
use Rattle.std.specs.Prelude.{◌≡◌, ◌⊎◌, Bool, true, false, List, [], ℕ, ◌≤◌}
use Rattle.std.proofs.Math.Option.{Option, none, some}
use Rattle.scram.specs.Held.{Law, Group, Held, Message, Command, Input, Tick, Arrival, GiveUp, Answered, Outcome, fresh}
use Rattle.scram.specs.Answers.{Done, Ignored, Refused}
use Rattle.scram.specs.Events.{largest, tick, give_up, arrive}
use Rattle.scram.specs.History.{Result, System}

-- whether an answer is a refusal
abbrev pub is_refused : Answered → Bool
is_refused Done = false
is_refused Ignored = false
is_refused (Refused number) = true

-- the call did nothing, and was refused
pub record Still {Box : Type 0} (c : Box) (r : Result Box) : Type 0 where
  pub box : r.box ≡ c
  pub refused : r.refused ≡ true
  pub frame : r.frame ≡ []
  pub command : r.command ≡ []

module _ {State Readings Values : Type 0} (system : System State Readings Values) where
  -- an input with the message that arrives, as the call gets it: with the message's bytes
  abbrev pub in_bytes : Input system.Handed (Message State Readings) → Input system.Handed (List ℕ)
  in_bytes (Tick y) = Tick y
  in_bytes (Arrival m) = Arrival (system.frame_bytes m)
  in_bytes GiveUp = GiveUp

  -- the protocol's step for an input, at box i
  abbrev pub outcome : Law State Readings Values → Group → ℕ → Held State Readings → Input system.Handed (Message State Readings)
      → Outcome State Readings Values
  outcome law group i s (Tick y) = tick law group i s (system.beyond y) (system.row y)
  outcome law group i s (Arrival m) = arrive law group i s m
  outcome law group i s GiveUp = give_up law group i s

  -- the bytes of the command that a step issues
  abbrev pub Commanded : Option (Command Values) → List ℕ → Type 0
  Commanded none bytes = bytes ≡ []
  Commanded (some c) bytes = bytes ≡ system.command_bytes c

  -- a message that arrives is one that the frames can carry
  abbrev pub Arrives : (Message State Readings → Type 0) → Input system.Handed (Message State Readings) → Type 0
  Arrives Carried (Tick y) = Unit {0}
  Arrives Carried (Arrival m) = Carried m
  Arrives Carried GiveUp = Unit {0}

  -- the bytes of the message that a step sends, one that the frames can carry
  abbrev pub Sent : (Message State Readings → Type 0) → Option (Message State Readings) → List ℕ → Type 0
  Sent Carried none bytes = bytes ≡ []
  Sent Carried (some m) bytes = (bytes ≡ system.frame_bytes m) × Carried m

  module _ (Kept : ℕ → system.Box → Type 0) (Carried : Message State Readings → Type 0) where
    -- the call at box i did what the protocol's step does
    pub record Does (i : ℕ) (o : Outcome State Readings Values) (r : Result system.Box) : Type 0 where
      pub kept : Kept i r.box
      pub held : system.held r.box ≡ o.held
      pub refused : r.refused ≡ is_refused o.answer
      pub frame : Sent Carried o.sent r.frame
      pub command : Commanded o.command r.command

    -- the calls, for replicas of box i of which `Kept i` always holds and messages of which `Carried` does; and the bytes of commands
    pub record Shown (law : Law State Readings Values) (group : Group) : Type 0 where
      pub fresh_kept : (i : ℕ) → Kept i (system.fresh i)
      pub fresh_held : (i : ℕ) → system.held (system.fresh i) ≡ fresh law
      pub calls : (i : ℕ) (c : system.Box) (e : Input system.Handed (Message State Readings)) (a : system.Areas) → Kept i c → Arrives Carried e
          → Does i (outcome law group i (system.held c) e) (system.call c (in_bytes e) a) ⊎ Still c (system.call c (in_bytes e) a)
      pub period_read : (c : Command Values) → c.period ≤ largest → system.command_period (system.command_bytes c) ≡ c.period
