-- What a step leaves in the areas of a caller.
use Rattle.std.specs.Prelude.{ℕ, ◌≡◌, List, [], ◌∷◌, length}
use Rattle.octets.specs.Areas.{over}
use Rattle.scram.specs.Answers.{answered}
use Rattle.replica.specs.declared.Settings.{Settings}
use Rattle.replica.specs.declared.Replica.{Replica}
use Rattle.replica.specs.declared.Stepped.{Stepped}
use Rattle.replica.specs.Held as Replicas
use Rattle.replica.specs.Frames.{sent_bytes, issued_bytes}
use Rattle.replica.specs.Calls.{Outcomes, made_answer, made}
use Rattle.winder.specs.Answers.{number_of}
use Rattle.steps.specs.Areas.{Areas, held_of, areas_of}

-- the replica of these settings in a caller's areas
abbrev pub replica_of : Settings → Areas → Replica
replica_of s x = record { settings = s; held = held_of x }

-- making leaves its answer, and what the replica made holds
pub record Makes (s : Settings) (number : ℕ) (held : Areas) : Type 0 where
  pub answer : number ≡ number_of (made_answer s)
  pub replica : held ≡ areas_of (made s).held

-- the bytes of what a step at a replica sends
abbrev pub sent : Replica → Outcomes → List ℕ
sent r o = sent_bytes r.settings.law.n r.settings.law.m o.sent

-- and of the command that it issues
abbrev pub issued : Replica → Outcomes → List ℕ
issued r o = issued_bytes r.settings.law.p o.command

-- a step laid out: its answer as a number, what is held, and the length written to each lent area
pub record Laid (r : Stepped) (number : ℕ) (held : Areas) (lengths : List ℕ) : Type 0 where
  pub answer : number ≡ number_of (answered r.answer)
  pub replica : held ≡ areas_of r.replica.held
  pub written : lengths ≡ r.frame ∷ r.command ∷ []

-- a call at a replica leaves what the protocol's step does there: its answer, what is held, the length written to each lent area, and each lent area
-- to the last byte, the frame area from frame to frame' and the command area from command to command'
pub record Leaves (r : Replica) (step : Replica → Outcomes) (number : ℕ) (held : Areas) (lengths frame frame' command command' : List ℕ)
    : Type 0 where
  pub answer : number ≡ number_of (step r).answer
  pub replica : held ≡ areas_of (Replicas.held_of (step r).held)
  pub written : lengths ≡ length (sent r (step r)) ∷ length (issued r (step r)) ∷ []
  pub frame-bytes : frame' ≡ over (sent r (step r)) frame
  pub command-bytes : command' ≡ over (issued r (step r)) command
