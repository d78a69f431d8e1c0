-- "The firmware needs the new record first, so C gets both calls": what an ask, a commit or a step leaves in the areas of a caller, where a replica lies with
-- its tickets in one area. The definitions are crate ticketed's.
use Rattle.std.specs.Prelude.{ℕ, ◌≡◌, List, [], ◌∷◌, length}
use Rattle.octets.specs.Areas.{over}
use Rattle.replica.specs.Calls.{Outcomes}
use Rattle.asks.specs.Asking.{asked_record}
use Rattle.ticketed.specs.Reading.{ticketed_in}
use Rattle.ticketed.specs.Calls.{sent_at, issued_at, ticket_at, asked_area, stepped_area}
use Rattle.winder.specs.Answers.{number_of}

-- An ask leaves what this outcome does: its answer, the replica's area from b to b', the length written to each lent area, its ticket, and each area to the
-- last byte. Lengths and ticket are written whatever the answer is.
pub record Asks (b : List ℕ) (o : Outcomes) (number : ℕ) (b' lengths ticket area area' frame frame' command command' : List ℕ) : Type 0 where
  pub answer : number ≡ number_of o.answer
  pub replica : b' ≡ asked_area b o (length area)
  pub written : lengths ≡ length (sent_at b o) ∷ length (issued_at b o) ∷ []
  pub given : ticket ≡ ticket_at b ∷ []
  pub record-bytes : area' ≡ over (asked_record (ticketed_in b) o (length area)) area
  pub frame-bytes : frame' ≡ over (sent_at b o) frame
  pub command-bytes : command' ≡ over (issued_at b o) command

-- a step without an ask leaves what this outcome does
pub record Steps (b : List ℕ) (o : Outcomes) (number : ℕ) (b' lengths frame frame' command command' : List ℕ) : Type 0 where
  pub answer : number ≡ number_of o.answer
  pub replica : b' ≡ stepped_area b o
  pub written : lengths ≡ length (sent_at b o) ∷ length (issued_at b o) ∷ []
  pub frame-bytes : frame' ≡ over (sent_at b o) frame
  pub command-bytes : command' ≡ over (issued_at b o) command
