-- What the calls of crate ticketed give, as numbers and in areas. Assumes nothing.
use mathlib.Core.Path.{◌≡◌, refl, sym, ap, ◌∙◌}
use mathlib.Core.Bool.{Bool, true, false}
use mathlib.Core.List.{List, [], ◌∷◌}
use Prim.Native.Nat.{ℕ}
use lib.Dec.{eqb}
use borrow.Author.Tests.{eqb-true}
use Rattle.lists.proofs.Choice.{pick_true, pick-false}
use Rattle.scram.specs.Answers.{Done, Refused, answered}
use Rattle.replica.specs.Calls.{Outcomes}
use Rattle.ticketed.specs.declared.Asked.{Asked}
use Rattle.ticketed.specs.declared.Stepped.{Stepped}
use Rattle.ticketed.specs.Calls as Ticketed
use Rattle.ticketed.specs.Calls.{answer_of}
use Rattle.winder.specs.Answers.{number_of}
use Rattle.winder.specs.TicketAreas.{Asks, Steps}

-- the number of a refusal, or 0
pub number-of : (number : ℕ) → number_of (answer_of number) ≡ number
number-of number = by (eqb number 0) refl
  where
    by : (t : Bool) → eqb number 0 ≡ t → number_of (answer_of number) ≡ number
    by true e = ap number_of (pick_true (eqb number 0) Done (Refused number) e) ∙ sym (eqb-true number 0 e)
    by false e = ap number_of (pick-false (eqb number 0) Done (Refused number) e)

module _ {b : List ℕ} {o : Outcomes} {number : ℕ} {b' lengths frame frame' command command' : List ℕ} where
  -- an ask
  pub ask-left : {r : Asked} {ticket area area' : List ℕ} → Ticketed.Asks b o r b' area area' frame frame' command command'
      → number ≡ number_of (answered r.answer) → lengths ≡ r.frame ∷ r.command ∷ [] → ticket ≡ r.ticket ∷ []
      → Asks b o number b' lengths ticket area area' frame frame' command command'
  ask-left d answer written given = record {
    answer = answer ∙ ap number_of d.answer;
    replica = d.replica;
    written = written ∙ (λ i. d.frame-length i ∷ d.command-length i ∷ []);
    given = given ∙ ap (λ (n : ℕ). n ∷ []) d.ticket;
    record-bytes = d.record-bytes;
    frame-bytes = d.frame-bytes;
    command-bytes = d.command-bytes;
  }

  -- a step
  pub step_left : {r : Stepped} → Ticketed.Steps b o r b' frame frame' command command'
      → number ≡ number_of (answered r.answer) → lengths ≡ r.frame ∷ r.command ∷ []
      → Steps b o number b' lengths frame frame' command command'
  step_left d answer written = record {
    answer = answer ∙ ap number_of d.answer;
    replica = d.replica;
    written = written ∙ (λ i. d.frame-length i ∷ d.command-length i ∷ []);
    frame-bytes = d.frame-bytes;
    command-bytes = d.command-bytes;
  }
