-- What is laid out is what the replica's contracts say. Assumes nothing.
use Prim.Native.Nat.{ℕ}
use mathlib.Core.Path.{◌≡◌, sym, ap, subst, ◌∙◌}
use Rattle.std.specs.Prelude.{Result, Ok, Err, IfOk}
use Rattle.std.specs.Result.{result_unwrap_or}
use Rattle.lists.proofs.Booleans.{never}
use Rattle.refusal.specs.declared.Refusal.{Refusal}
use mathlib.Core.List.{List, [], ◌∷◌}
use Rattle.transmitters.specs.declared.Reading.{Reading}
use Rattle.transmitters.specs.Conversion.{converted_row}
use Rattle.scram.specs.Answers.{Answered, answered_of}
use Rattle.replica.specs.declared.Settings.{Settings}
use Rattle.replica.specs.declared.Replica.{Replica}
use Rattle.replica.specs.declared.Stepped.{Stepped}
use Rattle.replica.specs.Calls.{Outcomes, tick_outcome, Gives, made_answer, made, fresh_of}
use Rattle.replica.specs.Settings.{blank_settings}
use Rattle.replica.proofs.Calls.{made-done, made-refused}
use Rattle.records.specs.Reading.{is_done}
use Rattle.steps.specs.Areas.{Areas, areas_of}
use Rattle.winder.specs.Answers.{number_of}
use Rattle.steps.specs.Calls.{Makes, Laid, Leaves}

module _ (step : Replica → Outcomes) {number : ℕ} {held : Areas} {lengths frame frame' command command' : List ℕ} where
  -- at the replica that the step was called at
  at : {r : Replica} {st : Stepped} → Gives r.settings (step r) st frame frame' command command' → Laid st number held lengths
      → Leaves r step number held lengths frame frame' command command'
  at gives laid =
      record {
        answer = laid.answer ∙ ap number_of gives.answer;
        replica = laid.replica ∙ ap (λ (r : Replica). areas_of r.held) gives.replica;
        written = laid.written ∙ (λ i. gives.frame-length i ∷ gives.command-length i ∷ []);
        frame-bytes = gives.frame-bytes;
        command-bytes = gives.command-bytes;
      }

  -- and at the replica in the caller's areas, which is the same, with what the protocol's step there does
  pub leaves : {r r' : Replica} {o : Outcomes} {st : Stepped} → r ≡ r' → o ≡ step r → Gives r.settings o st frame frame' command command'
      → Laid st number held lengths → Leaves r' step number held lengths frame frame' command command'
  leaves {r} {r'} {o} {st} same does gives laid =
      subst
      (λ (x : Replica). Leaves x step number held lengths frame frame' command command')
      same
      (at (subst (λ (x : Outcomes). Gives r.settings x st frame frame' command command') does gives) laid)

-- a tick with the same readings
pub same_row : (r : Replica) (frame command : ℕ) {y y' : List Reading} → y ≡ y'
    → tick_outcome r (converted_row y) frame command ≡ tick_outcome r (converted_row y') frame command
same_row r frame command row = ap (λ (x : List Reading). tick_outcome r (converted_row x) frame command) row

-- making leaves what its contract says, with the settings in the caller's areas
pub makes : {s s' : Settings} {a : Answered} {r : Replica} {number : ℕ} {held : Areas} → s ≡ s' → a ≡ made_answer s → r ≡ made s → number ≡ number_of a
    → held ≡ areas_of r.held → Makes s' number held
makes {number = number} {held = held} same answer replica laid put =
    subst
    (λ (s : Settings). Makes s number held)
    same
    (record { answer = laid ∙ ap number_of answer; replica = put ∙ ap (λ (x : Replica). areas_of x.held) replica })

-- the replica laid out where making is refused is the one that its definition gives
pub made-or-blank : (s : Settings) (m : Result Replica Refusal) → answered_of m ≡ made_answer s → IfOk m (λ (r : Replica). r ≡ made s)
    → result_unwrap_or m (fresh_of blank_settings) ≡ made s
made-or-blank s (Ok r) a e = e
made-or-blank s (Err refusal) a e = sym (made-refused s (λ z. never (ap is_done (a ∙ (made-done s z).0)))).1
