-- What a fresh box has, and what a step that was not asked gives at a box, from what their parts give. Assumes nothing.
use mathlib.Core.Path.{◌≡◌, refl, ap, ◌∙◌}
use native.Mathlib.Omega.{arith}
use mathlib.Core.List.{List}
use Prim.Native.Nat.{ℕ}
use lib.ListN.{replicate}
use Rattle.std.specs.Prelude.{Bool, true, false, eqb, Result, Ok, Err, IfOk}
use Rattle.std.specs.Result.{result_unwrap_or}
use Rattle.lists.specs.Choice.{pick}
use Rattle.refusal.specs.declared.Refusal.{Refusal}
use Rattle.refusal.specs.Numbers.{number}
use Rattle.scram.specs.Answers.{Done, Refused, answered, answered_of}
use Rattle.frame.specs.Lengths.{longest_frame, longest_command}
use Rattle.replica.specs.declared.Settings.{Settings}
use Rattle.replica.specs.declared.Replica.{Replica}
use Rattle.replica.specs.Settings.{settings_refusal, blank_settings}
use Rattle.replica.specs.Calls.{Outcomes, made_answer, made, fresh_of}
use Rattle.asks.specs.declared.Stepped.{Stepped}
use Rattle.asks.specs.Asking.{Steps}
use Rattle.script.specs.declared.boxes.Kept.{Kept}
use Rattle.script.specs.declared.boxes.Effect as Given
use Rattle.script.specs.Boxes.{Gives, stepping, step_giving}

pub stepped-gives : (b : Kept) {o : Outcomes} {one : Stepped} {r : Given.Effect} {frame command : List ℕ}
    → Steps b.ticketed o one (replicate longest_frame 0) frame (replicate longest_command 0) command
    → r ≡ step_giving b one frame command → Gives (stepping b o) r
stepped-gives b {o} {one} {r} s e =
    record {
      answer = ap (λ (r : Given.Effect). answered r.answer) e ∙ s.answer;
      kept =
          ap (λ (r : Given.Effect). r.kept) e
          ∙ (λ i. record {
            ticketed = record { replica = s.replica i; tickets = s.tickets i };
            stored = b.stored;
            recorded = b.recorded;
            latest = b.latest;
          });
      gave =
          ap (λ (r : Given.Effect). r.gave) e
          ∙ (λ i. record { frame = s.frame-bytes i; sent = s.frame-length i; command = s.command-bytes i; issued = s.command-length i });
    }

-- the replica of a fresh box: the one that making gives, else one of no settings
pub made-or-blank : (s : Settings) (r : Result Replica Refusal) → answered_of r ≡ made_answer s → IfOk r (λ x. x ≡ made s)
    → result_unwrap_or r (fresh_of blank_settings) ≡ made s
unfolding made pick
made-or-blank s (Ok x) e f = f
made-or-blank s (Err refusal) e f = by (eqb (settings_refusal s) 0) refl e
  where
    by : (t : Bool) → eqb (settings_refusal s) 0 ≡ t → Refused (number refusal) ≡ made_answer s → fresh_of blank_settings ≡ made s
    by true z e = absurd (let d : Refused (number refusal) ≡ Done = rw z at e in let n : ◌≡◌ {A = ℕ} 0 1 = cc in omega arith)
    by false z e = rw z
