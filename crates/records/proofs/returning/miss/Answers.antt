-- `returning::miss` meets its contract. Assumes nothing.
use Rattle.std.proofs.Common.{sym, ap, ◌∙◌, inl, inr}
use Rattle.readings.specs.declared.Readings.{Readings}
use Rattle.scram.specs.Answers.{answered}
use Rattle.scram.specs.Shown.{is_refused}
use Rattle.frame.specs.Lengths.{longest_frame, longest_command}
use Rattle.replica.specs.Held.{held_of}
use Rattle.replica.specs.Calls.{tick_outcome}
use Rattle.records.proofs.ReturningLaws.{none-missing}
use Rattle.records.proofs.returning.miss.Goals as goal

pub returns-in-Refused-clause-refused : goal.returns-in-Refused-clause-refused
returns-in-Refused-clause-refused c =
    let r = c.args.replica in
    ap (λ a. is_refused (answered a)) (sym c.in-Refused.is)
    ∙ ap is_refused c.tick-stepped.ensures.answer
    ∙ ap (λ (y : Readings). is_refused (tick_outcome r y longest_frame longest_command).answer) none-missing

pub returns-in-Done : goal.returns-in-Done
returns-in-Done c =
    let r = c.args.replica in
    let same = ap is_refused c.tick-stepped.ensures.answer ∙ ap (λ (y : Readings). is_refused (tick_outcome r y longest_frame longest_command).answer) none-missing in record {
      refused = elim c.in-Done.is [
        | inl e ↦ ap (λ a. is_refused (answered a)) (sym e) ∙ same
        | inr e ↦ ap (λ a. is_refused (answered a)) (sym e) ∙ same
      ];
      replica = c.tick-stepped.ensures.replica
          ∙ ap (λ (y : Readings). record { settings = r.settings; held = held_of (tick_outcome r y longest_frame longest_command).held }) none-missing;
    }
