-- `steps_make` meets its contract. Assumes nothing.
use Rattle.std.proofs.Common.{sym, ap, ◌∙◌}
use Rattle.std.specs.Prelude.{Result}
use Rattle.std.specs.Result.{result_unwrap_or}
use Rattle.refusal.specs.declared.Refusal.{Refusal}
use Rattle.scram.specs.Answers.{answered_of}
use Rattle.replica.specs.declared.Replica.{Replica}
use Rattle.winder.specs.Answers.{number_of}
use Rattle.steps.proofs.Leaving.{makes, made-or-blank}
use Rattle.steps.proofs.calls.steps_make.Goals as goal

pub returns-in-Ok : goal.returns-in-Ok
returns-in-Ok c =
    let made = c.make-made.ensures in
    let same = c.unwrap_or-fresh.ensures ∙ ap (result_unwrap_or c.make-made.result) c.blank.ensures ∙ made-or-blank _ _ made.answer made.replica in
    makes c.settings_of.ensures made.answer same (ap (λ (m : Result Replica Refusal). number_of (answered_of m)) (sym c.in-Ok.is)) c.put_held.ensures

pub returns-in-Err : goal.returns-in-Err
returns-in-Err c =
    let made = c.make-made.ensures in
    let same = c.unwrap_or-fresh.ensures ∙ ap (result_unwrap_or c.make-made.result) c.blank.ensures ∙ made-or-blank _ _ made.answer made.replica in
    let number = c.refusal_number.ensures ∙ ap (λ (m : Result Replica Refusal). number_of (answered_of m)) (sym c.in-Err.is) in
    makes c.settings_of.ensures made.answer same number c.put_held.ensures
