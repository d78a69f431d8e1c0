-- `winder_write_page` meets its contract. Assumes nothing.
use mathlib.Core.Path.{sym, ap, ◌∙◌}
use Rattle.std.proofs.lemmas.Result.{IfOk-at_ok}
use Rattle.refusal.specs.Numbers.{number_of}
use Rattle.refusal.proofs.Numbers.{number-not-0}
use Rattle.winder.proofs.Refused.{done, refused}
use Rattle.winder.proofs.page_calls.winder_write_page.Goals as goal

pub returns-in-Ok : goal.returns-in-Ok
returns-in-Ok c =
    let w = c.write.ensures in
    let answer = ap number_of (sym c.in-Ok.is) ∙ w.answer in
    record { answer = answer; area = w.bytes; length = IfOk-at_ok _ c.in-Ok.is w.count ∙ done _ _ _ (sym answer) }

pub returns-in-Err : goal.returns-in-Err
returns-in-Err c =
    let w = c.write.ensures in
    let answer = ap number_of (sym c.in-Err.is) ∙ w.answer in
    record {
      answer = c.refusal_number.ensures ∙ answer;
      area = w.bytes;
      length = refused _ _ _ (λ h. number-not-0 c.in-Err.refusal (answer ∙ h));
    }
