-- `page_calls::steps_read_page` meets its contract. Assumes nothing.
use Rattle.std.proofs.Common.{◌≡◌, sym, ap, ◌∙◌}
use Rattle.std.proofs.lemmas.Result.{IfOk-at_ok}
use Rattle.refusal.specs.Numbers.{number_of}
use Rattle.refusal.proofs.Numbers.{number-not-0}
use Rattle.pages.specs.Reading.{read_refusal}
use Rattle.winder.proofs.Refused.{done, refused}
use Rattle.steps.specs.Pages.{words_of}
use Rattle.steps.proofs.PageLaws.{count-read, line_read}
use Rattle.steps.proofs.page_calls.steps_read_page.Goals as goal

pub returns-in-Err : goal.returns-in-Err
returns-in-Err c =
    let answer = c.refusal_number.ensures ∙ ap number_of (sym c.in-Err.is) ∙ c.read.ensures.answer in
    let no : read_refusal c.args.p c.args.bytes.now ≡ 0 → ⊥ = λ h. number-not-0 c.in-Err.refusal (sym c.refusal_number.ensures ∙ answer ∙ h) in
    record { answer = answer; lines = refused _ _ _ no; entry = refused _ _ _ no }

pub returns-in-Ok : goal.returns-in-Ok
returns-in-Ok c =
    let s = c.args in
    let answer = ap number_of (sym c.in-Ok.is) ∙ c.read.ensures.answer in
    let page = IfOk-at_ok _ c.in-Ok.is c.read.ensures.page in
    record {
      answer = answer;
      lines = count-read s.p s.bytes.now (sym answer) _ page ∙ done _ _ _ (sym answer);
      entry =
          c.words_of.ensures
          ∙ ap words_of (c.line_of.ensures ∙ line_read s.p s.bytes.now (sym answer) _ page s.line)
          ∙ done _ _ _ (sym answer);
    }
