-- `make` meets its contract. Assumes nothing.
use Rattle.std.proofs.Common.{◌≡◌, sym, ap, ◌∙◌, rules}
use Rattle.law.proofs.Laws.{sizes-accepted}
use Rattle.refusal.specs.Numbers.{number}
use Rattle.refusal.proofs.Numbers.{number-not-0}
use Rattle.scram.specs.Answers.{Refused, answered_of}
use Rattle.replica.proofs.Accepted.{accepted}
use Rattle.replica.proofs.Calls.{made-done, made-refused}
use Rattle.replica.proofs.Replica.make.Goals as goal

pub returns-in_err-check_settings-clause-answer : goal.returns-in_err-check_settings-clause-answer
returns-in_err-check_settings-clause-answer c =
    let e = c.in_err-check_settings.ensures in
    let a : answered_of c.from_residual.result ≡ Refused (number c.in_err-check_settings.field-0.0) = search rules in
    a ∙ ap Refused e ∙ sym (made-refused c.args.settings (λ z. number-not-0 _ (e ∙ z))).0

pub fresh-requires : goal.fresh-requires
fresh-requires c = (sizes-accepted _ (accepted c.args.settings (sym c.in_ok-check_settings.ensures)).law).n6

pub returns-clause-answer : goal.returns-clause-answer
returns-clause-answer c = sym (made-done c.args.settings (sym c.in_ok-check_settings.ensures)).0

pub returns-clause-replica : goal.returns-clause-replica
returns-clause-replica c = c.fresh.ensures ∙ sym (made-done c.args.settings (sym c.in_ok-check_settings.ensures)).1
