-- `check_settings` meets its contract. Assumes nothing.
use Rattle.std.proofs.Common.{◌≡◌, sym, ◌∙◌, rules}
use Rattle.refusal.specs.Numbers.{number_of}
use Rattle.refusal.proofs.Numbers.{number-not-0}
use Rattle.law.specs.Settings.{settings_in, refusal}
use Rattle.replica.proofs.Accepted.{group-refused, law-refused, quorums-refused, not-refused}
use Rattle.replica.proofs.Lent.{refusal-seen}
use Rattle.replica.proofs.refusals.check_settings.Goals as goal

pub returns-then-bad_group : goal.returns-then-bad_group
returns-then-bad_group c = group-refused _ (sym c.bad_group.ensures ∙ c.if-bad_group.true)

pub returns-in_err-check : goal.returns-in_err-check
returns-in_err-check c =
    let s = c.args.settings.now in
    let e : number_of c.from_residual.result ≡ refusal (settings_in c.tables.result) = search rules in
    let seen = refusal-seen s.law c.tables.ensures in
    e ∙ seen ∙ law-refused s (sym c.bad_group.ensures ∙ c.if-bad_group.false) (λ z. number-not-0 _ (c.in_err-check.ensures ∙ seen ∙ z))

pub returns-then-bad_quorums : goal.returns-then-bad_quorums
returns-then-bad_quorums c =
    quorums-refused _ (sym c.bad_group.ensures ∙ c.if-bad_group.false) (sym (c.in_ok-check.ensures ∙ refusal-seen _ c.tables.ensures))
    (sym c.bad_quorums.ensures ∙ c.if-bad_quorums.true)

pub returns : goal.returns
returns c =
    not-refused _ (sym c.bad_group.ensures ∙ c.if-bad_group.false) (sym (c.in_ok-check.ensures ∙ refusal-seen _ c.tables.ensures))
    (sym c.bad_quorums.ensures ∙ c.if-bad_quorums.false)
