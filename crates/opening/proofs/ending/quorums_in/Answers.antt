-- `ending::quorums_in` meets its contract. Assumes nothing.
use mathlib.Core.Path.{sym, ap, ◌∙◌}
use native.Mathlib.Omega.{arith}
use borrow.Author.Tests.{leb-true}
use Rattle.lists.specs.Choice.{pick}
use Rattle.text.specs.Numbers.{number_of}
use Rattle.opening.specs.Opening.{size_in, is_quorums, quorums_at, quorums_in}
use Rattle.opening.proofs.EndingLaws.{with-quorums}
use Rattle.opening.proofs.ending.quorums_in.Goals as goal

pub returns-then-not-is_quorums : goal.returns-then-not-is_quorums
unfolding quorums_in pick
returns-then-not-is_quorums c =
    let q = sym (c.is_quorums.ensures ∙ ap is_quorums c.field.ensures) ∙ c.if-not-is_quorums.true in
    rw q c.majorities-majority.ensures

pub overflow_cast-to_decide : goal.overflow_cast-to_decide
overflow_cast-to_decide c =
    let q = sym (c.is_quorums.ensures ∙ ap is_quorums c.field.ensures)
    ∙ c.if-not-is_quorums.false in
    let count = c.args.count in
    let line = c.args.line.now in
    let n = with-quorums count line q c.requires.1 in
    let a = c.size_in-to_decide.ensures ∙ ap (λ w. size_in (number_of w)) c.field-2.ensures in
    record { fits = omega (arith, a, leb-true (quorums_at count line).to_decide 255 n.decide) }

pub overflow_cast-to_propose : goal.overflow_cast-to_propose
overflow_cast-to_propose c =
    let q = sym (c.is_quorums.ensures
    ∙ ap is_quorums c.field.ensures)
    ∙ c.if-not-is_quorums.false in
    let count = c.args.count in
    let line = c.args.line.now in
    let n = with-quorums count line q c.requires.1 in
    let b = c.size_in-to_propose.ensures ∙ ap (λ w. size_in (number_of w)) c.field-3.ensures in
    record { fits = omega (arith, b, leb-true (quorums_at count line).to_propose 255 n.propose) }

pub returns : goal.returns
unfolding quorums_in pick
returns c =
    let q = sym (c.is_quorums.ensures
    ∙ ap is_quorums c.field.ensures)
    ∙ c.if-not-is_quorums.false in
    let a = c.size_in-to_decide.ensures ∙ ap (λ w. size_in (number_of w)) c.field-2.ensures in
    let b = c.size_in-to_propose.ensures ∙ ap (λ w. size_in (number_of w)) c.field-3.ensures in
    rw q (λ i. record { to_decide = a i; to_propose = b i })
