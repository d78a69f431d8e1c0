-- `printing::put_command` meets its contract. Assumes nothing.
use mathlib.Core.Path.{◌≡◌, ap, ◌∙◌}
use lib.ListN.{length, take}
use borrow.Author.Tests.{eq-eqb, ne_eqb}
use Rattle.lists.specs.Choice.{pick}
use native.Mathlib.Numerals.{unary_clauses}
use Rattle.text.specs.Printing.{listed}
use Rattle.script.specs.Printing.{command_word}
use Rattle.text.proofs.PrintingLaws.{then-puts, puts-same, in_use}
use borrow.Author.Rules.{rules}
use Rattle.script.proofs.printing.put_command.Goals as goal

pub returns-then-size-eq0 : goal.returns-then-size-eq0
unfolding command_word pick
returns-then-size-eq0 c =
    rw (eq-eqb _ _ c.if-size-eq0.true)
    (then-puts c.put_byte-at.ensures
    c.put_byte.ensures)

pub returns : goal.returns
unfolding command_word pick
returns c =
    let four : length c.command_values-values.result ≡ 4 =
    search rules in
    let s = c.args in
    let v = c.command_values-values in
    let u = c.min.ensures in
    let same = ap listed ((simp unary_clauses at (in_use v.result 4 s.p _ four u)) ∙ ap (take s.p) v.ensures) in
    rw (ne_eqb _ _ c.if-size-eq0.false)
    (then-puts c.put_byte-at.ensures (then-puts (puts-same same c.put_list-at.ensures) c.put_star.ensures))
