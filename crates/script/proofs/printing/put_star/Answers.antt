-- `printing::put_star` meets its contract. Assumes nothing.
use mathlib.Core.Path.{sym, ◌∙◌}
use Rattle.lists.specs.Choice.{pick}
use Rattle.script.specs.Printing.{star_word}
use Rattle.script.proofs.printing.put_star.Goals as goal

pub returns-then-command_limited : goal.returns-then-command_limited
unfolding star_word pick
returns-then-command_limited c =
    let limited = sym c.command_limited.ensures ∙ c.if-command_limited.true in
    rw limited c.put_word.ensures

pub returns : goal.returns
unfolding star_word pick
returns c =
    let limited = sym c.command_limited.ensures ∙ c.if-command_limited.false in
    rw limited c.put_word-2.ensures
