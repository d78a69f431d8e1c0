-- `frame::read_command` meets its contract: each test of the code is a case of the definition, in their order. Assumes nothing.
use mathlib.Core.Path.{sym, ◌∙◌}
use Rattle.frame.proofs.CommandReading.{commands, most-commands, command-facts, read-command-sizes, read-command-malformed, read-command-done, command-read}
use Rattle.frame.proofs.read_command.Goals as goal

pub returns-then-not-in_range : goal.returns-then-not-in_range
returns-then-not-in_range c =
    let a = c.args in
    record { answer = sym (read-command-sizes a.p a.bytes.now (commands c.args.p _ (sym c.in_range.ensures ∙ c.if-not-in_range.true))); command = tt }

pub is_command-requires : goal.is_command-requires
is_command-requires c = most-commands c.args.p (commands c.args.p _ (sym c.in_range.ensures ∙ c.if-not-in_range.false))

pub returns-then-not-is_command : goal.returns-then-not-is_command
returns-then-not-is_command c =
    let a = c.args in
    let bad = sym c.is_command.ensures ∙ c.if-not-is_command.true in
    record { answer = sym (read-command-malformed a.p a.bytes.now (commands c.args.p _ (sym c.in_range.ensures ∙ c.if-not-in_range.false)) bad); command = tt }

pub command_in-requires : goal.command_in-requires
command_in-requires c = (
  most-commands c.args.p (commands c.args.p _ (sym c.in_range.ensures ∙ c.if-not-in_range.false)),
  (command-facts _ _ (sym c.is_command.ensures ∙ c.if-not-is_command.false)).len,
)

pub returns : goal.returns
returns c =
    let a = c.args in
    let e = read-command-done a.p a.bytes.now (commands c.args.p _ (sym c.in_range.ensures ∙ c.if-not-in_range.false)) (sym c.is_command.ensures ∙ c.if-not-is_command.false) in
    record { answer = sym e; command = c.command_in.ensures ∙ sym (command-read a.p a.bytes.now e) }
