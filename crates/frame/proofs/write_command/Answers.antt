-- `frame::write_command` meets its contract: each test of the code is a case of the definition, in their order. Assumes nothing.
use mathlib.Core.Path.{sym, ◌∙◌}
use Rattle.octets.proofs.Areas.{put_front}
use Rattle.frame.proofs.CommandReading.{commands, most-commands}
use Rattle.frame.proofs.Refusals.{command-sizes, command-area, command-done, no-command, command-written}
use Rattle.frame.proofs.write_command.Goals as goal

pub returns-then-not-in_range : goal.returns-then-not-in_range
returns-then-not-in_range c =
    let a = c.args in
    let e = command-sizes a.p a.area.now (commands c.args.p _ (sym c.in_range.ensures ∙ c.if-not-in_range.true)) in
    record { answer = sym e; count = tt; bytes = rw (no-command a.p a.area.now a.period a.values a.limited 1 e) }

pub returns-then-area-lt-LONGEST_COMMAND : goal.returns-then-area-lt-LONGEST_COMMAND
returns-then-area-lt-LONGEST_COMMAND c =
    let a = c.args in
    let e = command-area a.p a.area.now (commands c.args.p _ (sym c.in_range.ensures ∙ c.if-not-in_range.false)) c.if-area-lt-LONGEST_COMMAND.true in
    record { answer = sym e; count = tt; bytes = rw (no-command a.p a.area.now a.period a.values a.limited 4 e) }

pub put_command-requires : goal.put_command-requires
put_command-requires c = (most-commands c.args.p (commands c.args.p _ (sym c.in_range.ensures ∙ c.if-not-in_range.false)), c.if-area-lt-LONGEST_COMMAND.false)

pub returns : goal.returns
returns c =
    let a = c.args in
    let e = command-done a.p a.area.now (commands c.args.p _ (sym c.in_range.ensures ∙ c.if-not-in_range.false)) c.if-area-lt-LONGEST_COMMAND.false in
    let w = command-written a.p a.area.now a.period a.values a.limited e in
    let p = c.put_command.ensures in
    record { answer = sym e; count = p.0 ∙ rw w; bytes = p.1 ∙ put_front _ _ ∙ rw w }
