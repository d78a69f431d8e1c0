-- `lines::put_line` meets its contract: one part after the other. Assumes nothing.
use lib.ListN.{length}
use Rattle.std.specs.Prelude.{IfSome}
use Rattle.std.proofs.Common.{rules, ◌≡◌}
use Rattle.text.proofs.PrintingLaws.{then-puts, puts-same}
use Rattle.pages.specs.Line.{commands_shown}
use Rattle.pages.proofs.LineLaws.{line-parts}
use Rattle.pages.proofs.lines.put_line.Goals as goal

pub returns : goal.returns
unfolding commands_shown
returns c =
    let four : IfSome c.args.entry.command (λ v. length v ≡ 4) = search rules in
    puts-same (line-parts c.args.p c.args.entry (record { few = c.requires; four = four }) _ c.spaces_left.ensures)
    (then-puts (then-puts (then-puts (then-puts (then-puts (then-puts
    c.put_count-at.ensures
    c.put_byte-at.ensures)
    c.put_count-at-2.ensures)
    c.put_byte-at-2.ensures)
    c.put_command-at.ensures)
    c.put_spaces-at.ensures)
    c.put_byte.ensures)
