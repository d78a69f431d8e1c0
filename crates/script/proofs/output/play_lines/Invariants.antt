-- `output::play_lines` meets its contract. The loop's invariant: the first lines were played, and what is left of the text leads to the same. Assumes nothing.
use lib.ListN.{take}
use Rattle.script.specs.Play.{most}
use Rattle.text.specs.Lines.{lines_of}
use Rattle.script.specs.Script.{left, played}
use Rattle.script.proofs.Played.{Sofar}
use Rattle.script.proofs.output.play_lines.Given as goal

abbrev pub invariant-loop-number : goal.invariant-loop-number
invariant-loop-number l =
    Sofar l.of_rig l.boxes l.m l.start l.text l.initial.output
    (played l.of_rig l.boxes l.m 0 (left l.initial.held l.initial.table l.initial.lengths (take l.start l.initial.output)) (lines_of most l.text)) l.output l.held l.table l.lengths l.end l.at l.number
