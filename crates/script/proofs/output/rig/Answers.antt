-- `output::rig` meets its contract. Assumes nothing.
use Rattle.std.proofs.Common.{rules, sym, ap, ◌∙◌, ◌≡◌, arith, List, ℕ, length}
use Rattle.refusal.specs.declared.Refusal.{Refusal}
use Rattle.refusal.specs.Numbers.{number}
use Rattle.text.proofs.PrintingLaws.{puts-same}
use Rattle.opening.specs.Opening.{sizes_in, opened_by}
use Rattle.script.specs.Printing.{bad_alone, refusal_line}
use Rattle.script.specs.Script.{group_output, opened_output, rig_output, output_room}
use Rattle.script.proofs.LineLengths.{refusal-length}
use Rattle.script.proofs.ScriptLaws.{prints-same, puts-prints}
use Rattle.script.proofs.output.rig.Goals as goal

pub returns-in-Ok : goal.returns-in-Ok
unfolding rig_output opened_output
returns-in-Ok c =
    let line = c.line_end-stop.ensures in
    let first = sym (c.open.ensures ∙ ap (λ (l : List ℕ). opened_by l (sizes_in l)) line.2) ∙ c.in-Ok.is in
    let rest = c.after_line-rest.ensures ∙ line.3 in
    rw first (prints-same (ap (group_output c.in-Ok.settings) rest) c.group.ensures)

pub returns-in-Err-Refused : goal.returns-in-Err-Refused
unfolding rig_output opened_output
returns-in-Err-Refused c =
    let line = c.line_end-stop.ensures in
    let first = sym (c.open.ensures ∙ ap (λ (l : List ℕ). opened_by l (sizes_in l)) line.2) ∙ c.in-Err-Refused.is in
    let room : length c.args.output.now ≡ output_room = search rules in
    rw (first, c.in-Err-Refused.field-0-is)
    (puts-prints (omega (arith, room, refusal-length (number c.in-Err-Refused.refusal)))
    (puts-same (ap (λ (r : Refusal). refusal_line (number r)) c.in-Err-Refused.refusal-is) c.refusal_line.ensures))

pub returns-in-Err-Bad : goal.returns-in-Err-Bad
unfolding rig_output opened_output bad_alone
returns-in-Err-Bad c =
    let line = c.line_end-stop.ensures in
    let first = sym (c.open.ensures ∙ ap (λ (l : List ℕ). opened_by l (sizes_in l)) line.2) ∙ c.in-Err-Bad.is in
    let room : length c.args.output.now ≡ output_room = search rules in
    rw (first, c.in-Err-Bad.field-0-is) (puts-prints (omega (arith, room)) c.put_bad.ensures)
