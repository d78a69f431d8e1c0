-- `output::group` meets its contract. Assumes nothing.
use Rattle.std.proofs.Common.{◌≡◌, sym, ap, ◌∙◌, arith}
use Rattle.refusal.specs.Numbers.{number, number_of}
use Rattle.replica.specs.Settings.{settings_refusal}
use Rattle.script.proofs.ScriptLaws.{prints-same, puts-prints}
use Rattle.script.proofs.Groups.{group-made, group-refused}
use Rattle.script.proofs.LineLengths.{refusal-length}
use Rattle.script.proofs.output.group.Goals as goal

pub returns-in-Ok : goal.returns-in-Ok
returns-in-Ok c =
    let a = c.args in
    let made : ◌≡◌ 0 (settings_refusal a.settings) = ap number_of (sym c.in-Ok.is) ∙ c.check_settings.ensures in
    prints-same (sym (group-made a.settings a.text.now made)) c.play_script.ensures

pub returns-in-Err : goal.returns-in-Err
returns-in-Err c =
    let a = c.args in
    let refusal = c.in-Err.refusal in
    let refused : number refusal ≡ settings_refusal a.settings = ap number_of (sym c.in-Err.is) ∙ c.check_settings.ensures in
    prints-same (sym (group-refused a.settings a.text.now refusal refused))
    (puts-prints (omega (arith, c.requires, refusal-length (number refusal))) c.refusal_line.ensures)
