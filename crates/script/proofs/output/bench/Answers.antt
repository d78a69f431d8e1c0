-- `output::bench` meets its contract. Assumes nothing.
use mathlib.Core.Path.{ap}
use mathlib.Core.Bool.{false}
use Rattle.replica.specs.declared.Settings.{Settings}
use Rattle.script.specs.Script.{left_by, bench_output}
use Rattle.script.proofs.ScriptLaws.{prints-same}
use Rattle.script.proofs.output.bench.Goals as goal

pub returns : goal.returns
unfolding bench_output
returns c =
    prints-same (ap (λ (s : Settings). (left_by false s c.args.text.now).printed) c.bench_settings.ensures)
    c.play_script.ensures
