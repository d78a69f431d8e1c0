-- `output::after_line` meets its contract. Assumes nothing.
use mathlib.Core.Path.{sym}
use Prim.Native.Nat.{◌+◌}
use native.Mathlib.Omega.{arith}
use Rattle.lists.proofs.Parts.{drop-beyond, to_the_end}
use Rattle.script.proofs.output.after_line.Goals as goal

pub returns-then-text-stop : goal.returns-then-text-stop
returns-then-text-stop c = sym (drop-beyond c.args.text.now (c.args.stop + 1) (omega arith))

pub returns : goal.returns
returns c = to_the_end c.args.text.now (c.args.stop + 1)
