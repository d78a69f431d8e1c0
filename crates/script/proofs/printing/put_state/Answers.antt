-- `printing::put_state` meets its contract. Assumes nothing.
use mathlib.Core.Path.{◌≡◌, ap}
use lib.ListN.{length}
use native.Mathlib.Numerals.{unary_clauses}
use Rattle.text.specs.Printing.{listed}
use Rattle.script.specs.Printing.{state_word}
use Rattle.text.proofs.PrintingLaws.{then-puts, puts-same, in_use}
use Rattle.script.proofs.LineLengths.{state-length}
use borrow.Author.Rules.{rules}
use Rattle.script.proofs.printing.put_state.Goals as goal

pub returns : goal.returns
unfolding state_word
returns c =
    let six : length c.args.replica.held.estimate.state ≡ 6 =
    search rules in
    let s = c.args in
    let u = c.min-n.ensures in (
      then-puts c.put_byte-at.ensures
          (puts-same
          (ap listed (simp unary_clauses at (in_use s.replica.held.estimate.state 6 s.replica.settings.law.n _ six u)))
          c.put_list.ensures),
      state-length s.replica (six),
    )
