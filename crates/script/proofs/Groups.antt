-- What the rig prints of a group, by what its settings are refused by. Assumes nothing.
use Rattle.std.proofs.Common.{◌≡◌, sym, List, ℕ, true}
use borrow.Author.Tests.{ne_eqb}
use Rattle.lists.specs.Choice.{pick}
use Rattle.refusal.specs.declared.Refusal.{Refusal}
use Rattle.refusal.specs.Numbers.{number}
use Rattle.replica.specs.declared.Settings.{Settings}
use Rattle.replica.specs.Settings.{settings_refusal}
use Rattle.refusal.proofs.Numbers.{number-not-0}
use Rattle.script.specs.Printing.{refusal_line}
use Rattle.script.specs.Script.{left_by, group_output}

module _ (s : Settings) (text : List ℕ) where
  pub group-made : ◌≡◌ 0 (settings_refusal s) → group_output s text ≡ (left_by true s text).printed
  unfolding group_output pick
  group-made e = rw (sym e)

  pub group-refused : (refusal : Refusal) → number refusal ≡ settings_refusal s → group_output s text ≡ refusal_line (number refusal)
  unfolding group_output pick
  group-refused refusal e = rw (sym e, ne_eqb (number refusal) 0 (number-not-0 refusal))
