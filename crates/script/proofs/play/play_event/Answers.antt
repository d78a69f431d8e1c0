-- `play::play_event` meets its contract. Assumes nothing.
use mathlib.Core.Path.{subst}
use mathlib.Core.List.{List}
use Prim.Native.Nat.{ℕ}
use Rattle.script.specs.Boxes.{Gives}
use Rattle.script.specs.Play.{effect_of}
use Rattle.script.proofs.PlayLaws.{leaves-step}
use Rattle.script.proofs.play.play_event.Goals as goal

pub returns : goal.returns
returns c =
    let a = c.args in
    let one = c.step-one in
    let g = subst (λ (b : List ℕ). Gives (effect_of a.kept a.event a.readings b) one.result) c.arriving.ensures one.ensures in
    leaves-step a.event _ _ _ a.table.now _ a.lengths.now _ _ c.step_line-end.result g c.keep_sent.ensures
    c.box_of.ensures c.step_line-end.ensures
