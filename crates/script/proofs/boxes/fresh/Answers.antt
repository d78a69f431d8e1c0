-- `boxes::fresh` meets its contract. Assumes nothing.
use mathlib.Core.List.{[], ◌∷◌}
use Rattle.script.specs.Play.{fresh_boxes}
use Rattle.script.proofs.boxes.fresh.Goals as goal

pub returns : goal.returns
unfolding fresh_boxes
returns c =
    let b0 = c.made.ensures in
    let b1 = c.made-2.ensures in
    let b2 = c.made-3.ensures in
    let b3 = c.made-4.ensures in
    let b4 = c.made-5.ensures in
    let b5 = c.made-6.ensures in
    let b6 = c.made-7.ensures in
    let b7 = c.made-8.ensures in
    let b8 = c.made-9.ensures in
    let b9 = c.made-10.ensures in
    λ i. b0 i ∷ b1 i ∷ b2 i ∷ b3 i ∷ b4 i ∷ b5 i ∷ b6 i ∷ b7 i ∷ b8 i ∷ b9 i ∷ []
