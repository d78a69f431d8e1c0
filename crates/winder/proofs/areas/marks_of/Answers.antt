-- `marks_of` meets its contract: a list of four bytes is its four places. Assumes nothing.
use Rattle.std.proofs.Common.{rules, ◌≡◌, ◌∙◌, ◌<◌, ℕ, List, [], ◌∷◌, false, get_or, arith}
use Rattle.lists.proofs.Places.{four-places}
use Rattle.estimate.specs.Marks.{bit}
use Rattle.winder.proofs.areas.marks_of.Goals as goal

pub returns : goal.returns
returns c =
    let marks = c.args.readings.present in
    let ys : List ℕ = c.map.result in
    let at : (i : ℕ) → i < 4 → get_or ys i 0 ≡ bit (get_or marks i false) = λ i l. let h = c.map.ensures.items.at i false 0 l in search rules in
    four-places 0 ys c.map.ensures.items.long
    ∙ (λ k. at 0 (omega arith) k ∷ at 1 (omega arith) k ∷ at 2 (omega arith) k ∷ at 3 (omega arith) k ∷ [])
