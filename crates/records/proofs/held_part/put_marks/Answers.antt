-- `records::held_part::put_marks` meets its contract: the two bytes are put one after the other. Assumes nothing.
use mathlib.Core.Path.{refl, ap, ◌∙◌}
use mathlib.Core.List.{[], ◌∷◌}
use Prim.Native.Nat.{ℕ, ◌+◌}
use native.Mathlib.Omega.{arith}
use Rattle.octets.specs.Areas.{put}
use Rattle.octets.proofs.Areas.{then-put}
use Rattle.records.proofs.Heard.{bit-from}
use Rattle.records.proofs.held_part.put_marks.Goals as goal

pub returns : goal.returns
returns c =
    let l = c.args.area.now in
    let at = c.args.at in
    let l₁ = c.put_bytes.new.area in
    then-put l _ _ at (at + 1) _ _
    (c.put_bytes.ensures ∙ ap (λ (k : ℕ). put l at (k ∷ [])) (c.from.ensures ∙ bit-from _))
    (c.put_bytes-2.ensures ∙ ap (λ (k : ℕ). put l₁ (at + 1) (k ∷ [])) (c.from-2.ensures ∙ bit-from _))
    refl (omega (arith, c.requires))
