-- `frame::header::put_header` meets its contract: the four bytes and the four numbers are put one after the other. Assumes nothing.
use Rattle.octets.specs.Areas.{put}
use Prim.Native.Nat.{ℕ}
use mathlib.Core.List.{[], ◌∷◌}
use Rattle.octets.proofs.Areas.{then-put}
use Rattle.frame.specs.Format.{header}
use Rattle.octets.specs.Words.{little_endian}
use mathlib.Core.Path.{refl, ◌∙◌, ap}
use native.Mathlib.Omega.{arith}
use Rattle.frame.proofs.header.put_header.Goals as goal

pub returns : goal.returns
unfolding header little_endian
returns c =
    let count = c.part_count in
    let l = c.args.area.now in
    let f = c.args.frame in
    let bytes = ap (λ (p : ℕ). put l 0 (f.kind ∷ f.sender ∷ p ∷ 0 ∷ [])) count.ensures in
    then-put l _ _ 0 16 _ _
    (then-put l _ _ 0 12 _ _
    (then-put l _ _ 0 8 _ _
    (then-put l _ _ 0 4 _ _
    (◌∙◌ {b = put l 0 (f.kind ∷ f.sender ∷ count.result ∷ 0 ∷ [])} c.put_bytes.ensures bytes)
    c.put_u32.ensures refl (omega arith))
    c.put_u32-2.ensures refl (omega arith))
    c.put_u32-3.ensures refl (omega arith))
    c.put_u32-4.ensures refl (omega arith)
