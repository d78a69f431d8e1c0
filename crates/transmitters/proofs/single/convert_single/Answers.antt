-- `single::convert_single` meets its contract. Assumes nothing.
use mathlib.Core.Path.{◌≡◌, sym, ap, ap₂, ◌∙◌, subst}
use Prim.Native.Nat.{ℕ, ◌*◌, ◌-◌, ◌^◌, ◌≤◌, ◌<◌}
use native.Mathlib.Omega.{arith}
use lib.IntN.{ℤ}
use lib.Signed.{mag}
use mir.Syntax.{w64}
use mir.Val.{to_z, of_z}
use mir.Facts.{to_z-of_z}
use Rattle.transmitters.specs.Single.{negative, magnitude, scale, signed, floor}
use Rattle.transmitters.specs.Conversion.{within_i32}
use Rattle.transmitters.proofs.Bits.{magnitude-lt, signed-small, single-near, single-far}
use Rattle.transmitters.proofs.single.convert_single.Goals as goal
use Rattle.transmitters.proofs.single.convert_single.Lts as lts
use Rattle.transmitters.proofs.single.convert_single.Reads as reads
use Rattle.transmitters.proofs.single.convert_single.Tie as tie

abbrev bits : lts.After-under_sign tie.the-claims reads.Pre reads.Post → ℕ
bits c = c.before.before.before.before.args.bits

-- the product under its sign
product : (c : lts.After-under_sign tie.the-claims reads.Pre reads.Post) → to_z w64 (of_z w64 c.under_sign-x.result) ≡ signed (negative (bits c)) (magnitude (bits c) * 256)
product c =
    to_z-of_z {w = w64} (record { sfits = c.under_sign-x.type_inv })
    ∙ c.under_sign-x.ensures
    ∙ ap (λ (m : ℕ). signed (negative (bits c)) (m * 256)) c.magnitude_of-magnitude.ensures

pub returns-then-scale-gt142 : goal.returns-then-scale-gt142
returns-then-scale-gt142 c = sym (single-far _ (subst (λ (p : ℕ). 142 < p) c.scale_of-scale.ensures c.if-scale-gt142.true))

pub overflow_mul-magnitude : goal.overflow_mul-magnitude
overflow_mul-magnitude c = record { fits = omega (arith, magnitude-lt c.args.bits) }

pub shifted-requires : goal.shifted-requires
shifted-requires c =
    let m = magnitude (bits c) in
    subst (λ (x : ℤ). mag x < 4294967296) (sym (product c)) (signed-small (negative (bits c)) (m * 256) (omega (arith, magnitude-lt (bits c))))

pub returns : goal.returns
returns c =
    let p = c.scale_of-scale.ensures in
    let near : scale (bits c.before.before) ≤ 142 = omega arith in
    c.within_i32.ensures
    ∙ ap within_i32
    (to_z-of_z {w = w64} (record { sfits = c.shifted.type_inv })
    ∙ c.shifted.ensures
    ∙ ap₂ (λ (x : ℤ) (k : ℕ). floor x (2 ^ (142 - k))) (product c.before.before) p)
    ∙ single-near (bits c.before.before) near
