-- `reading::values_in` meets its contract. The loop's invariant: the first j places hold their commands and the others 0. Assumes
-- nothing.
use mathlib.Core.Path.{◌≡◌, refl, sym, ap, ◌∙◌}
use Prim.Native.Nat.{ℕ}
use native.Mathlib.Omega.{arith}
use lib.ListN.{length-set}
use lib.IntN.{pos}
use mir.Syntax.{w32}
use mir.ValLaws.{to_z-of_z}
use Rattle.lists.specs.Places.{filled}
use Rattle.lists.proofs.Places.{filled_none, filled_more}
use Rattle.pages.specs.Reading.{value_at}
use Rattle.pages.proofs.reading.values_in.Goals as goal

pub loop-j-init : goal.loop-j-init
loop-j-init c = (sym (filled_none (pos 0) 4 (value_at c.args.line.now)), refl)

pub loop-j-preserved : goal.loop-j-preserved
loop-j-preserved c =
    let l = c.loop-j in
    let line = c.args.line.now in
    let back = to_z-of_z w32 c.value_at.result (record { sfits = c.value_at.type_inv }) in
    let more = filled_more (pos 0) 4 l.j (value_at line) (omega arith) in
    (rw (l.invariant.0, back, c.value_at.ensures) more, simp length-set l.invariant.1)

pub returns : goal.returns
returns c =
    let l = c.loop-j in
    let s = c.args in
    let e : l.j ≡ s.n = omega arith in
    l.invariant.0 ∙ ap (λ (k : ℕ). filled (pos 0) 4 k (value_at s.line.now)) e
