-- `readings::normalise` meets its contract. The loop's invariant: the first j places are filled. Assumes nothing.
use Rattle.std.proofs.Common.{◌≡◌, ◌≤◌, ◌∙◌, sym, ap, ap₂, Bool, false, List, ℤ, pos, arith, w32, rules}
use lib.ListN.{set}
use mir.Val.{SFits, to_z}
use mir.Facts.{to_z-of_z}
use Rattle.lists.specs.Choice.{pick}
use Rattle.lists.specs.Places.{entry}
use Rattle.readings.specs.Readings.{present, value, normalised}
use Rattle.lists.proofs.Places.{filled_none, filled_more, filled-most}
use Rattle.readings.proofs.normalise.Goals as goal
use Rattle.readings.proofs.normalise.Goals.{then-y-j, else-y-j}

pub loop-j-init : goal.loop-j-init
loop-j-init c = (sym (filled_none false 4 _), sym (filled_none (pos 0) 4 _))

pub loop-j-preserved : goal.loop-j-preserved
unfolding pick
loop-j-preserved c =
    let l = c.loop-j in
    let y = c.args.y in
    let fits : SFits w32 (entry y.values l.j) = record { sfits = search rules } in
    let v : to_z w32 c.if-y-j.values-bits ≡ value y l.j =
    elim c.if-y-j.branch [
      | then-y-j w ↦ simp w.if-y-j.true (w.values-is ∙ to_z-of_z {w = w32} fits)
      | else-y-j w ↦ simp w.if-y-j.false w.values-is
    ] in (
      ap (λ (t : List Bool). set t l.j (present y l.j)) l.invariant.0 ∙ filled_more false 4 l.j (present y) (omega arith),
      ap₂ (λ (t : List ℤ) (z : ℤ). set t l.j z) l.invariant.1 v ∙ filled_more (pos 0) 4 l.j (value y) (omega arith),
    )

pub returns : goal.returns
unfolding normalised
returns c =
    let m = c.args.m in
    let y = c.args.y in
    let l = c.loop-j in
    let places : m ≤ 4 → l.j ≡ m = λ h. omega arith in
    let full : 4 ≤ m → l.j ≡ 4 = λ h. omega arith in
    ap₂ (λ (marks : List Bool) (values : List ℤ). record { present = marks; values = values }) (l.invariant.0 ∙ filled-most false 4 m l.j (present y) places full) (l.invariant.1 ∙ filled-most (pos 0) 4 m l.j (value y) places full)
