-- `output::play_lines` meets its contract. The loop's invariant: the first lines were played, and what is left of the text leads to the same. Assumes nothing.
use mathlib.Core.Path.{◌≡◌, refl, sym, ◌∙◌}
use Prim.Native.Nat.{◌-◌, ◌<◌}
use lib.ListN.{length, drop}
use borrow.Author.Rules.{rules}
use native.Mathlib.Omega.{arith}
use Rattle.script.specs.Play.{most}
use Rattle.text.proofs.LineLaws.{lines_end, no_lines}
use Rattle.script.proofs.Played.{one_more, no_more}
use Rattle.script.proofs.output.play_lines.Goals as goal

pub loop-number-init : goal.loop-number-init
loop-number-init c =
    let ten : length c.args.kept ≡ 10 =
    search rules in
    record {
      early = omega arith;
      ten = ten;
      frames = c.requires.0;
      sizes = c.requires.1;
      same = refl;
      from = omega arith;
      room = omega arith;
      played = refl;
      rest = refl;
    }

pub shape_of-table-then-text-at : goal.shape_of-table-then-text-at
shape_of-table-then-text-at c = c.loop-number.invariant.frames ∙ sym c.requires.0

pub shape_of-lengths-then-text-at : goal.shape_of-lengths-then-text-at
shape_of-lengths-then-text-at c = c.loop-number.invariant.sizes ∙ sym c.requires.1

pub shape_of-output-then-text-at : goal.shape_of-output-then-text-at
shape_of-output-then-text-at c = c.loop-number.invariant.same

pub returns-then-text-at : goal.returns-then-text-at
returns-then-text-at c =
    let l = c.loop-number in
    let a = c.args in (
      no_more a.of_rig a.boxes a.m a.start a.text.now a.output.now
          c.requires.2 _ _ _ _ _ _ _ _ l.invariant (lines_end _ a.text.now l.at
          c.if-text-at.true),
      l.invariant.from,
    )

pub overflow_add-at : goal.overflow_add-at
overflow_add-at c =
    let short : length c.args.text.now < 18446744073709551615 =
    omega arith in
    omega (arith, short, c.line_end-stop.ensures.1)

pub loop-number-preserved : goal.loop-number-preserved
loop-number-preserved c =
    let l = c.loop-number in
    let a = c.args in
    let t = c.play-one in
    let call = c.call_in-called in
    let line = c.line_end-stop in
    one_more a.of_rig a.boxes a.m a.start a.text.now a.output.now c.requires.2 _ _ _ _ _ _ _ _ l.invariant
    line.result c.place_of-place.result call.result _ _ call.result.readings
    c.loop-number-test.true (omega (arith, c.if-text-at.false))
    line.ensures.2 line.ensures.3 call.ensures c.place_of-place.ensures.place c.place_of-place.ensures.bound refl refl
    t.auto.table t.auto.lengths t.auto.text t.ensures

pub shape_of-table : goal.shape_of-table
shape_of-table c = c.loop-number.invariant.frames ∙ sym c.requires.0

pub shape_of-lengths : goal.shape_of-lengths
shape_of-lengths c = c.loop-number.invariant.sizes ∙ sym c.requires.1

pub shape_of-output : goal.shape_of-output
shape_of-output c = c.loop-number.invariant.same

pub returns : goal.returns
returns c =
    let l = c.loop-number in
    let a = c.args in
    let none : most - l.number ≡ 0 = omega (arith, c.loop-number-test.false) in (
      no_more a.of_rig a.boxes a.m a.start a.text.now a.output.now c.requires.2 _ _ _ _ _ _ _ _
          l.invariant (no_lines _ (drop l.at a.text.now) none),
      l.invariant.from,
    )
