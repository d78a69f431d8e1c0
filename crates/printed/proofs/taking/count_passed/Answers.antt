-- `taking::count_passed` meets its contract. The loop's invariant: those passed over so far, and those of the lines left, are those of the text.
-- Assumes nothing.
use mathlib.Core.Path.{◌≡◌, ap, ◌∙◌}
use mathlib.Core.List.{◌∷◌}
use Prim.Native.Nat.{◌+◌}
use native.Mathlib.Omega.{arith}
use Rattle.std.specs.Int.{from_bool}
use Rattle.printed.specs.Pages.{is_passed, passed_in}
use Rattle.printed.proofs.TextLaws.{left, all_left, left-next, left_end, left-none, passed-next, passed_none, one_at_most}
use Rattle.printed.proofs.taking.count_passed.Goals as goal

pub loop-init : goal.loop-init
loop-init c = (omega arith, omega (arith, ap (passed_in c.args.p) (all_left c.args.text.now)))

pub returns-then-text-at : goal.returns-then-text-at
returns-then-text-at c =
    let l = c.loop in
    let a = c.args in
    omega (arith, passed_none a.p _ (left_end a.text.now l.at l.counter c.if-text-at.true), l.invariant.1)

pub loop-preserved : goal.loop-preserved
loop-preserved c =
    let l = c.loop in
    let a = c.args in
    let text = a.text.now in
    let stop = c.line_end-stop in
    let line = c.line_in in
    let next : left text l.at l.counter ≡ line.result ∷ left text (stop.result + 1) (l.counter + 1) =
    left-next text l.at l.counter stop.result line.result (omega arith) (omega (arith, c.if-text-at.false)) stop.ensures.2 stop.ensures.3 line.ensures in
    let more = ap (passed_in a.p) next ∙ passed-next a.p line.result (left text (stop.result + 1) (l.counter + 1)) in
    let one = c.from-passed.ensures ∙ ap from_bool c.is_passed.ensures in
    (omega (arith, l.invariant.0, one, one_at_most (is_passed a.p line.result)), omega (arith, l.invariant.1, one, more))

pub returns : goal.returns
returns c =
    let l = c.loop in
    let a = c.args in
    omega (arith, passed_none a.p _ (left-none a.text.now l.at l.counter (omega arith)), l.invariant.1)
