-- `taking::first_commands` meets its contract. The loop's invariant: no line so far has a command, so the first one is among those left. Assumes
-- nothing.
use mathlib.Core.Path.{◌≡◌, sym, ap, ◌∙◌}
use mathlib.Core.List.{◌∷◌}
use Prim.Native.Nat.{◌+◌}
use native.Mathlib.Omega.{arith}
use Rattle.printed.specs.Pages.{first_commands}
use Rattle.printed.proofs.TextLaws.{left, all_left, left-next, left_end, left-none, first_next, first_found, first-none}
use Rattle.printed.proofs.taking.first_commands.Goals as goal

pub loop-init : goal.loop-init
loop-init c = ap first_commands (all_left c.args.text.now)

pub returns-then-text-at : goal.returns-then-text-at
returns-then-text-at c =
    let l = c.loop in
    let text = c.args.text.now in
    sym (first-none _ (left_end text l.at l.counter c.if-text-at.true)) ∙ l.invariant

pub returns-then-n-ne0 : goal.returns-then-n-ne0
returns-then-n-ne0 c =
    let l = c.loop in
    let text = c.args.text.now in
    let stop = c.line_end-stop in
    let line = c.line_in in
    let n = c.commands-n.ensures in
    let next : left text l.at l.counter ≡ line.result ∷ left text (stop.result + 1) (l.counter + 1) =
    left-next text l.at l.counter stop.result line.result (omega arith) (omega (arith, c.if-text-at.false)) stop.ensures.2 stop.ensures.3 line.ensures in
    n ∙ sym (ap first_commands next ∙ first_found line.result _ (λ z. c.if-n-ne0.true (n ∙ z))) ∙ l.invariant

pub loop-preserved : goal.loop-preserved
loop-preserved c =
    let l = c.loop in
    let text = c.args.text.now in
    let stop = c.line_end-stop in
    let line = c.line_in in
    let next : left text l.at l.counter ≡ line.result ∷ left text (stop.result + 1) (l.counter + 1) =
    left-next text l.at l.counter stop.result line.result (omega arith) (omega (arith, c.if-text-at.false)) stop.ensures.2 stop.ensures.3 line.ensures in
    sym (ap first_commands next ∙ first_next line.result _ (sym c.commands-n.ensures ∙ c.if-n-ne0.false)) ∙ l.invariant

pub returns : goal.returns
returns c =
    let l = c.loop in
    let text = c.args.text.now in
    sym (first-none _ (left-none text l.at l.counter (omega arith))) ∙ l.invariant
