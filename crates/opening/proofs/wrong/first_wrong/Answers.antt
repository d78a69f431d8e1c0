-- `wrong::first_wrong` meets its contract. Assumes nothing.
use Rattle.std.proofs.Common.{sym, ap, ◌∙◌, arith, ◌≡◌, ◌+◌, ◌-◌, ℕ}
use Rattle.std.proofs.Common.{suc}
use Rattle.opening.specs.Wrong.{is_right, first_wrong}
use Rattle.opening.proofs.WrongLaws.{wrong-here, wrong-after, wrong-none}
use Rattle.opening.proofs.wrong.first_wrong.Goals as goal

pub loop-k-init : goal.loop-k-init
loop-k-init c = let whole : c.args.count - 0 ≡ c.args.count = omega arith in rw whole

pub returns-then-not-is_right : goal.returns-then-not-is_right
returns-then-not-is_right c =
    let a = c.args in
    let l = c.loop-k in
    let line = a.line.now in
    let left : a.count - l.k ≡ suc (a.count - (l.k + 1)) = omega arith in
    let wrong = sym (c.is_right.ensures ∙ ap (is_right l.k) c.field.ensures) ∙ c.if-not-is_right.true in
    (sym (l.invariant ∙ ap (first_wrong line l.k) left ∙ wrong-here line l.k _ wrong), omega arith)

pub loop-k-preserved : goal.loop-k-preserved
loop-k-preserved c =
    let a = c.args in
    let l = c.loop-k in
    let line = a.line.now in
    let left : a.count - l.k ≡ suc (a.count - (l.k + 1)) = omega arith in
    let next : suc l.k ≡ l.k + 1 = omega arith in
    let right = sym (c.is_right.ensures ∙ ap (is_right l.k) c.field.ensures) ∙ c.if-not-is_right.false in
    l.invariant ∙ ap (first_wrong line l.k) left ∙ wrong-after line l.k _ right ∙ ap (λ (k : ℕ). first_wrong line k (a.count - (l.k + 1))) next

pub returns : goal.returns
returns c =
    let a = c.args in
    let l = c.loop-k in
    let none : a.count - l.k ≡ 0 = omega arith in
    let end : l.k ≡ a.count = omega arith in
    (sym (l.invariant ∙ ap (first_wrong a.line.now l.k) none ∙ wrong-none a.line.now l.k ∙ end), omega arith)
