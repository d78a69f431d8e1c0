-- `opening::all_numbers` meets its contract. Assumes nothing.
use Rattle.std.proofs.Common.{sym, ap, ◌∙◌, arith, ◌≡◌, ◌+◌, refl}
use Rattle.std.proofs.Common.{not}
use Rattle.lists.specs.Below.{all_below}
use Rattle.lists.proofs.Below.{all_more, one-fails}
use Rattle.text.specs.Numbers.{number_of, is_whole}
use Rattle.line.specs.Fields.{field}
use Rattle.opening.specs.Opening.{all_numbers}
use Rattle.opening.proofs.all_numbers.Goals as goal

pub loop-j-init : goal.loop-j-init
unfolding all_below
loop-j-init c = refl

pub returns-then-is_none : goal.returns-then-is_none
unfolding all_numbers
returns-then-is_none c =
    let a = c.args in
    let l = c.loop-j in
    let e = sym (ap is_whole (c.number_in.ensures ∙ ap number_of c.field.ensures)) ∙ c.is_none.ensures ∙ ap not c.if-is_none.true in
    sym (one-fails (λ i. is_whole (number_of (field (i + 5) a.line.now))) a.count l.j (omega arith) e)

pub loop-j-preserved : goal.loop-j-preserved
loop-j-preserved c =
    let l = c.loop-j in
    let e = sym (ap is_whole (c.number_in.ensures ∙ ap number_of c.field.ensures)) ∙ c.is_none.ensures ∙ ap not c.if-is_none.false in
    all_more (λ i. is_whole (number_of (field (i + 5) c.args.line.now))) l.j l.invariant e

pub returns : goal.returns
unfolding all_numbers
returns c =
    let l = c.loop-j in
    let e : l.j ≡ c.args.count = omega arith in
    sym (rw e at l.invariant)
