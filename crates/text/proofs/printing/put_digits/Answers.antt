-- `printing::put_digits` meets its contract. Assumes nothing.
use Rattle.std.proofs.Common.{sym, ◌∙◌, arith, ◌≡◌, refl}
use Rattle.text.specs.Printing.{digits_before}
use Rattle.text.proofs.PrintingLaws.{digits_last, digits_more}
use Rattle.text.proofs.printing.put_digits.Goals as goal

pub returns-then-rest-lt10 : goal.returns-then-rest-lt10
returns-then-rest-lt10 c =
    let l = c.loop-i in
    (omega arith, digits_last l.area l.i l.rest _ _ (omega arith) (omega arith) c.if-rest-lt10.true refl l.invariant)

pub loop-i-preserved : goal.loop-i-preserved
loop-i-preserved c =
    let l = c.loop-i in
    digits_more l.area l.i l.rest _ _ (omega arith) (omega arith) c.if-rest-lt10.false refl l.invariant

pub returns : goal.returns
unfolding digits_before
returns c =
    let l = c.loop-i in
    let e : l.i ≡ 0 = omega arith in
    (omega arith, sym (l.invariant ∙ rw e))
