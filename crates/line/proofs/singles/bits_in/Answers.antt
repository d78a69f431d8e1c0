-- `singles::bits_in` meets its contract. Assumes nothing.
use Rattle.std.proofs.Common.{sym, ◌∙◌, arith}
use Rattle.line.proofs.SingleLaws.{spelled, spelled-stops, spelled-more, spelled-ends, seven-digits, digit-more, digit-below}
use Rattle.line.proofs.singles.bits_in.Goals as goal

pub returns-in_err-bits : goal.returns-in_err-bits
unfolding spelled
returns-in_err-bits c =
    let l = c.loop-b in
    c.from_residual.ensures ∙ sym (l.invariant.same ∙ spelled-stops _ _ l.b-index (omega arith) (sym c.digit_of.ensures ∙ c.in_err-bits.was))

pub overflow_add-bits : goal.overflow_add-bits
overflow_add-bits c =
    let l = c.loop-b in
    let d = digit-below _ _ (sym c.digit_of.ensures ∙ c.in_ok-bits.was) in
    let s = seven-digits l.b-index _ l.invariant.small (omega arith) in
    record { fits = omega arith }

pub loop-b-preserved : goal.loop-b-preserved
loop-b-preserved c =
    let l = c.loop-b in
    let e = sym c.digit_of.ensures ∙ c.in_ok-bits.was in
    record {
      small = digit-more l.b-index _ _ l.invariant.small (digit-below _ _ e);
      same = l.invariant.same ∙ spelled-more _ _ l.b-index _ (omega arith) e;
    }

pub returns : goal.returns
unfolding spelled
returns c = let l = c.loop-b in sym (l.invariant.same ∙ spelled-ends _ _ l.b-index (omega arith))
