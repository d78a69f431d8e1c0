-- `numbers::with_digit` meets its contract. Assumes nothing.
use Rattle.std.proofs.Common.{sym, ap, ◌∙◌, arith, ◌≡◌, ◌+◌, ◌-◌, ◌*◌, Some}
use Rattle.text.specs.Numbers.{is_digit}
use Rattle.text.proofs.NumberLaws.{no_digit, too_large, one-more}
use Rattle.text.proofs.numbers.with_digit.Goals as goal

pub returns-then-not-is_ascii_digit : goal.returns-then-not-is_ascii_digit
unfolding is_digit
returns-then-not-is_ascii_digit c = no_digit _ _ _ _ (sym c.is_ascii_digit.ensures.value ∙ c.if-not-is_ascii_digit.true)

pub returns-in_err-checked_mul : goal.returns-in_err-checked_mul
returns-in_err-checked_mul c = c.from_residual.ensures ∙ too_large _ _ _ _ (omega (arith, c.in_err-checked_mul.ensures))

pub returns-in_err-next : goal.returns-in_err-next
returns-in_err-next c =
    c.from_residual-in_err-next.ensures ∙ too_large _ _ _ _ (omega (arith, c.in_err-next.ensures, c.in_ok-checked_mul.ensures, c.from.ensures))

pub returns-then-next-largest : goal.returns-then-next-largest
unfolding is_digit
returns-then-next-largest c =
    let e : c.in_ok-next.next ≡ 10 * c.args.n + (c.args.b - 48) = omega (arith, c.in_ok-next.ensures, c.in_ok-checked_mul.ensures, c.from.ensures) in
    ap Some e ∙ one-more _ _ _ _ (sym c.is_ascii_digit.ensures.value ∙ c.if-not-is_ascii_digit.false) (omega arith)

pub returns-else-next-largest : goal.returns-else-next-largest
returns-else-next-largest c =
    too_large _ _ _ _ (omega (arith, c.in_ok-next.ensures, c.in_ok-checked_mul.ensures, c.from.ensures))
