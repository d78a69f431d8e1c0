-- `lines::is_up_to` meets its contract. Assumes nothing.
use mathlib.Core.Path.{◌≡◌, sym, ap, ◌∙◌}
use mathlib.Core.Bool.{true}
use Prim.Native.Nat.{ℕ, ◌≤◌, ◌<◌}
use native.Mathlib.Omega.{arith}
use lib.Dec.{leb}
use borrow.Author.Tests.{le-leb, lt-leb}
use Rattle.text.specs.Numbers.{magnitude, size_in, is_size}
use Rattle.printed.specs.Lines.{is_up_to}
use Rattle.printed.proofs.lines.is_up_to.Goals as goal

pub returns-then-not-is_some : goal.returns-then-not-is_some
unfolding is_up_to
returns-then-not-is_some c =
    rw (sym (c.is_some.ensures ∙ ap is_size c.read_magnitude-number.ensures) ∙ c.if-not-is_some.true)

pub returns-then-size-lt1 : goal.returns-then-size-lt1
unfolding is_up_to
returns-then-size-lt1 c =
    let number : is_size (magnitude c.args.bytes.now) ≡ true = sym (c.is_some.ensures ∙ ap is_size c.read_magnitude-number.ensures) ∙ c.if-not-is_some.false in
    let size : c.unwrap_or-size.result ≡ size_in (magnitude c.args.bytes.now) = c.unwrap_or-size.ensures ∙ ap size_in c.read_magnitude-number.ensures in
    let low : size_in (magnitude c.args.bytes.now) < 1 = omega (arith, size, c.if-size-lt1.true) in
    rw (number, lt-leb _ _ low)

pub returns : goal.returns
unfolding is_up_to
returns c =
    let number : is_size (magnitude c.args.bytes.now) ≡ true = sym (c.is_some.ensures ∙ ap is_size c.read_magnitude-number.ensures) ∙ c.if-not-is_some.false in
    let size : c.unwrap_or-size.result ≡ size_in (magnitude c.args.bytes.now) = c.unwrap_or-size.ensures ∙ ap size_in c.read_magnitude-number.ensures in
    let some : 1 ≤ size_in (magnitude c.args.bytes.now) = omega (arith, size, c.if-size-lt1.false) in
    rw (number, le-leb _ _ some) (ap (λ (n : ℕ). leb n c.args.high) size)
