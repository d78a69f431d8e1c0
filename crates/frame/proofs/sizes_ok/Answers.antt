-- `frame::sizes_ok` meets its contract: the four tests of the definition, two for each size. Assumes nothing.
use Rattle.std.proofs.Common.{◌≡◌, ◌∙◌, sym, ap, ap₂, refl, Bool, true, false, ◌&&◌, leb}
use Rattle.frame.specs.Sizes.{sizes_ok}
use Rattle.frame.proofs.sizes_ok.Goals as goal

four-tests : (a b c d : Bool) → (a && b) && (c && d) ≡ a && (b && (c && d))
four-tests true b c d = refl
four-tests false b c d = refl

pub returns-then-in_range : goal.returns-then-in_range
unfolding sizes_ok
returns-then-in_range c =
    let n = c.args.n in
    let m = c.args.m in
    ap₂ (λ (a b : Bool). a && b) (sym c.if-in_range.true ∙ c.in_range.ensures) c.in_range-then-in_range.ensures ∙ four-tests (leb 1 n) (leb n 6) (leb 1 m) (leb m 4)

pub returns-else-in_range : goal.returns-else-in_range
unfolding sizes_ok
returns-else-in_range c =
    let m = c.args.m in
    c.if-in_range.false
    ∙ ap (λ (a : Bool). a && (leb 1 m && leb m 4)) (sym c.if-in_range.false ∙ c.in_range.ensures)
    ∙ four-tests (leb 1 c.args.n) (leb c.args.n 6) (leb 1 m) (leb m 4)
