-- `wrong::needed` meets its contract. Assumes nothing.
use Rattle.std.proofs.Common.{sym, ap, ◌∙◌, arith, ◌+◌}
use Rattle.std.proofs.Common.{is_some}
use Rattle.lists.specs.Choice.{pick}
use Rattle.opening.specs.declared.Starts.{Starts}
use Rattle.opening.specs.Wrong as Wrong
use Rattle.opening.proofs.OpeningLaws.{in-range, not-some}
use Rattle.opening.proofs.wrong.needed.Goals as goal

pub returns-then-is_some : goal.returns-then-is_some
unfolding Wrong.needed pick
returns-then-is_some c = (rw (sym (c.is_some.ensures ∙ ap is_some c.sizes_refusal.ensures) ∙ c.if-is_some.true), omega arith)

pub starts_of-at-requires : goal.starts_of-at-requires
starts_of-at-requires c =
    let r = in-range _ (not-some _ (sym (c.is_some.ensures ∙ ap is_some c.sizes_refusal.ensures) ∙ c.if-is_some.false)) in
    (r.n, r.m, r.p)

pub returns : goal.returns
unfolding Wrong.needed pick
returns c =
    let starts = c.starts_of-at.ensures in (
      rw (sym (c.is_some.ensures ∙ ap is_some c.sizes_refusal.ensures) ∙ c.if-is_some.false) (ap (λ (at : Starts). at.count + 5) starts.0),
      omega (arith, starts.7),
    )
