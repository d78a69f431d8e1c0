-- `output::period_behind` meets its contract. Assumes nothing.
use mathlib.Core.Path.{◌≡◌, ap, ◌∙◌}
use Prim.Native.Nat.{ℕ, ◌+◌}
use native.Mathlib.Omega.{arith}
use lib.ListN.{length}
use borrow.Author.Rules.{rules}
use Rattle.pages.specs.declared.entries.Entry.{Entry}
use Rattle.pages.proofs.LineLaws.{length-mapped}
use Rattle.lists.proofs.Parts.{get_d_any}
use Rattle.printed.proofs.output.period_behind.Goals as goal

pub returns : goal.returns
returns c =
    let sixty : length c.args.page.lines ≡ 60 = search (rules, length-mapped) in
    ap (λ (k : ℕ). k + 1) (c.from.ensures ∙ ap (λ (e : Entry). e.period) (get_d_any c.args.page.lines 59 _ _ (omega (arith, sixty))))
