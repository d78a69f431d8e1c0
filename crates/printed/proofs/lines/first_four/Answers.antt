-- `lines::first_four` meets its contract. Assumes nothing.
use borrow.Author.Rules.{rules}
use mathlib.Core.Path.{◌≡◌, ◌∙◌}
use mathlib.Core.List.{[], ◌∷◌}
use mir.Syntax.{w32}
use mir.ValLaws.{to_z-of_z}
use Rattle.lists.specs.Places.{entry}
use lib.ListN.{length}
use Rattle.printed.proofs.LineLaws.{four-of-six}
use Rattle.printed.proofs.lines.first_four.Goals as goal
use Rattle.printed.proofs.lines.first_four.Lts as lts
use Rattle.printed.proofs.lines.first_four.Reads as reads

length-six : (c : lts.Start reads.Pre reads.Post) → length c.args.values ≡ 6
length-six c = search rules

pub returns : goal.returns
returns c =
    let a = to_z-of_z w32 (entry c.args.values 0) (record { sfits = c.result-1.given }) in
    let b = to_z-of_z w32 (entry c.args.values 1) (record { sfits = c.result-2-1.given }) in
    let d = to_z-of_z w32 (entry c.args.values 2) (record { sfits = c.result-3-1.given }) in
    let e = to_z-of_z w32 (entry c.args.values 3) (record { sfits = c.result-4-1.given }) in
    (λ i. a i ∷ b i ∷ d i ∷ e i ∷ []) ∙ four-of-six c.args.values (length-six c.before.before.before.before)
