-- `printing::put_unsigned` meets its contract. Assumes nothing.
use Rattle.std.proofs.Common.{ap, ◌∙◌, ℕ}
use Rattle.std.proofs.Common.{[]}
use Rattle.std.proofs.lemmas.List.{length-replicate}
use Rattle.lists.proofs.Parts.{to_the_end}
use Rattle.text.specs.Printing.{digits_before}
use Rattle.text.proofs.PrintingLaws.{puts-same}
use Rattle.text.proofs.printing.put_unsigned.Goals as goal

pub returns : goal.returns
returns g c =
    let d = c.put_digits-from in
    puts-same (to_the_end d.new.area d.result ∙ d.ensures.1 ∙ ap (λ (k : ℕ). digits_before k c.args.n []) (length-replicate g.row.N 0)) c.put_word.ensures
