-- `reading::unspaced` meets its contract. Assumes nothing.
use mathlib.Core.Path.{sym, ap, ◌∙◌}
use lib.ListN.{drop}
use Rattle.lists.proofs.Parts.{to_the_end}
use Rattle.pages.proofs.ReadingLaws.{unspaced-prefix}
use Rattle.pages.proofs.reading.unspaced.Goals as goal

pub returns : goal.returns
returns c =
    let columns = c.args.columns.now in
    to_the_end columns c.spaces.result ∙ ap (λ k. drop k columns) c.spaces.ensures.spaces ∙ sym (unspaced-prefix columns)
