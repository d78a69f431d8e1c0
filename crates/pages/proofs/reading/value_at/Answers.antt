-- `reading::value_at` meets its contract. Assumes nothing.
use mathlib.Core.Path.{ap, ◌∙◌}
use Prim.Native.Nat.{◌+◌, ◌*◌}
use mir.Syntax.{w32}
use mir.ValLaws.{to_z-of_z}
use Rattle.text.specs.Numbers.{number_of, value_in}
use Rattle.pages.specs.Reading.{unspaced, value_at}
use Rattle.pages.proofs.ReadingLaws.{part-to}
use Rattle.pages.proofs.reading.value_at.Goals as goal

pub returns : goal.returns
unfolding value_at
returns c =
    let s = c.args in
    to_z-of_z w32 c.unwrap_or.result (record { sfits = c.unwrap_or.type_inv })
    ∙ c.unwrap_or.ensures
    ∙ ap value_in (c.number_in.ensures ∙ ap number_of (c.unspaced.ensures ∙ ap unspaced (part-to s.line.now (22 + 12 * s.j) 12)))
