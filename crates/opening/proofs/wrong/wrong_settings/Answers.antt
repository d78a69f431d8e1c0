-- `wrong::wrong_settings` meets its contract. Assumes nothing.
use Rattle.std.proofs.Common.{ap, ◌∙◌}
use Rattle.std.specs.Prelude.{option_map}
use Rattle.opening.specs.declared.wrong.Wrong.TheVariants.{Refused}
use Rattle.opening.specs.Wrong.{wrong_settings}
use Rattle.opening.proofs.WrongLaws.{refused-by, mapped}
use Rattle.opening.proofs.wrong.wrong_settings.Goals as goal

pub returns : goal.returns
unfolding wrong_settings
returns c =
    mapped c.err.result c.map.result c.map.ensures.cases
    ∙ ap (option_map Refused) (c.err.ensures.value ∙ refused-by c.args.settings c.make.result c.make.ensures.answer)
