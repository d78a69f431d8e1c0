-- `fields::field` meets its contract. Assumes nothing.
use Rattle.std.proofs.Common.{ap, ◌∙◌}
use Rattle.line.specs.Fields.{up_to_space, field}
use Rattle.line.proofs.fields.field.Goals as goal

pub returns : goal.returns
unfolding field
returns c = c.part_end-end.ensures.2 ∙ ap up_to_space c.field_start-start.ensures.1
