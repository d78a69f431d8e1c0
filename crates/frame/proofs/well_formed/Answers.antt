-- `frame::well_formed` meets its contract: each test of the code is a test of the definition. Assumes nothing.
use Rattle.frame.specs.Writing.{well_formed}
use Rattle.std.proofs.Common.{sym, ap, not, ◌∙◌}
use Rattle.frame.proofs.well_formed.Goals as goal

pub returns-then-not-has_parts : goal.returns-then-not-has_parts
unfolding well_formed
returns-then-not-has_parts c = rw (sym c.kind_ok.ensures ∙ c.if-kind_ok.true, sym c.has_parts.ensures ∙ c.if-not-has_parts.true) (ap not c.if-not-has_parts.true)

pub returns-else-not-has_parts : goal.returns-else-not-has_parts
unfolding well_formed
returns-else-not-has_parts c = rw (sym c.kind_ok.ensures ∙ c.if-kind_ok.true, sym c.has_parts.ensures ∙ c.if-not-has_parts.false) c.is_writable.ensures

pub returns-else-kind_ok : goal.returns-else-kind_ok
unfolding well_formed
returns-else-kind_ok c = rw (sym c.kind_ok.ensures ∙ c.if-kind_ok.false) c.if-kind_ok.false
