-- `events::reading_in` meets its contract. Assumes nothing.
use Rattle.std.proofs.Common.{rules, sym, ap, ◌∙◌}
use Rattle.std.proofs.Common.{w32}
use Rattle.std.proofs.lemmas.Int.{to_z-of_z}
use Rattle.lists.specs.Choice.{pick}
use Rattle.transmitters.specs.declared.Reading.TheVariants.{Count}
use Rattle.line.specs.Events.{reading_in}
use Rattle.line.proofs.events.reading_in.Goals as goal

pub returns-in-Some : goal.returns-in-Some
unfolding reading_in pick
returns-in-Some c =
    rw (sym c.number_in.ensures ∙ c.in-Some.is) (ap Count (to_z-of_z w32 c.in-Some.n (record { sfits = search rules })))

pub returns-then-of_rig : goal.returns-then-of_rig
unfolding reading_in pick
returns-then-of_rig c = rw (sym c.number_in.ensures ∙ c.in-None.is, c.if-of_rig.true) c.single_in.ensures

pub returns-else-of_rig : goal.returns-else-of_rig
unfolding reading_in pick
returns-else-of_rig c = rw (sym c.number_in.ensures ∙ c.in-None.is, c.if-of_rig.false)
