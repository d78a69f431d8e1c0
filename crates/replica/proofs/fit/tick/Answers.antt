-- `fit::tick` meets its contract. Assumes nothing.
use Rattle.std.proofs.Common.{sym, ◌∙◌}
use Rattle.readings.specs.Readings.{normalised}
use Rattle.scram.specs.Events.{ticked}
use Rattle.replica.specs.Settings.{law_of, member_of}
use Rattle.replica.specs.Held.{held_in}
use Rattle.replica.proofs.Accepted.{accepted, fit}
use Rattle.replica.proofs.Calls.{Ticks, tick-done, after-tick-silent}
use Rattle.replica.proofs.Gives.{does-silent, tick-refuses}
use Rattle.replica.proofs.Lent.{refusal-seen, updated-seen}
use Rattle.replica.proofs.fit.tick.Goals as goal

pub returns-in-Err : goal.returns-in-Err
returns-in-Err c =
    λ command.
    let s = c.args.settings.now in
    rw c.refused.ensures (tick-refuses s.law (member_of s) c.args.held s.law.m c.args.readings _ c.in-Err.refusal c.in-Err.ensures _ command)

pub updated-state-requires : goal.updated-state-requires
updated-state-requires c = let s = c.args.settings.now in refusal-seen s.law c.tables-tables.ensures ∙ (accepted s c.requires.0).law

pub ticked-next-requires : goal.ticked-next-requires
ticked-next-requires c =
    let a = c.args in
    let s = a.settings.now in
    let ticking : Ticks s.law (member_of s) a.held s.law.m a.readings (normalised s.law.m a.readings) =
    tick-done _ _ _ _ _ _ (sym c.in_default.ensures) in
    ticking.period

pub after_tick-moved-requires : goal.after_tick-moved-requires
after_tick-moved-requires c =
    let a = c.args in
    let s = a.settings.now in
    let ticking : Ticks s.law (member_of s) a.held s.law.m a.readings (normalised s.law.m a.readings) =
    tick-done _ _ _ _ _ _ (sym c.in_default.ensures) in
    rw (c.member.ensures, c.ticked-next.ensures s.law (c.updated-state.ensures ∙ updated-seen s.law c.tables-tables.ensures _ _)) (fit s c.requires.0, c.requires.1, ticking.view)

pub returns : goal.returns
returns c =
    λ command.
    let a = c.args in
    let s = a.settings.now in
    let ticking : Ticks s.law (member_of s) a.held s.law.m a.readings (normalised s.law.m a.readings) =
    tick-done _ _ _ _ _ _ (sym c.in_default.ensures) in
    let next = ticked (law_of s.law) (held_in a.held) (normalised s.law.m a.readings) in
    rw c.with_command.ensures
    (rw (← ticking.same)
    (does-silent
    (rw (c.member.ensures, c.ticked-next.ensures s.law (c.updated-state.ensures ∙ updated-seen s.law c.tables-tables.ensures _ _)) at (c.after_tick-moved.ensures s.law))
    (after-tick-silent s.law (member_of s) next).command command))
