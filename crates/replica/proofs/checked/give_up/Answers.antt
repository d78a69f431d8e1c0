-- `checked::give_up` meets its contract. Assumes nothing.
use Rattle.std.proofs.Common.{length, sym}
use Rattle.replica.specs.declared.Replica.{Replica}
use Rattle.replica.specs.Calls.{give_up_outcome}
use Rattle.replica.proofs.Accepted.{fit}
use Rattle.replica.proofs.Calls.{ready}
use Rattle.replica.proofs.Gives.{checked-refuses, checked-does}
use Rattle.replica.proofs.checked.give_up.Goals as goal

pub give_up-requires : goal.give_up-requires
give_up-requires c =
    let a = c.args in
    let d = ready a.settings.now (length a.frame.now) a.command (sym c.in-Ok.ensures) in
    (fit _ d.settings, d.frame-room)

pub returns-in-Ok : goal.returns-in-Ok
unfolding give_up_outcome
returns-in-Ok c =
    λ area.
    let a = c.args in
    let given : Replica = record { settings = a.settings.now; held = a.held } in
    checked-does given (length a.frame.now) a.command _ (sym c.in-Ok.ensures) (c.give_up.ensures given.settings.law given.settings.law.p area)

pub returns-in-Err : goal.returns-in-Err
unfolding give_up_outcome
returns-in-Err c =
    λ area.
    let a = c.args in
    let given : Replica = record { settings = a.settings.now; held = a.held } in
    rw c.refused.ensures (checked-refuses given (length a.frame.now) a.command _ c.in-Err.refusal c.in-Err.ensures)
