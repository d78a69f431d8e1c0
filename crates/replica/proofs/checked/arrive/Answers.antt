-- `checked::arrive` meets its contract. Assumes nothing.
use Rattle.std.proofs.Common.{length, sym}
use Rattle.replica.specs.declared.Replica.{Replica}
use Rattle.replica.specs.Calls.{arrive_outcome}
use Rattle.replica.proofs.Calls.{ready}
use Rattle.replica.proofs.Gives.{checked-refuses, checked-does}
use Rattle.replica.proofs.checked.arrive.Goals as goal

pub arrive-requires : goal.arrive-requires
arrive-requires c =
    let a = c.args in
    let d = ready a.settings.now (length a.frame.now) (length a.command.now) (sym c.in-Ok.ensures) in
    (d.settings, d.frame-room, d.command-room)

pub returns-in-Ok : goal.returns-in-Ok
unfolding arrive_outcome
returns-in-Ok c =
    let a = c.args in
    let given : Replica = record { settings = a.settings.now; held = a.held } in
    checked-does given (length a.frame.now) (length a.command.now) _ (sym c.in-Ok.ensures) c.arrive.ensures

pub returns-in-Err : goal.returns-in-Err
unfolding arrive_outcome
returns-in-Err c =
    let a = c.args in
    let given : Replica = record { settings = a.settings.now; held = a.held } in
    rw c.refused.ensures (checked-refuses given (length a.frame.now) (length a.command.now) _ c.in-Err.refusal c.in-Err.ensures)
