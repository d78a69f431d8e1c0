-- `arrive_bytes` meets its contract. Assumes nothing.
use Rattle.std.proofs.Common.{sym, ◌∙◌, eq-eqb, ne_eqb}
use Rattle.refusal.specs.declared.Refusal.TheVariants.{Frame}
use Rattle.refusal.proofs.Numbers.{number-not-0}
use Rattle.scram.specs.Events.{arrival}
use Rattle.replica.proofs.Calls.{found_none, found_some}
use Rattle.replica.proofs.Gives.{says-refused}
use Rattle.replica.proofs.arrivals.arrive_bytes.Goals as goal

pub returns-in-Ok : goal.returns-in-Ok
unfolding arrival
returns-in-Ok c =
    λ law.
    let a = c.args in
    rw (found_some a.member.n a.member.m a.bytes.now (eq-eqb _ 0 (sym c.in-Ok.ensures.answer)))
    (rw c.in-Ok.ensures.frame at (c.arrive_frame.ensures law))

pub returns-in-Err : goal.returns-in-Err
unfolding arrival
returns-in-Err c =
    λ law.
    let a = c.args in
    rw (found_none a.member.n a.member.m a.bytes.now (ne_eqb _ 0 (λ z. number-not-0 _ (c.in-Err.ensures.answer ∙ z))))
    (rw c.refused_rule.ensures (says-refused _ _ _ _ Frame))
