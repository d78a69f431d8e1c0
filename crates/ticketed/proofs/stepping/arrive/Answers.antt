-- `ticketed::stepping::arrive` meets its contract. Assumes nothing.
use mathlib.Core.Path.{◌≡◌, refl, sym}
use mathlib.Core.Bool.{true}
use lib.ListN.{length}
use borrow.Author.Rules.{rules}
use Rattle.octets.specs.Words.{AllBytes}
use Rattle.replica.specs.declared.Replica.{Replica}
use Rattle.replica.specs.Calls.{Outcomes, arrive_outcome}
use Rattle.ticketed.specs.Reading.{ticketed_in, is_ticketed}
use Rattle.ticketed.proofs.Typed.{ten}
use Rattle.ticketed.proofs.Judged.{judged}
use Rattle.ticketed.proofs.StepLaws.{steps-refused, stepped}
use Rattle.ticketed.proofs.stepping.arrive.Goals as goal

pub returns-in_default : goal.returns-in_default
returns-in_default c =
    let a = c.args in
    steps-refused a.replica.now a.frame.now a.command.now _ _ (sym c.in_default.ensures.found) c.refused.ensures

pub step_of-requires : goal.step_of-requires
step_of-requires c =
    let is : is_ticketed c.args.replica.now ≡ true =
    sym c.in-Some.ensures.found in
    (judged _ is).long

pub returns : goal.returns
unfolding AllBytes
returns c =
    let is : is_ticketed c.args.replica.now ≡ true =
    sym c.in-Some.ensures.found in
    let bytes : AllBytes c.args.replica.now = search rules in
    let replica-read : c.in-Some.before ≡ (ticketed_in c.args.replica.now).replica =
    c.in-Some.ensures.replica in
    let places : length c.arrive-stepped.result.replica.held.heard ≡ 10 =
    ten c.arrive-stepped.result.replica.held _ c.arrive-stepped.type_inv.1.1.1.0.1.1.1.0 in
    let a = c.args in
    let event : Replica → Outcomes = λ x. arrive_outcome x c.args.bytes.now (length c.args.frame.now) (length c.args.command.now) in
    let n = c.step_of.ensures in
    stepped a.replica.now bytes is event replica-read refl places c.arrive-stepped.ensures _ _ n.stepped n.replica
