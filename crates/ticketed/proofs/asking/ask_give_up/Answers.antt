-- `ticketed::asking::ask_give_up` meets its contract. Assumes nothing.
use mathlib.Core.Path.{◌≡◌, refl, sym, ap, ◌∙◌}
use mathlib.Core.Bool.{true}
use native.Mathlib.Omega.{arith}
use lib.ListN.{length}
use Rattle.octets.specs.Words.{AllBytes}
use Rattle.replica.specs.declared.Replica.{Replica}
use Rattle.replica.specs.Calls.{Outcomes, give_up_outcome}
use Rattle.ticketed.specs.Reading.{ticketed_in, is_ticketed}
use Rattle.ticketed.specs.TicketsPart.{tickets_at}
use Rattle.ticketed.specs.Calls.{askable}
use Rattle.ticketed.proofs.Typed.{ten}
use Rattle.ticketed.proofs.Judged.{judged}
use Rattle.ticketed.proofs.AskLaws.{asks-refused, ask-room, asked}
use Rattle.ticketed.proofs.asking.ask_give_up.Goals as goal

pub returns-in_default : goal.returns-in_default
returns-in_default c =
    let a = c.args in
    asks-refused a.replica.now a.area.now a.frame.now a.command.now _ _ (sym c.in_default.ensures.found)
    c.refused.ensures

pub askable_in-ticketed-requires : goal.askable_in-ticketed-requires
askable_in-ticketed-requires c =
    let is : is_ticketed c.args.replica.now ≡ true =
    sym c.in-Some.ensures.found in
    (judged _ (is)).long

pub note-requires : goal.note-requires
unfolding AllBytes
note-requires c =
    let event : Replica → Outcomes = λ x. give_up_outcome x (length c.args.frame.now) (length c.args.command.now) in
    let is : is_ticketed c.args.replica.now ≡ true =
    sym c.in-Some.ensures.found in
    let bytes : AllBytes c.args.replica.now =
    λ i. (c.slice_known-1.given i).fits in
    let replica-read : c.in-Some.before ≡ (ticketed_in c.args.replica.now).replica =
    c.in-Some.ensures.replica in
    let same : let b = c.args.replica.now in c.askable_in-ticketed.result ≡ askable (ticketed_in b).replica (tickets_at b) =
    let b = c.args.replica.now in
    c.askable_in-ticketed.ensures ∙ ap (λ (r : Replica). askable r (tickets_at b)) (replica-read) in
    let places : length c.ask_give_up-asked.result.ticketed.tickets.held.heard ≡ 10 =
    ten c.ask_give_up-asked.result.ticketed.tickets.held _ c.ask_give_up-asked.type_inv.1.1.1.1.0.1.1.1.0.1.1.1.1.0 in
    let a = c.args in
    let i = is in
    let j = judged _ i in (
      j.long,
      j.head,
      λ p. omega (
        arith,
        c.ask_give_up-asked.auto.area,
        ask-room a.replica.now (bytes) i event (same) refl (places) c.ask_give_up-asked.ensures p,
      ),
    )

pub returns : goal.returns
unfolding AllBytes
returns c =
    let event : Replica → Outcomes = λ x. give_up_outcome x (length c.args.frame.now) (length c.args.command.now) in
    let is : is_ticketed c.args.replica.now ≡ true =
    sym c.in-Some.ensures.found in
    let bytes : AllBytes c.args.replica.now =
    λ i. (c.slice_known-1.given i).fits in
    let replica-read : c.in-Some.before ≡ (ticketed_in c.args.replica.now).replica =
    c.in-Some.ensures.replica in
    let same : let b = c.args.replica.now in c.askable_in-ticketed.result ≡ askable (ticketed_in b).replica (tickets_at b) =
    let b = c.args.replica.now in
    c.askable_in-ticketed.ensures ∙ ap (λ (r : Replica). askable r (tickets_at b)) (replica-read) in
    let places : length c.ask_give_up-asked.result.ticketed.tickets.held.heard ≡ 10 =
    ten c.ask_give_up-asked.result.ticketed.tickets.held _ c.ask_give_up-asked.type_inv.1.1.1.1.0.1.1.1.0.1.1.1.1.0 in
    let a = c.args in
    let n = c.note.ensures in
    asked a.replica.now (bytes) (is) event (same) refl (places) c.ask_give_up-asked.ensures _ _
    n.asked n.replica
