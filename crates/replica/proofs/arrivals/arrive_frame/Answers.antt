-- `arrive_frame` meets its contract. Assumes nothing.
use Rattle.std.proofs.Common.{◌≡◌, sym, ◌∙◌, Bool, ℕ}
use Rattle.scram.specs.declared.Kind.{Kind}
use Rattle.scram.specs.Events.{bad_place, bad_base, arrive}
use Rattle.refusal.specs.declared.Refusal.TheVariants.{Sender, Place, Base}
use Rattle.replica.proofs.Accepted.{sender-place}
use Rattle.replica.proofs.Gives.{says-refused, says-ignored, says-true, says-false}
use Rattle.replica.proofs.arrivals.arrive_frame.Goals as goal

-- what the tests on the place and on the base found, said of the kind of the frame
place-by : (own sender : ℕ) {k j : Kind} {v w : ℕ} {r t : Bool} → r ≡ bad_place k v own sender → k ≡ j → v ≡ w → r ≡ t
    → bad_place j w own sender ≡ t
place-by own sender e kind coordinator found = rw (sym kind, sym coordinator) (sym e ∙ found)

base-by : (period view base_view base_period : ℕ) {k j : Kind} {r t : Bool} → r ≡ bad_base k period view base_view base_period → k ≡ j → r ≡ t
    → bad_base j period view base_view base_period ≡ t
base-by period view base_view base_period e kind found = rw (sym kind) (sym e ∙ found)

pub returns-then-sender : goal.returns-then-sender
unfolding arrive
returns-then-sender c = λ law. says-true _ _ (sym c.bad_sender-sender.ensures ∙ c.if-sender.true) (rw c.refused_rule.ensures (says-refused _ _ _ _ Sender))

pub returns-then-place : goal.returns-then-place
unfolding arrive
returns-then-place c =
    λ law.
    let a = c.args in
    says-false _ _ (sym c.bad_sender-sender.ensures ∙ c.if-sender.false)
    (says-true _ _ (place-by a.member.own a.f.sender c.bad_place-place.ensures c.kind_of-kind.ensures c.coordinator-coordinator.ensures c.if-place.true)
    (rw c.refused_rule-then-place.ensures (says-refused _ _ _ _ Place)))

pub returns-then-base : goal.returns-then-base
unfolding arrive
returns-then-base c =
    λ law.
    let a = c.args in
    let f = a.f in
    says-false _ _ (sym c.bad_sender-sender.ensures ∙ c.if-sender.false)
    (says-false _ _ (place-by a.member.own f.sender c.bad_place-place.ensures c.kind_of-kind.ensures c.coordinator-coordinator.ensures c.if-place.false)
    (says-true _ _ (base-by f.period f.view f.base_view f.base_period c.bad_base-base.ensures c.kind_of-kind.ensures c.if-base.true)
    (rw c.refused_rule-then-base.ensures (says-refused _ _ _ _ Base))))

pub ignores-requires : goal.ignores-requires
ignores-requires c =
    (sender-place _ _ _ c.requires.0.boxes (sym c.bad_sender-sender.ensures ∙ c.if-sender.false), c.kind_of-kind.ensures)

pub returns-then-ignores : goal.returns-then-ignores
unfolding arrive
returns-then-ignores c =
    λ law.
    let a = c.args in
    let f = a.f in
    says-false _ _ (sym c.bad_sender-sender.ensures ∙ c.if-sender.false)
    (says-false _ _ (place-by a.member.own f.sender c.bad_place-place.ensures c.kind_of-kind.ensures c.coordinator-coordinator.ensures c.if-place.false)
    (says-false _ _ (base-by f.period f.view f.base_view f.base_period c.bad_base-base.ensures c.kind_of-kind.ensures c.if-base.false)
    (says-true _ _ (sym c.ignores.ensures ∙ c.if-ignores.true) (rw c.ignored.ensures (says-ignored _ _ _ _)))))

pub receive-requires : goal.receive-requires
receive-requires c =
    (c.requires.0, c.requires.1, sender-place _ _ _ c.requires.0.boxes (sym c.bad_sender-sender.ensures ∙ c.if-sender.false))

pub returns : goal.returns
unfolding arrive
returns c =
    λ law.
    let a = c.args in
    let f = a.f in
    says-false _ _ (sym c.bad_sender-sender.ensures ∙ c.if-sender.false)
    (says-false _ _ (place-by a.member.own f.sender c.bad_place-place.ensures c.kind_of-kind.ensures c.coordinator-coordinator.ensures c.if-place.false)
    (says-false _ _ (base-by f.period f.view f.base_view f.base_period c.bad_base-base.ensures c.kind_of-kind.ensures c.if-base.false)
    (says-false _ _ (sym c.ignores.ensures ∙ c.if-ignores.false)
    (rw c.kind_of-kind.ensures at
    (c.receive.ensures law)))))
