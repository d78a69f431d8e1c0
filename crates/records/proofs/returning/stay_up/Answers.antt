-- `returning::stay_up` meets its contract: after each missed period, what is left is owed at the replica so far. Assumes nothing.
use Rattle.std.proofs.Common.{◌≡◌, sym, ap, ◌∙◌, ℕ, ◌+◌, ◌-◌, ◌<◌, true, arith}
use mathlib.Core.Path.{ap₂}
use Rattle.scram.specs.Shown.{is_refused}
use Rattle.records.specs.Returning.{missed_tick, stayed_up, passes_largest}
use Rattle.records.proofs.ReturningLaws.{passes-now, passes-later, up-later, passes_none, up_none, too_many, passing, not-many, stays-not, stays}
use Rattle.records.proofs.returning.stay_up.Goals as goal

pub returns-then-missed-gt-MOST_MISSED-clause-answer : goal.returns-then-missed-gt-MOST_MISSED-clause-answer
returns-then-missed-gt-MOST_MISSED-clause-answer c =
    let a = c.args in
    sym (stays-not a.missed a.replica (too_many a.missed a.replica c.if-missed-gt-MOST_MISSED.true)).0

pub returns-in_default-clause-answer : goal.returns-in_default-clause-answer
returns-in_default-clause-answer c =
    let a = c.args in
    let l = c.loop in
    let now : is_refused (missed_tick l.up).answer ≡ true = sym c.in_default.ensures.refused in
    sym (stays-not a.missed a.replica (passing a.missed a.replica (l.invariant.0 ∙ passes-now (a.missed - l.counter) l.up (omega arith) now))).0

pub loop-preserved : goal.loop-preserved
loop-preserved c =
    let l = c.loop in
    let left = c.args.missed - l.counter in
    let b : 0 < left = omega arith in
    let e : left - 1 ≡ c.args.missed - (l.counter + 1) = omega arith in
    let m = c.in-Some.ensures in (
      l.invariant.0 ∙ passes-later left l.up b (sym m.refused) ∙ ap₂ passes_largest e (sym m.replica),
      l.invariant.1 ∙ up-later left l.up b ∙ ap₂ stayed_up e (sym m.replica),
    )

pub returns : goal.returns
returns c =
    let a = c.args in
    let l = c.loop in
    let done : a.missed - l.counter ≡ 0 = omega arith in
    let none = l.invariant.0 ∙ ap (λ (k : ℕ). passes_largest k l.up) done ∙ passes_none l.up in
    let m = stays a.missed a.replica (not-many a.missed a.replica c.if-missed-gt-MOST_MISSED.false none) in
    record { answer = sym m.0; replica = sym (up_none l.up) ∙ ap (λ (k : ℕ). stayed_up k l.up) (sym done) ∙ sym l.invariant.1 ∙ sym m.1 }
