-- `replica_calls::leave` meets its contract. Assumes nothing.
use mathlib.Core.Path.{◌≡◌, refl, sym, ◌∙◌}
use native.Mathlib.Omega.{arith}
use lib.ListN.{length}
use borrow.Author.Rules.{rules}
use Rattle.lists.proofs.Choice.{pick_true, pick-false}
use Rattle.scram.specs.Answers.{answered}
use Rattle.records.proofs.PartLengths.{FullEstimate, length-held}
use Rattle.winder.proofs.Stepped.{put_last, done-number}
use Rattle.winder.proofs.replica_calls.leave.Goals as goal

pub returns-then-not-is_done : goal.returns-then-not-is_done
returns-then-not-is_done c =
    let e = c.is_done.ensures in
    record {
      answer = c.replica_number.ensures;
      replica = sym (pick-false _ _ _ (sym e ∙ c.if-not-is_done.true));
      lengths = refl;
    }

pub put_held-requires : goal.put_held-requires
put_held-requires c = omega (arith, c.requires)

pub returns : goal.returns
returns c =
    let ten : length c.args.given.held.heard ≡ 10 =
    search rules in
    let own : FullEstimate c.args.given.held.estimate =
    search rules in
    let best : FullEstimate c.args.given.held.best.estimate =
    search rules in
    let a = c.args in
    let done = sym c.is_done.ensures ∙ c.if-not-is_done.false in
    let written = length-held a.given.held (ten) (own) (best) in
    record {
      answer = done-number (answered a.given.answer) done;
      replica = c.put_held.ensures ∙ put_last a.replica.now 496 _ (omega (arith, c.requires)) ∙ sym (pick_true _ _ _ done);
      lengths = refl;
    }
