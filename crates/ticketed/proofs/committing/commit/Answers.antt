-- `ticketed::committing::commit` meets its contract. Assumes nothing.
use mathlib.Core.Path.{◌≡◌, sym, ap, ◌∙◌}
use mathlib.Core.Bool.{true, not}
use lib.ListN.{length}
use borrow.Author.Rules.{rules}
use Rattle.octets.specs.Words.{AllBytes}
use Rattle.ticketed.specs.Lengths.{ticketed_length}
use Rattle.ticketed.specs.Reading.{is_ticketed}
use Rattle.ticketed.proofs.Judged.{judged}
use Rattle.ticketed.proofs.CommitLaws.{commit-15, commit-17, commit-done}
use Rattle.ticketed.proofs.committing.commit.Goals as goal

pub returns-then-is_none : goal.returns-then-is_none
returns-then-is_none c =
    let d = commit-15 c.args.area.now c.args.ticket (sym c.read.ensures.found ∙ c.is_none.ensures ∙ ap not c.if-is_none.true) in
    record { answer = d.0; area = d.1 }

pub commits-requires : goal.commits-requires
commits-requires c =
    let is : is_ticketed c.args.area.now ≡ true =
    sym c.read.ensures.found ∙ c.is_none.ensures ∙ ap not c.if-is_none.false in
    let long : length c.args.area.now ≡ ticketed_length =
    (judged _ is).long in
    long

pub returns-then-not-commits : goal.returns-then-not-commits
returns-then-not-commits c =
    let is : is_ticketed c.args.area.now ≡ true =
    sym c.read.ensures.found ∙ c.is_none.ensures ∙ ap not c.if-is_none.false in
    let d = commit-17 c.args.area.now c.args.ticket is (sym c.commits.ensures ∙ c.if-not-commits.true) in
    record { answer = d.0; area = d.1 }

pub make_step-requires : goal.make_step-requires
make_step-requires c =
    let is : is_ticketed c.args.area.now ≡ true =
    sym c.read.ensures.found ∙ c.is_none.ensures ∙ ap not c.if-is_none.false in
    let long : length c.args.area.now ≡ ticketed_length =
    (judged _ is).long in
    long

pub returns : goal.returns
unfolding AllBytes
returns c =
    let is : is_ticketed c.args.area.now ≡ true =
    sym c.read.ensures.found ∙ c.is_none.ensures ∙ ap not c.if-is_none.false in
    let bytes : AllBytes c.args.area.now = search rules in
    let d = commit-done c.args.area.now c.args.ticket is bytes (sym c.commits.ensures ∙ c.if-not-commits.false) in
    record { answer = d.0; area = c.make_step.ensures ∙ d.1 }
