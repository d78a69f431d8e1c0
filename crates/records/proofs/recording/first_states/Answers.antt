-- `records::recording::first_states` meets its contract. Assumes nothing.
use Rattle.std.proofs.Common.{rules, ◌≡◌, ◌∙◌, ◌-◌, ◌++◌, take, pos, replicate, arith}
use Rattle.std.proofs.lemmas.Grind.{common_steps}
use borrow.Rule.Slice.PartMut.{put_mid}
use Rattle.records.proofs.States.{cleared}
use Rattle.records.proofs.recording.first_states.Goals as goal

pub returns : goal.returns
returns c =
    let s = c.args in
    let written : put_mid s.n (6 - s.n) s.state c.fill.new.self ≡ take s.n s.state ++ replicate (6 - s.n) (pos 0) = grind (arith, common_steps) in
    written ∙ cleared s.n s.state c.requires (search rules)
