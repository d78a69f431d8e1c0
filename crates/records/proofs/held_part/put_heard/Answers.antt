-- `records::held_part::put_heard` meets its contract. The loop's invariant: the bytes of the first places stand in the area. Assumes nothing.
use Rattle.std.proofs.Common.{rules, ◌≡◌, refl, ◌∙◌, ◌<◌, length, arith}
use lib.ListN.{length-set}
use lib.Seq.{take_all}
use Rattle.octets.proofs.Areas.{put-nothing}
use Rattle.records.proofs.Heard.{heard-more, bit-from}
use Rattle.records.proofs.held_part.put_heard.Goals as goal

pub loop-j-init : goal.loop-j-init
loop-j-init c = (put-nothing c.args.area.now c.args.at, refl)

pub loop-j-preserved : goal.loop-j-preserved
loop-j-preserved c =
    let ten : length c.args.heard ≡ 10 =
    search rules in
    let l = c.loop-j in
    let h : l.j < 10 = omega arith in (
      heard-more c.args.area.now l.area c.args.heard c.args.at l.j _ l.invariant.0 l.invariant.1 (c.from.ensures ∙ bit-from _)
          (omega (arith, ten)) (omega (arith, ten, c.requires)),
      simp length-set l.invariant.1,
    )

pub returns : goal.returns
returns c =
    let ten : length c.args.heard ≡ 10 =
    search rules in
    let l = c.loop-j in
    l.invariant.0 ∙ rw (take_all l.j c.args.heard (omega (arith, ten)))
