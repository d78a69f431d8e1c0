-- `records::held_part::heard_at` meets its contract. The loop's invariant: the first j places hold their marks and the others none. Assumes nothing.
use Rattle.std.proofs.Common.{◌≡◌, sym, ◌∙◌, ◌+◌, ◌<◌, Bool, false, List, arith}
use mathlib.Core.Path.{ap₂}
use lib.ListN.{set}
use Rattle.lists.proofs.Places.{filled_none, filled_more}
use Rattle.records.specs.HeldPart.{mark_at, heard_at}
use Rattle.records.proofs.held_part.heard_at.Goals as goal

pub loop-j-init : goal.loop-j-init
loop-j-init c = sym (filled_none false 10 _)

pub loop-j-preserved : goal.loop-j-preserved
loop-j-preserved c =
    let l = c.loop-j in
    let s = c.args in
    let h : l.j < 10 = omega arith in
    ap₂ (λ (t : List Bool) (m : Bool). set t l.j m) l.invariant c.mark_at.ensures
    ∙ filled_more false 10 l.j (λ k. mark_at s.bytes.now (s.at + k)) h

pub returns : goal.returns
unfolding heard_at
returns c =
    let l = c.loop-j in
    let e : l.j ≡ 10 = omega arith in
    l.invariant ∙ rw e
