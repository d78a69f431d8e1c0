-- `records::recording::copy` meets its contract. The loop's invariant: the first j bytes stand in the area. Assumes nothing.
use Rattle.std.proofs.Common.{◌≡◌, refl, sym, ap, ◌∙◌, List, ℕ, suc, ◌<◌, length, arith}
use native.Mathlib.Nat.{zero-add}
use native.Mathlib.Numerals.{add-one}
use lib.ListN.{get_or, set, length-set}
use lib.Seq.{paste, paste-zero, paste-suc, take_all}
use Rattle.octets.specs.Areas.{put}
use Rattle.octets.proofs.Areas.{put_front, pasted}
use Rattle.records.proofs.recording.copy.Goals as goal

-- one byte more
one_more : (l b : List ℕ) (i : ℕ) → i < length l → i < length b → set (paste l 0 b i) i (get_or b i 0) ≡ paste l 0 b (suc i)
one_more l b i h k = ap (λ (j : ℕ). set (paste l 0 b i) j (get_or b i 0)) (sym (zero-add i)) ∙ paste-suc l 0 b i 0 (omega arith) k

pub loop-j-init : goal.loop-j-init
loop-j-init c = let s = c.args in (paste-zero s.area.now 0 s.stored.now, refl)

pub loop-j-preserved : goal.loop-j-preserved
loop-j-preserved c =
    let l = c.loop-j in
    let s = c.args in
    let more = one_more s.area.now s.stored.now l.j (omega arith) (omega arith) in
    (rw (l.invariant.0, add-one) more, simp length-set l.invariant.1)

pub returns : goal.returns
returns c =
    let l = c.loop-j in
    let s = c.args in
    let e : l.j ≡ 616 = omega arith in
    (rw e at l.invariant.0)
    ∙ pasted s.area.now 0 s.stored.now 616 (omega arith)
    ∙ ap (put s.area.now 0) (take_all 616 s.stored.now (omega arith))
    ∙ put_front s.area.now s.stored.now
