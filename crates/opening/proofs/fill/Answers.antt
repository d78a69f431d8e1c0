-- `opening::fill` meets its contract. Assumes nothing.
use Rattle.std.proofs.Common.{sym, ◌∙◌, arith, ◌≡◌, ◌<◌, length}
use Rattle.std.proofs.Common.{pos, w32}
use Rattle.std.proofs.lemmas.Int.{to_z-of_z}
use Rattle.lists.proofs.Places.{filled_none, filled_more}
use Rattle.opening.specs.Opening.{table_of}
use Rattle.opening.proofs.fill.Goals as goal

pub loop-k-init : goal.loop-k-init
loop-k-init c = c.requires.4 ∙ sym (filled_none (pos 0) (length c.args.out.now) _)

pub loop-k-preserved : goal.loop-k-preserved
loop-k-preserved c =
    let l = c.loop-k in
    let h : l.k < length c.args.out.now = omega arith in
    let back = to_z-of_z w32 c.entry_in.result (record { sfits = c.entry_in.type_inv }) in
    rw (l.invariant, back, c.entry_in.ensures) (filled_more (pos 0) (length c.args.out.now) l.k _ h)

pub returns : goal.returns
unfolding table_of
returns c =
    let l = c.loop-k in
    let e : l.k ≡ length c.args.out.now = omega arith in
    rw e at l.invariant
