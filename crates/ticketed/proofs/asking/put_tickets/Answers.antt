-- `ticketed::asking::put_tickets` meets its contract. Assumes nothing.
use mathlib.Core.Path.{◌≡◌, ap, ◌∙◌}
use mathlib.Core.List.{[], ◌∷◌}
use Prim.Native.Nat.{ℕ}
use native.Mathlib.Omega.{arith}
use Rattle.octets.specs.Areas.{put}
use Rattle.estimate.specs.Marks.{bit}
use Rattle.records.proofs.Heard.{bit-from}
use Rattle.ticketed.proofs.AskLaws.{noted-shut, noted-open}
use Rattle.ticketed.proofs.asking.put_tickets.Goals as goal

pub copy-requires : goal.copy-requires
copy-requires c = (omega (arith, c.requires.2 c.if-pending.true), omega (arith, c.requires.0))

pub returns-then-pending : goal.returns-then-pending
returns-then-pending c =
    let marked : c.put_bytes.new.area ≡ put c.args.replica.now 618 (bit c.args.pending ∷ []) =
    c.put_bytes.ensures ∙ ap (λ (x : ℕ). put c.args.replica.now 618 (x ∷ [])) (c.from.ensures ∙ bit-from _) in
    let a = c.args in
    noted-open a.replica.now c.requires.0 c.requires.1 a.latest a.pending _ _ a.area.now (marked) c.put_u64.ensures _
    (c.requires.2 c.if-pending.true) c.copy.ensures c.if-pending.true

pub returns-else-pending : goal.returns-else-pending
returns-else-pending c =
    let marked : c.put_bytes.new.area ≡ put c.args.replica.now 618 (bit c.args.pending ∷ []) =
    c.put_bytes.ensures ∙ ap (λ (x : ℕ). put c.args.replica.now 618 (x ∷ [])) (c.from.ensures ∙ bit-from _) in
    let a = c.args in
    noted-shut a.replica.now c.requires.0 c.requires.1 a.latest a.pending _ _ a.area.now (marked) c.put_u64.ensures c.if-pending.false
