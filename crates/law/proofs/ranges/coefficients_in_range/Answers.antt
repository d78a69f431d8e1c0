-- `law::ranges::coefficients_in_range` meets its contract: where all places are surely in range, those in use are. Assumes nothing.
use Rattle.std.proofs.Common.{◌≡◌, Bool, ◌&&◌, sym, ap, ◌∙◌, arith}
use Rattle.lists.proofs.Booleans.{both}
use Rattle.law.specs.Settings.{cell, table_in_range, coefficients_in_range}
use Rattle.law.proofs.Sums.{table-holds}
use Rattle.law.proofs.Accepted.{sizes}
use Rattle.law.proofs.ranges.coefficients_in_range.Goals as goal
use Rattle.law.proofs.ranges.coefficients_in_range.Goals.{then-table_in_range, else-table_in_range, then-table_in_range-2, else-table_in_range-2}

pub table_in_range-requires : goal.table_in_range-requires
table_in_range-requires c = let k = sizes _ _ _ c.requires in (k.n6, k.n6, omega arith, omega (arith, k.n6))

pub table_in_range-requires-then-table_in_range : goal.table_in_range-requires-then-table_in_range
table_in_range-requires-then-table_in_range c = let k = sizes _ _ _ c.requires in (k.n6, k.m4, omega arith, omega (arith, k.n6))

pub table_in_range-requires-then-table_in_range-2 : goal.table_in_range-requires-then-table_in_range-2
table_in_range-requires-then-table_in_range-2 c = let k = sizes _ _ _ c.requires in (omega (arith, k.m4), k.n6, omega arith, omega (arith, k.m4))

pub table_in_range-requires-then-table_in_range-3 : goal.table_in_range-requires-then-table_in_range-3
table_in_range-requires-then-table_in_range-3 c = let k = sizes _ _ _ c.requires in (omega (arith, k.p4), k.n6, omega arith, omega (arith, k.p4))

pub returns-then-surely_in_range : goal.returns-then-surely_in_range
unfolding coefficients_in_range
returns-then-surely_in_range c =
    let x = c.args.tables in
    let k = sizes _ _ _ c.requires in
    let all = c.if-surely_in_range.true in
    let alc-k = both _ _ all in
    let al-c = both _ _ alc-k.0 in
    let a-l = both _ _ al-c.0 in
    let ta = table-holds x.a.now _ 6 x.n x.n k.n6 (omega (arith, k.n6)) (c.surely_in_range.ensures a-l.0) in
    let tl = table-holds x.l.now _ 4 x.n x.m k.m4 (omega (arith, k.n6)) (c.surely_in_range-2.ensures a-l.1) in
    let tc = table-holds x.c.now _ 6 x.m x.n k.n6 (omega (arith, k.m4)) (c.surely_in_range-3.ensures al-c.1) in
    let tk = table-holds x.k.now _ 6 x.p x.n k.n6 (omega (arith, k.p4)) (c.surely_in_range-4.ensures alc-k.1) in
    all ∙ simp (ta, tl, tc, tk)

pub returns-then-table_in_range-3 : goal.returns-then-table_in_range-3
unfolding coefficients_in_range
returns-then-table_in_range-3 c =
    let x = c.args.tables in
    let ta = table_in_range (cell x.a.now 6) x.n x.n in
    let tl = table_in_range (cell x.l.now 4) x.n x.m in
    let tc = table_in_range (cell x.c.now 6) x.m x.n in
    let tk = table_in_range (cell x.k.now 6) x.p x.n in
    let al : c.if-table_in_range.value ≡ (ta && tl) =
    elim c.if-table_in_range.branch [
      | then-table_in_range w ↦ w.value-is ∙ w.table_in_range-then-table_in_range.ensures ∙ sym (ap (λ (b : Bool). b && tl) (sym c.table_in_range.ensures ∙ w.if-table_in_range.true))
      | else-table_in_range w ↦ w.value-is ∙ w.if-table_in_range.false ∙ sym (ap (λ (b : Bool). b && tl) (sym c.table_in_range.ensures ∙ w.if-table_in_range.false))
    ] in
    let alc : c.if-table_in_range-2.value ≡ (ta && tl && tc) =
    elim c.if-table_in_range-2.branch [
      | then-table_in_range-2 w ↦ w.value-is ∙ w.table_in_range-then-table_in_range-2.ensures ∙ sym (ap (λ (b : Bool). b && tc) (sym al ∙ w.if-table_in_range-2.true))
      | else-table_in_range-2 w ↦ w.value-is ∙ w.if-table_in_range-2.false ∙ sym (ap (λ (b : Bool). b && tc) (sym al ∙ w.if-table_in_range-2.false))
    ] in
    c.table_in_range-then-table_in_range-3.ensures ∙ sym (ap (λ (b : Bool). b && tk) (sym alc ∙ c.if-table_in_range-3.true))

pub returns-else-table_in_range-3 : goal.returns-else-table_in_range-3
unfolding coefficients_in_range
returns-else-table_in_range-3 c =
    let x = c.args.tables in
    let ta = table_in_range (cell x.a.now 6) x.n x.n in
    let tl = table_in_range (cell x.l.now 4) x.n x.m in
    let tc = table_in_range (cell x.c.now 6) x.m x.n in
    let tk = table_in_range (cell x.k.now 6) x.p x.n in
    let al : c.if-table_in_range.value ≡ (ta && tl) =
    elim c.if-table_in_range.branch [
      | then-table_in_range w ↦ w.value-is ∙ w.table_in_range-then-table_in_range.ensures ∙ sym (ap (λ (b : Bool). b && tl) (sym c.table_in_range.ensures ∙ w.if-table_in_range.true))
      | else-table_in_range w ↦ w.value-is ∙ w.if-table_in_range.false ∙ sym (ap (λ (b : Bool). b && tl) (sym c.table_in_range.ensures ∙ w.if-table_in_range.false))
    ] in
    let alc : c.if-table_in_range-2.value ≡ (ta && tl && tc) =
    elim c.if-table_in_range-2.branch [
      | then-table_in_range-2 w ↦ w.value-is ∙ w.table_in_range-then-table_in_range-2.ensures ∙ sym (ap (λ (b : Bool). b && tc) (sym al ∙ w.if-table_in_range-2.true))
      | else-table_in_range-2 w ↦ w.value-is ∙ w.if-table_in_range-2.false ∙ sym (ap (λ (b : Bool). b && tc) (sym al ∙ w.if-table_in_range-2.false))
    ] in
    c.if-table_in_range-3.false ∙ sym (ap (λ (b : Bool). b && tk) (sym alc ∙ c.if-table_in_range-3.false))
