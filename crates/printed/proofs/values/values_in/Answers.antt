-- `values::values_in` meets its contract. The loop's invariant: the list is one where what lies from `at` on is one of i numbers fewer; the first i
-- places hold its first values and the others 0, and its other values are those from `at` on. Assumes nothing.
use mathlib.Core.Path.{◌≡◌, refl, sym, ap, ◌∙◌}
use mathlib.Core.List.{List}
use Prim.Native.Nat.{ℕ, suc, ◌+◌, ◌-◌, ◌<◌}
use native.Mathlib.Nat.{zero-add}
use native.Mathlib.Omega.{arith}
use lib.ListN.{length, drop, set, length-set}
use lib.IntN.{ℤ, pos}
use mir.Syntax.{w32}
use mir.Val.{to_z, of_z}
use mir.ValLaws.{to_z-of_z}
use Rattle.std.specs.Prelude.{Some}
use Rattle.lists.specs.Places.{filled}
use Rattle.lists.proofs.Choice.{pick_true, pick-false}
use Rattle.lists.proofs.Places.{filled_none, filled_more}
use Rattle.text.specs.Numbers.{number_of, value_in, is_whole}
use Rattle.text.specs.Lines.{up_to}
use Rattle.printed.specs.Values.{is_list, value_at, values_of}
use Rattle.printed.proofs.LineLaws.{comma-after, no-comma-after, list-none, list-fails, list-last, many-last, list-more, many_more}
use Rattle.printed.proofs.LineLaws.{value-first, value_after}
use Rattle.printed.proofs.values.values_in.Goals as goal

pub loop-i-init : goal.loop-i-init
loop-i-init c =
    let a = c.args in
    let e : a.most - 0 ≡ a.most = omega arith in
    (omega arith, rw e, rw (e, zero-add), sym (filled_none (pos 0) 6 (value_at a.list.now)), (λ j. rw (zero-add j)), refl)

pub returns-then-not-is_some : goal.returns-then-not-is_some
returns-then-not-is_some c =
    let rest = up_to 44 (drop c.loop-i.at c.args.list.now) in
    let number : c.number_in-number.result ≡ number_of rest = c.number_in-number.ensures ∙ ap number_of c.part_end-end.ensures.2 in
    let whole : c.is_some.result ≡ is_whole (number_of rest) = c.is_some.ensures ∙ ap is_whole number in
    let one_more : c.args.most - c.loop-i.i ≡ suc (c.args.most - (c.loop-i.i + 1)) = omega arith in
    let w = sym whole ∙ c.if-not-is_some.true in
    let no = c.loop-i.invariant.1 ∙ list-fails _ _ _ one_more w in
    sym (pick-false _ _ _ no)

pub returns-then-list-end : goal.returns-then-list-end
unfolding values_of
returns-then-list-end c =
    let l = c.loop-i in
    let a = c.args in
    let rest = up_to 44 (drop c.loop-i.at c.args.list.now) in
    let number : c.number_in-number.result ≡ number_of rest = c.number_in-number.ensures ∙ ap number_of c.part_end-end.ensures.2 in
    let whole : c.is_some.result ≡ is_whole (number_of rest) = c.is_some.ensures ∙ ap is_whole number in
    let one_more : c.args.most - c.loop-i.i ≡ suc (c.args.most - (c.loop-i.i + 1)) = omega arith in
    let z : l.i + 0 ≡ l.i = omega arith in
    let back = to_z-of_z w32 c.unwrap_or.result (record { sfits = c.unwrap_or.type_inv }) in
    let value = c.unwrap_or.ensures ∙ ap value_in number ∙ sym (value-first _) ∙ sym (rw z at (l.invariant.4 0)) in
    let filled_in : set l.values l.i (to_z w32 (of_z w32 c.unwrap_or.result)) ≡ filled (pos 0) 6 (l.i + 1) (value_at a.list.now) =
    rw (l.invariant.3, back, value) (filled_more (pos 0) 6 l.i _ (omega arith)) in
    let e = c.part_end-end.ensures in
    let w = sym whole ∙ c.if-not-is_some.false in
    let h = no-comma-after a.list.now l.at c.part_end-end.result e.0 e.1 e.2 c.if-list-end.true in
    let yes = l.invariant.1 ∙ list-last _ _ _ one_more w h in
    let n = l.invariant.2 ∙ ap (λ (k : ℕ). l.i + k) (many-last _ _ _ one_more h) in
    ap Some
    (ap (λ (v : List ℤ). record { count = l.i + 1; values = v }) filled_in
    ∙ ap (λ (k : ℕ). record { count = k; values = filled (pos 0) 6 k (value_at a.list.now) }) (sym n))
    ∙ sym (pick_true _ _ _ yes)

pub loop-i-preserved : goal.loop-i-preserved
loop-i-preserved c =
    let l = c.loop-i in
    let a = c.args in
    let rest = up_to 44 (drop c.loop-i.at c.args.list.now) in
    let number : c.number_in-number.result ≡ number_of rest = c.number_in-number.ensures ∙ ap number_of c.part_end-end.ensures.2 in
    let whole : c.is_some.result ≡ is_whole (number_of rest) = c.is_some.ensures ∙ ap is_whole number in
    let one_more : c.args.most - c.loop-i.i ≡ suc (c.args.most - (c.loop-i.i + 1)) = omega arith in
    let z : l.i + 0 ≡ l.i = omega arith in
    let back = to_z-of_z w32 c.unwrap_or.result (record { sfits = c.unwrap_or.type_inv }) in
    let value = c.unwrap_or.ensures ∙ ap value_in number ∙ sym (value-first _) ∙ sym (rw z at (l.invariant.4 0)) in
    let filled_in : set l.values l.i (to_z w32 (of_z w32 c.unwrap_or.result)) ≡ filled (pos 0) 6 (l.i + 1) (value_at a.list.now) =
    rw (l.invariant.3, back, value) (filled_more (pos 0) 6 l.i _ (omega arith)) in
    let e = c.part_end-end.ensures in
    let list = a.list.now in
    let left = a.most - (l.i + 1) in
    let w = sym whole ∙ c.if-not-is_some.false in
    let end : c.part_end-end.result < length list = omega (arith, c.if-list-end.false) in
    let h = comma-after list l.at c.part_end-end.result e.0 e.1 e.2 end in
    let n = l.invariant.2 ∙ ap (λ (k : ℕ). l.i + k) (many_more _ _ _ one_more h) in (
      omega arith,
      l.invariant.1 ∙ list-more _ _ _ one_more w h ∙ ap (is_list left) (sym e.3),
      n ∙ rw e.3 (omega arith),
      filled_in,
      (λ j. let z : l.i + 1 + j ≡ l.i + suc j = omega arith in
          rw z (l.invariant.4 (suc j) ∙ value_after _ j ∙ ap (λ (b : List ℕ). value_at b j) (sym e.3))),
      simp length-set l.invariant.5,
    )

pub returns : goal.returns
returns c =
    let l = c.loop-i in
    let z : c.args.most - l.i ≡ 0 = omega arith in
    let no = l.invariant.1 ∙ list-none _ _ z in
    sym (pick-false _ _ _ no)
