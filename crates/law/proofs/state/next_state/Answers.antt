-- `law::state::next_state` meets its contract. Assumes nothing.
use Rattle.std.proofs.Common.{◌≡◌, ℤ, pos, Bool, ◌||◌, List, sym, ◌∙◌, arith, rules, w32, to_z, of_z}
use Rattle.std.proofs.Math.Path.{ap₂}
use Rattle.std.proofs.Math.ListN.{set}
use Rattle.lists.proofs.Below.{any_none, any_next}
use Rattle.lists.proofs.Places.{filled_none, filled_more}
use Rattle.lists.specs.Places.{entry}
use Rattle.law.specs.Settings.{A, L, settings_in}
use Rattle.law.specs.Law.{next, next_changed}
use Rattle.law.proofs.Laws.{sizes-accepted}
use Rattle.law.proofs.state.next_state.Goals as goal

pub loop-i-init : goal.loop-i-init
loop-i-init c = (sym (filled_none (pos 0) 6 _), sym (any_none _))

pub offset_bounds-value-i : goal.offset_bounds-value-i
offset_bounds-value-i c = omega (arith, (sizes-accepted (settings_in c.args.standing.tables) c.args.standing.stands).n6)

pub bounds-value-i : goal.bounds-value-i
bounds-value-i c = omega (arith, (sizes-accepted (settings_in c.args.standing.tables) c.args.standing.stands).n6)

pub loop-i-preserved : goal.loop-i-preserved
loop-i-preserved c =
    let l = c.loop-i in
    let one = c.next_value-one in
    let s = settings_in c.args.standing.tables in
    let f = next (A s) (L s) s.n s.m c.args.x.now (entry c.args.e.now) in
    let g = next_changed (A s) (L s) s.n s.m c.args.x.now (entry c.args.e.now) in
    let kept : to_z w32 (of_z w32 one.result.value) ≡ one.result.value = search rules in
    let here = kept ∙ one.ensures.0 in (
      ap₂ (λ (r : List ℤ) (z : ℤ). set r l.i z) l.invariant.0 here ∙ filled_more (pos 0) 6 l.i f (omega (arith, (sizes-accepted s c.args.standing.stands).n6)),
      ap₂ (λ (a b : Bool). a || b) l.invariant.1 one.ensures.1 ∙ sym (any_next g l.i),
    )
