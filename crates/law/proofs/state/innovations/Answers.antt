-- `law::state::innovations` meets its contract. Assumes nothing.
use Rattle.std.proofs.Common.{◌≡◌, ℤ, pos, Bool, ◌||◌, List, sym, ◌∙◌, arith, rules, w32, to_z, of_z}
use Rattle.std.proofs.Math.Path.{ap₂}
use Rattle.std.proofs.Math.ListN.{set}
use Rattle.lists.proofs.Below.{any_none, any_next}
use Rattle.lists.proofs.Places.{filled_none, filled_more}
use Rattle.law.specs.Settings.{C, settings_in}
use Rattle.law.specs.Law.{e, e_changed}
use Rattle.law.proofs.Laws.{sizes-accepted}
use Rattle.law.proofs.state.innovations.Goals as goal

pub loop-j-init : goal.loop-j-init
loop-j-init c = (sym (filled_none (pos 0) 4 _), sym (any_none _))

pub offset_bounds-value-j : goal.offset_bounds-value-j
offset_bounds-value-j c = omega (arith, (sizes-accepted (settings_in c.args.standing.tables) c.args.standing.stands).m4)

pub bounds-value-j : goal.bounds-value-j
bounds-value-j c = omega (arith, (sizes-accepted (settings_in c.args.standing.tables) c.args.standing.stands).m4)

pub loop-j-preserved : goal.loop-j-preserved
loop-j-preserved c =
    let l = c.loop-j in
    let one = c.innovation-one in
    let s = settings_in c.args.standing.tables in
    let f = e (C s) s.n c.args.x.now c.args.readings in
    let g = e_changed (C s) s.n c.args.x.now c.args.readings in
    let kept : to_z w32 (of_z w32 one.result.value) ≡ one.result.value = search rules in
    let here = kept ∙ one.ensures.0 in (
      ap₂ (λ (r : List ℤ) (z : ℤ). set r l.j z) l.invariant.0 here ∙ filled_more (pos 0) 4 l.j f (omega (arith, (sizes-accepted s c.args.standing.stands).m4)),
      ap₂ (λ (a b : Bool). a || b) l.invariant.1 one.ensures.1 ∙ sym (any_next g l.j),
    )
