-- `law::commands::command_values` meets its contract. Assumes nothing.
use Rattle.std.proofs.Common.{◌≡◌, ℕ, ℤ, pos, Bool, ◌||◌, List, sym, ap, ◌∙◌, arith, rules, w32, to_z, of_z}
use Rattle.std.proofs.Math.Path.{ap₂}
use Rattle.std.proofs.Math.ListN.{set}
use Rattle.lists.specs.Below.{any_below}
use Rattle.lists.specs.Places.{filled}
use Rattle.lists.proofs.Below.{any_none, any_next}
use Rattle.lists.proofs.Places.{filled_none, filled_more}
use Rattle.law.specs.Settings.{K, lower, upper, settings_in}
use Rattle.law.specs.Law.{command, command_changed}
use Rattle.law.proofs.Laws.{sizes-accepted, commanded-accepted, command-limited-accepted}
use Rattle.law.proofs.commands.command_values.Goals as goal

pub loop-j-init : goal.loop-j-init
loop-j-init c = (sym (filled_none (pos 0) 4 _), sym (any_none _))

pub offset_bounds-commands-j : goal.offset_bounds-commands-j
offset_bounds-commands-j c = omega (arith, (sizes-accepted (settings_in c.args.standing.tables) c.args.standing.stands).p4)

pub bounds-commands-j : goal.bounds-commands-j
bounds-commands-j c = omega (arith, (sizes-accepted (settings_in c.args.standing.tables) c.args.standing.stands).p4)

pub loop-j-preserved : goal.loop-j-preserved
loop-j-preserved c =
    let l = c.loop-j in
    let one = c.command_value-one in
    let s = settings_in c.args.standing.tables in
    let f = command (K s) (lower s) (upper s) s.n c.args.x.now in
    let g = command_changed (K s) (lower s) (upper s) s.n c.args.x.now in
    let kept : to_z w32 (of_z w32 one.result.value) ≡ one.result.value = search rules in
    let here = kept ∙ one.ensures.0 in (
      ap₂ (λ (r : List ℤ) (z : ℤ). set r l.j z) l.invariant.0 here ∙ filled_more (pos 0) 4 l.j f (omega (arith, (sizes-accepted s c.args.standing.stands).p4)),
      ap₂ (λ (a b : Bool). a || b) l.invariant.1 one.ensures.1 ∙ sym (any_next g l.j),
    )

pub returns : goal.returns
returns c =
    let l = c.loop-j in
    let s = settings_in c.args.standing.tables in
    let done : l.j ≡ s.p = omega arith in
    let f = command (K s) (lower s) (upper s) s.n c.args.x.now in
    let g = command_changed (K s) (lower s) (upper s) s.n c.args.x.now in (
      l.invariant.0 ∙ ap (λ (i : ℕ). filled (pos 0) 4 i f) done ∙ commanded-accepted s c.args.x.now c.args.standing.stands,
      l.invariant.1 ∙ ap (λ (i : ℕ). any_below i g) done ∙ command-limited-accepted s c.args.x.now c.args.standing.stands,
    )
