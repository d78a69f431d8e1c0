-- `law::state::updated_state` meets its contract. Assumes nothing.
use Rattle.std.proofs.Common.{ℕ, ℤ, pos, Bool, ◌||◌, ap, ◌∙◌}
use Rattle.std.proofs.Math.Path.{ap₂}
use Rattle.lists.specs.Below.{any_below}
use Rattle.lists.specs.Places.{filled}
use Rattle.law.specs.Settings.{A, L, C, settings_in}
use Rattle.law.specs.Law.{e}
use Rattle.law.proofs.Formulas.{next-filled, changed-filled}
use Rattle.law.proofs.Laws.{sizes-accepted, updated-accepted, update-limited-accepted}
use Rattle.law.proofs.state.updated_state.Goals as goal

pub returns : goal.returns
returns c =
    let s = settings_in c.args.standing.tables in
    let x = c.args.x.now in
    let y = c.args.readings in
    let f = e (C s) s.n x y in
    let row = c.innovations-e.result.value in
    let few = (sizes-accepted s c.args.standing.stands).m4 in
    let given = c.next_state-next.ensures in
    let same = next-filled (A s) (L s) s.n s.m x f row few c.innovations-e.ensures.0 in
    let changed = changed-filled (A s) (L s) s.n s.m x f row few c.innovations-e.ensures.0 in (
      given.0 ∙ ap (λ (g : ℕ → ℤ). filled (pos 0) 6 s.n g) same ∙ updated-accepted s x y c.args.standing.stands,
      ap₂ (λ (a b : Bool). a || b) c.innovations-e.ensures.1 (given.1 ∙ ap (any_below s.n) changed) ∙ update-limited-accepted s x y c.args.standing.stands,
    )
