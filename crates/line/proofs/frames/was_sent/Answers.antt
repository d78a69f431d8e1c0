-- `frames::was_sent` meets its contract. Assumes nothing.
use Rattle.std.proofs.Common.{ap, ◌∙◌, arith, ◌≡◌, ◌<◌, ◌≤◌, ℕ, get_or}
use Rattle.std.proofs.Common.{ltb}
use Rattle.std.proofs.lemmas.Grind.{common_steps}
use Rattle.std.proofs.lemmas.Option.{gets}
use Rattle.std.proofs.Common.{◌⊎◌, inl, inr}
use borrow.Author.Tests.{lt-ltb, le-ltb}
use Rattle.line.specs.Frames.{was_sent}
use Rattle.line.proofs.FrameLaws.{none-sent}
use Rattle.line.proofs.frames.was_sent.Goals.{then-f-gt0, else-f-gt0}
use Rattle.line.proofs.frames.was_sent.Goals as goal

pub returns-then-f-number : goal.returns-then-f-number
unfolding was_sent
returns-then-f-number c =
    let s = c.args in
    let h = c.if-f-number.true in
    let e : c.unwrap_or.result ≡ get_or s.lengths.now s.f 0 = grind (arith, common_steps, gets) in
    rw (lt-ltb 0 s.f h.0, lt-ltb s.f s.number h.1) (ap (ltb 0) e)

late : (number f : ℕ) → ((0 < f) × (number ≤ f)) ⊎ (f ≤ 0) → 0 < f → number ≤ f
late number f (inl e) h = e.1
late number f (inr e) h = absurd (omega arith)

pub returns-else-f-number : goal.returns-else-f-number
returns-else-f-number c =
    let s = c.args in
    elim c.if-f-gt0.branch [
      | then-f-gt0 w ↦ w.t-5-is ∙ le-ltb s.f s.number (late s.number s.f c.if-f-number.either w.if-f-gt0.true) ∙ none-sent s.lengths.now s.number s.f c.if-f-number.either
      | else-f-gt0 w ↦ w.t-5-is ∙ le-ltb 0 s.f w.if-f-gt0.false ∙ none-sent s.lengths.now s.number s.f c.if-f-number.either
    ]
