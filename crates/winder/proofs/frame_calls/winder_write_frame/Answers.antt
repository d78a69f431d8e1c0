-- `winder_write_frame` meets its contract. Assumes nothing.
use mathlib.Core.Path.{◌≡◌, sym, ap, ◌∙◌}
use mathlib.Core.List.{List}
use Prim.Native.Nat.{ℕ}
use lib.ListN.{length}
use Rattle.frame.specs.declared.Frame.{Frame}
use Rattle.frame.specs.Writing.{write_refusal, written}
use Rattle.refusal.proofs.Numbers.{number-not-0}
use Rattle.winder.proofs.Refused.{done, refused}
use Rattle.winder.proofs.frame_calls.winder_write_frame.Goals as goal

module _ (n m : ℕ) (area : List ℕ) {f g : Frame} (same : f ≡ g) where
  same-refusal : write_refusal n m f area ≡ write_refusal n m g area
  same-refusal = ap (λ (h : Frame). write_refusal n m h area) same

  same_count : length (written n m f area) ≡ length (written n m g area)
  same_count = ap (λ (h : Frame). length (written n m h area)) same

pub returns-in-Ok-clause-length : goal.returns-in-Ok-clause-length
returns-in-Ok-clause-length c =
    let a = c.args in
    let g = c.frame_of-frame.ensures in
    c.in-Ok.ensures.count ∙ same_count a.n a.m a.area.now g ∙ done _ _ _ (sym (c.in-Ok.ensures.answer ∙ same-refusal a.n a.m a.area.now g))

pub returns-in-Err-clause-length : goal.returns-in-Err-clause-length
returns-in-Err-clause-length c =
    let a = c.args in
    refused _ _ _ (λ h. number-not-0 c.in-Err.refusal (c.in-Err.ensures.answer ∙ same-refusal a.n a.m a.area.now c.frame_of-frame.ensures ∙ h))
