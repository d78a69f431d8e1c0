-- The laws of reading and writing frames. `n` states and `m` readings are within their ranges throughout. Assumes nothing.
use mathlib.Core.Path.{◌≡◌, sym, ap, ◌∙◌}
use mathlib.Core.Bool.{true}
use mathlib.Core.List.{List}
use Prim.Native.Nat.{ℕ}
use native.Mathlib.Omega.{arith}
use Rattle.frame.specs.Sizes.{sizes_ok}
use Rattle.octets.specs.Words.{AllBytes}
use Rattle.frame.specs.Format.{frame_bytes}
use Rattle.frame.specs.Fields.{Typed, carried}
use Rattle.frame.specs.Reading.{read_refusal, read_frame, ReadAs}
use Rattle.frame.specs.Writing.{well_formed}
use Rattle.frame.specs.declared.Frame.{Frame}
use Rattle.frame.proofs.Forth.{forth}
use Rattle.frame.proofs.Back.{back, good-back}
use Rattle.frame.proofs.Refusals.{frame-read, accepted}

-- (a) Reading the bytes of a well-formed frame gives that frame: all that its bytes carry of it.
pub read-write : (n m : ℕ) (f : Frame) → Typed f → sizes_ok n m ≡ true → well_formed m f ≡ true → ReadAs n m (frame_bytes n m f) (carried n m f)
read-write n m f t ok good = forth n m f t ok good

-- (b) Whatever reading finds, writing it gives the very bytes that were read; and it is well-formed, so that writing does not refuse it by 8.
pub write_read : (n m : ℕ) (b : List ℕ) → AllBytes b → read_refusal n m b ≡ 0 → frame_bytes n m (read_frame n m b) ≡ b
write_read n m b h e =
    let a = accepted n m b e in ap (frame_bytes n m) (frame-read n m b e) ∙ back n m b h a.sized a.good

pub read-well-formed : (n m : ℕ) (b : List ℕ) → AllBytes b → read_refusal n m b ≡ 0 → well_formed m (read_frame n m b) ≡ true
read-well-formed n m b h e =
    let a = accepted n m b e in ap (well_formed m) (frame-read n m b e) ∙ good-back n m b h a.sized a.good

-- (c) Bytes that are refused by 8 are no well-formed frame's bytes.
pub refused-no-frame : (n m : ℕ) (b : List ℕ) → read_refusal n m b ≡ 8 → (f : Frame) → Typed f → sizes_ok n m ≡ true → well_formed m f ≡ true
    → frame_bytes n m f ≡ b → ⊥
refused-no-frame n m b r f t ok good e =
    let z : ◌≡◌ {A = ℕ} 8 0 = sym r ∙ ap (read_refusal n m) (sym e) ∙ (read-write n m f t ok good).done in omega arith
