-- Laws of a frame in its slot. Assumes nothing.
use Rattle.std.proofs.Common.{◌≡◌, sym, ap, ◌∙◌, true, false, List, ℕ, ◌+◌, ◌*◌, ◌≤◌, ◌<◌, arith, min, ◌⊎◌, inl, inr, leb, length, take, drop}
use native.Mathlib.Decide.{dec_le}
use Rattle.std.proofs.Common.{◌++◌}
use Rattle.octets.specs.Areas.{put}
use lib.Seq.{length-take-le, drop-drop, take_all, take-length, drop-length}
use borrow.Author.Tests.{le-leb, lt-leb, leb-true, lt-ltb, le-ltb}
use Rattle.lists.proofs.Parts.{drop-beyond}
use Rattle.lists.specs.Choice.{pick}
use Rattle.lists.proofs.Booleans.{both}
use Rattle.line.specs.Frames.{slot, was_sent, frame_fits, kept_frame, kept}

-- what room for a frame tells
pub record Fits (table number frame size : ℕ) : Type 0 where
  pub area : size ≤ frame
  pub place : slot * number + size ≤ table

pub fits : (table number frame size : ℕ) → frame_fits table number frame size ≡ true → Fits table number frame size
unfolding frame_fits
fits table number frame size e =
    let p = both (leb size frame) _ e in
    record { area = leb-true size frame p.0; place = leb-true (slot * number + size) table (both (leb size slot) _ p.1).1 }

-- a frame that has room is kept
pub kept_there : (table : List ℕ) (number : ℕ) (frame : List ℕ) (size : ℕ) → size ≤ length frame → size ≤ slot → slot * number + size ≤ length table
    → kept table number frame size ≡ kept_frame table number (take size frame)
unfolding kept frame_fits pick
kept_there table number frame size a b c = rw (le-leb size (length frame) a, le-leb size slot b, le-leb (slot * number + size) (length table) c)

-- no line that is not an earlier one sent a frame
pub none-sent : (lengths : List ℕ) (number f : ℕ) → ((0 < f) × (number ≤ f)) ⊎ (f ≤ 0) → false ≡ was_sent lengths number f
unfolding was_sent
none-sent lengths number f (inl h) = rw (lt-ltb 0 f h.0, le-ltb f number h.1)
none-sent lengths number f (inr h) = rw (le-ltb 0 f h)

-- no room
pub no_room : (table number frame size : ℕ) → ((size ≤ frame) × (slot < size)) ⊎ (frame < size) → false ≡ frame_fits table number frame size
unfolding frame_fits
no_room table number frame size (inl h) = rw (le-leb size frame h.0, lt-leb size slot h.1)
no_room table number frame size (inr h) = rw (lt-leb size frame h)

-- a part of what is there
pub drop-least : (l : List ℕ) (a k : ℕ) → k ≡ min a (length l) → drop k l ≡ drop a l
drop-least l a k e = by (dec_le a (length l))
  where
    by : Dec (a ≤ length l) → drop k l ≡ drop a l
    by (yes h) = let s : k ≡ a = omega arith in ap (λ (n : ℕ). drop n l) s
    by (no h) = let s : k ≡ length l = omega (arith, h) in rw s (drop-length l ∙ sym (drop-beyond l a (omega (arith, h))))

pub take-least : (l : List ℕ) (n k : ℕ) → k ≡ min n (length l) → take k l ≡ take n l
take-least l n k e = by (dec_le n (length l))
  where
    by : Dec (n ≤ length l) → take k l ≡ take n l
    by (yes h) = let s : k ≡ n = omega arith in ap (λ (m : ℕ). take m l) s
    by (no h) = let s : k ≡ length l = omega (arith, h) in rw s (take-length l ∙ sym (take_all n l (omega (arith, h))))

-- bytes written over a part
pub put_there : (table : List ℕ) (a k : ℕ) (written : List ℕ) (size : ℕ) (frame : List ℕ) → k ≡ size → written ≡ take size frame → size ≤ length frame
    → take a table ++ (written ++ drop k (drop a table)) ≡ put table a (take size frame)
unfolding put
put_there table a k written size frame e w h = rw (e, w, length-take-le size frame h, drop-drop)
