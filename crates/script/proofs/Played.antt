-- Lines played one after the other: what was played so far, and one line more. Assumes nothing.
use mathlib.Core.Path.{◌≡◌, refl, sym, ap, ap₂, ◌∙◌, subst}
use mathlib.Core.Bool.{Bool}
use mathlib.Core.List.{List, [], ◌∷◌}
use Prim.Native.Nat.{ℕ, suc, ◌+◌, ◌-◌, ◌*◌, ◌≤◌, ◌<◌}
use native.Mathlib.Omega.{arith}
use native.Mathlib.Numerals.{add-one}
use lib.ListN.{length, get_or, take, drop, set, length-set}
use lib.Seq.{drop-drop}
use Rattle.line.specs.declared.events.Called.{Called}
use Rattle.line.specs.Events.{called}
use Rattle.transmitters.specs.declared.Reading.{Reading}
use Rattle.text.proofs.PrintingLaws.{put-within}
use Rattle.script.specs.declared.boxes.Kept.{Kept}
use Rattle.script.specs.declared.play.PlayedLine.{PlayedLine}
use Rattle.script.specs.Play.{most, table_length, line_room, place_of, after_event, Leaves}
use Rattle.text.specs.Lines.{first_line, after_line, lines_of}
use Rattle.script.specs.Script.{Left, left, kept_at, after_call, played, Prints}
use Rattle.text.proofs.LineLaws.{lines_next}
use Rattle.lists.proofs.Parts.{get_d_any}
use Rattle.script.proofs.ScriptLaws.{prints}

played-next : (of_rig : Bool) (boxes m number : ℕ) (l : Left) (line : List ℕ) (lines : List (List ℕ))
    → played of_rig boxes m number l (line ∷ lines) ≡ played of_rig boxes m (number + 1) (after_call l (number + 1) (called of_rig boxes m line)) lines
unfolding played
played-next of_rig boxes m number l line lines = rw add-one

played-none : (of_rig : Bool) (boxes m number : ℕ) (l : Left) → played of_rig boxes m number l [] ≡ l
unfolding played
played-none of_rig boxes m number l = refl

-- what a line played leaves is what the line leaves
module _ (held : List Kept) (table lengths table' lengths' output output' : List ℕ) (number end place : ℕ) (c : Called) (before : Kept)
    (y : List Reading) (one : PlayedLine) where
  after_one : place ≡ place_of c.event → before ≡ kept_at held place → y ≡ c.readings → end + line_room ≤ length output
      → Leaves (after_event before c.asks c.event y number table lengths) end one table' lengths' output output'
      → after_call (left held table lengths (take end output)) number c ≡ left (set held place one.kept) table' lengths' (take one.end output')
  unfolding after_call
  after_one p e q room l =
      let at : before ≡ kept_at held (place_of c.event) = e ∙ ap (kept_at held) p in
      let k = subst (λ a. Leaves a end one table' lengths' output output') (λ i. after_event (at i) c.asks c.event (q i) number table lengths) l in
      let w = put-within (omega (arith, k.short)) k.printed in
      let kept = ap₂ (λ (i : ℕ) (b : Kept). set held i b) (sym p) (sym k.kept) in
      λ i. record { kept = kept i; table = sym k.table i; lengths = sym k.lengths i; printed = sym w.text i }

-- the first `number` lines of a text were played, after the first `start` bytes of the output: what is left is at `at`, and what they printed
-- ends at `end`
pub record Sofar (of_rig : Bool) (boxes m start : ℕ) (text output₀ : List ℕ) (whole : Left) (output : List ℕ) (held : List Kept) (table lengths : List ℕ)
    (end at number : ℕ) : Type 0 where
  pub early : number ≤ most
  pub ten : length held ≡ 10
  pub frames : length table ≡ table_length
  pub sizes : length lengths ≡ most + 1
  pub same : length output ≡ length output₀
  pub from : start ≤ end
  pub room : end ≤ start + line_room * number
  pub played : whole ≡ played of_rig boxes m number (left held table lengths (take end output)) (lines_of (most - number) (drop at text))
  pub rest : drop end output ≡ drop end output₀

module _ (of_rig : Bool) (boxes m start : ℕ) (text output₀ : List ℕ) (enough : start + line_room * most ≤ length output₀) (whole : Left)
    (output : List ℕ) (held : List Kept) (table lengths : List ℕ) (end at number : ℕ)
    (s : Sofar of_rig boxes m start text output₀ whole output held table lengths end at number) where
  -- one line more
  pub one_more : {table' lengths' output' : List ℕ} {one : PlayedLine} (stop place : ℕ) (c : Called) (before other : Kept) (y : List Reading)
      → number < most → at < length text
      → take (stop - at) (drop at text) ≡ first_line (drop at text)
      → drop (stop + 1) text ≡ after_line (drop at text)
      → c ≡ called of_rig boxes m (take (stop - at) (drop at text))
      → place ≡ place_of c.event → place ≤ 9 → before ≡ get_or held place other → y ≡ c.readings
      → length table' ≡ length table → length lengths' ≡ length lengths → length output' ≡ length output
      → Leaves (after_event before c.asks c.event y (number + 1) table lengths) end one table' lengths' output output'
      → Sofar of_rig boxes m start text output₀ whole output' (set held place one.kept) table' lengths' one.end (stop + 1) (number + 1)
  one_more {table'} {lengths'} {output'} {one} stop place c before other y h l first following ec ep low eb ey et el eo k =
      let size = s.same in
      let room = s.room in
      let w = put-within (omega (arith, k.short)) k.printed in
      let next : most - number ≡ suc (most - (number + 1)) = omega arith in
      let now : Left = left held table lengths (take end output) in
      let call : called of_rig boxes m (first_line (drop at text)) ≡ c = ap (called of_rig boxes m) (sym first) ∙ sym ec in
      let there = eb ∙ get_d_any held place other _ (omega (arith, s.ten)) in
      let after = after_one held table lengths table' lengths' output output' (number + 1) end place c before y one ep there ey (omega arith) k in
      record {
        early = omega arith;
        ten = length-set held place one.kept ∙ s.ten;
        frames = et ∙ s.frames;
        sizes = el ∙ s.sizes;
        same = eo ∙ s.same;
        from = omega (arith, s.from, w.count);
        room = omega (arith, w.count, k.short);
        played =
            s.played
            ∙ ap (λ (n : ℕ). played of_rig boxes m number now (lines_of n (drop at text))) next
            ∙ ap (played of_rig boxes m number now) (lines_next (most - (number + 1)) text at l)
            ∙ played-next of_rig boxes m number now (first_line (drop at text)) _
            ∙ ap₂ (λ (t : Left) (u : List ℕ). played of_rig boxes m (number + 1) t (lines_of (most - (number + 1)) u))
            (ap (after_call now (number + 1)) call ∙ after) (sym following);
        rest =
            let k : ℕ = one.end - end in
            let e : one.end ≡ end + k = omega (arith, w.count) in
            w.rest
            ∙ ap (λ (n : ℕ). drop n output) e
            ∙ sym (drop-drop k end output)
            ∙ ap (drop k) s.rest
            ∙ drop-drop k end output₀
            ∙ ap (λ (n : ℕ). drop n output₀) (sym e);
      }

  -- no line is left
  pub no_more : lines_of (most - number) (drop at text) ≡ [] → Prints whole.printed end output₀ output
  no_more e =
      let early = s.early in
      let size = s.same in
      let room = s.room in
      let done : whole ≡ left held table lengths (take end output) =
      s.played ∙ ap (played of_rig boxes m number (left held table lengths (take end output))) e ∙ played-none of_rig boxes m number _ in
      prints whole.printed end output₀ output (ap (λ (l : Left). l.printed) done) (omega arith) s.rest
