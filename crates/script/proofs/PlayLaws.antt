-- Laws of a line played: what its event gives decides what the line leaves. Assumes nothing.
use mathlib.Core.Path.{◌≡◌, refl, ap, ◌∙◌, subst}
use mathlib.Core.Bool.{Bool, true, false, ◌&&◌}
use mathlib.Core.List.{List}
use Prim.Native.Nat.{ℕ, ◌+◌, ◌≤◌}
use native.Mathlib.Omega.{arith}
use lib.Dec.{leb, ltb}
use lib.ListN.{length, set}
use borrow.Author.Tests.{leb-true, ltb-true}
use Rattle.lists.specs.Choice.{pick}
use Rattle.lists.proofs.Booleans.{both, never}
use Rattle.scram.specs.Answers.{Answered, answered}
use Rattle.transmitters.specs.declared.Reading.{Reading}
use Rattle.text.specs.Printing.{Puts}
use Rattle.text.proofs.PrintingLaws.{puts-same}
use Rattle.line.specs.declared.events.Event.{Event}
use Rattle.line.specs.declared.events.Event.TheVariants.{Tick, GiveUp, Deliver, Store, Return, Commit, StoreAsked, Bad}
use Rattle.line.specs.Frames.{was_sent, kept as sent_kept}
use Rattle.script.specs.declared.boxes.Outgoing.{Outgoing}
use Rattle.script.specs.declared.boxes.Kept.{Kept}
use Rattle.script.specs.declared.boxes.Effect as Given
use Rattle.script.specs.declared.asking.AskEffect as Given'
use Rattle.script.specs.declared.play.PlayedLine.{PlayedLine}
use Rattle.script.specs.Printing.{bad_line, step_line, ask_line}
use Rattle.script.specs.Boxes.{Effect, Gives}
use Rattle.script.specs.Asking.{Asking, Asks, ask_of}
use Rattle.script.specs.Play.{most, table_length, line_room, box_in, line_in, playable, has_room, effect_of, arriving, after_step, ask_printed, after_event, Leaves, AskLeaves}
use Rattle.script.proofs.LineLengths.{bad-length}

-- ---- the event at its box

-- what is printed of a step
abbrev step_printed : ℕ → ℕ → Answered → Kept → Outgoing → List ℕ
step_printed number who answer k gave = step_line number who answer k.ticketed.replica gave.sent gave.issued gave.command

pub leaves-step : {e : Effect} {r : Given.Effect} (event : Event) (at who number : ℕ) (table table' lengths text text' : List ℕ) (end : ℕ)
    → Gives e r
    → table' ≡ sent_kept table number r.gave.frame r.gave.sent
    → who ≡ box_in event
    → Puts text at (step_printed number who (answered r.answer) r.kept r.gave) end text'
    × (length (step_printed number who (answered r.answer) r.kept r.gave) ≤ line_room)
    → Leaves (after_step event number table lengths e) at (record { kept = r.kept; end = end }) table' (set lengths number r.gave.sent) text text'
leaves-step {e} {r} event at who number table table' lengths text text' end g kept w line =
    let same : step_printed number who (answered r.answer) r.kept r.gave ≡ step_printed number (box_in event) e.answer e.kept e.gave =
    λ i. step_printed number (w i) (g.answer i) (g.kept i) (g.gave i) in
    record {
      kept = g.kept;
      printed = puts-same same line.0;
      short = subst (λ (l : List ℕ). length l ≤ line_room) same line.1;
      table = kept ∙ ap (λ (o : Outgoing). sent_kept table number o.frame o.sent) g.gave;
      lengths = ap (λ (o : Outgoing). set lengths number o.sent) g.gave;
    }

-- what is printed of an ask
abbrev as_printed : ℕ → ℕ → Given'.AskEffect → Answered → Outgoing → List ℕ
as_printed number who r answer gave = ask_line number who answer r.shown gave.sent gave.issued gave.command r.ticket

pub leaves-ask : {a : Asking} {r : Given'.AskEffect} (event : Event) (at who number : ℕ) (text text' : List ℕ) (end : ℕ)
    → Asks a r
    → who ≡ box_in event
    → Puts text at (as_printed number who r (answered r.answer) r.kept.latest.gave) end text'
    × (length (as_printed number who r (answered r.answer) r.kept.latest.gave) ≤ line_room)
    → AskLeaves event number a at (record { kept = r.kept; end = end }) text text'
leaves-ask {a} {r} event at who number text text' end g w line =
    let same : as_printed number who r (answered r.answer) r.kept.latest.gave ≡ ask_printed event number a =
    λ i. let gave = (g.kept i).latest.gave in ask_line number (w i) (g.answer i) (g.shown i) gave.sent gave.issued gave.command (g.ticket i) in
    record { kept = g.kept; printed = puts-same same line.0; short = subst (λ (l : List ℕ). length l ≤ line_room) same line.1 }

-- ---- events by their kinds

-- any other event delivers nothing
pub no_line : (e : Event) → ((at f : ℕ) → e ≡ Deliver at f → ⊥) → 0 ≡ line_in e
unfolding line_in
no_line (Tick at) k = refl
no_line (GiveUp at) k = refl
no_line (Deliver at f) k = absurd (k at f refl)
no_line (Store at) k = refl
no_line (Return at n) k = refl
no_line (Commit at t) k = refl
no_line (StoreAsked at) k = refl
no_line Bad k = refl

-- any other event can be played
pub others-playable : (stored asked : Bool) (e : Event) (number : ℕ) (lengths : List ℕ)
    → ((at f : ℕ) → e ≡ Deliver at f → ⊥) → ((at n : ℕ) → e ≡ Return at n → ⊥) → ((at : ℕ) → e ≡ StoreAsked at → ⊥) → (e ≡ Bad → ⊥)
    → true ≡ playable stored asked e number lengths
unfolding playable
others-playable stored asked (Tick at) number lengths d r s b = refl
others-playable stored asked (GiveUp at) number lengths d r s b = refl
others-playable stored asked (Deliver at f) number lengths d r s b = absurd (d at f refl)
others-playable stored asked (Store at) number lengths d r s b = refl
others-playable stored asked (Return at n) number lengths d r s b = absurd (r at n refl)
others-playable stored asked (Commit at t) number lengths d r s b = refl
others-playable stored asked (StoreAsked at) number lengths d r s b = absurd (s at refl)
others-playable stored asked Bad number lengths d r s b = absurd (b refl)

-- ---- room

-- a frame that is delivered is that of an earlier line
earlier : (stored asked : Bool) (event : Event) (number : ℕ) (lengths : List ℕ) → playable stored asked event number lengths ≡ true → number ≤ most
    → line_in event ≤ most
unfolding playable line_in was_sent
earlier stored asked (Tick at) number lengths e h = omega arith
earlier stored asked (GiveUp at) number lengths e h = omega arith
earlier stored asked (Store at) number lengths e h = omega arith
earlier stored asked (Return at k) number lengths e h = omega arith
earlier stored asked (Commit at t) number lengths e h = omega arith
earlier stored asked (StoreAsked at) number lengths e h = omega arith
earlier stored asked (Deliver at f) number lengths e h =
    let p = both (ltb 0 f) _ e in
    let q = both (ltb f number) _ p.1 in
    omega (arith, ltb-true f number q.0)
earlier stored asked Bad number lengths e h = never e

-- what it tells that a line can be played
pub record Room (event : Event) (number lengths : ℕ) : Type 0 where
  pub line : line_in event ≤ most
  pub early : number ≤ most
  pub sizes : most + 1 ≤ lengths

pub room : (stored asked : Bool) (event : Event) (number table : ℕ) (lengths : List ℕ)
    → (has_room event number table (length lengths) && playable stored asked event number lengths) ≡ true → Room event number (length lengths)
unfolding has_room
room stored asked event number table lengths e =
    let o = both (has_room event number table (length lengths)) _ e in
    let p = both (leb number most) _ o.0 in
    let q = both (leb (box_in event) 9) _ p.1 in
    let t = both (leb table_length table) (leb (most + 1) (length lengths)) q.1 in
    let early = leb-true number most p.0 in
    record { line = earlier stored asked event number lengths o.1 early; early = early; sizes = leb-true (most + 1) (length lengths) t.1 }

-- ---- the line

module _ (b : Kept) (asks : Bool) (event : Event) (y : List Reading) (at number : ℕ) (table lengths text text' : List ℕ) (one : PlayedLine) where
  abbrev Played : Bool → Type 0
  Played t = (has_room event number (length table) (length lengths) && playable b.stored b.latest.ok event number lengths) ≡ t

  pub leaves-bad : Played false → (one.kept ≡ b) × Puts text at (bad_line number) one.end text'
      → Leaves (after_event b asks event y number table lengths) at one table lengths text text'
  unfolding after_event pick
  leaves-bad e p = rw e (record { kept = p.0; printed = p.1; short = bad-length number; table = refl; lengths = refl })

  pub leaves-asked : Played true → asks ≡ true → (bytes : List ℕ) → bytes ≡ arriving event table lengths
      → AskLeaves event number (ask_of b event y bytes) at one text text'
      → Leaves (after_event b asks event y number table lengths) at one table lengths text text'
  unfolding after_event pick
  leaves-asked e on bytes same l =
      let k = subst (λ (bytes : List ℕ). AskLeaves event number (ask_of b event y bytes) at one text text') same l in
      rw (e, on) (record { kept = k.kept; printed = k.printed; short = k.short; table = refl; lengths = refl })

  pub leaves-played : {table' lengths' : List ℕ} → Played true → asks ≡ false
      → Leaves (after_step event number table lengths (effect_of b event y (arriving event table lengths))) at one table' lengths' text text'
      → Leaves (after_event b asks event y number table lengths) at one table' lengths' text text'
  unfolding after_event pick
  leaves-played e off p = rw (e, off) p
