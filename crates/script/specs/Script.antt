-- A whole script: its lines, what they leave one after the other, and what `bench` and `rig` print of it.
use Rattle.std.specs.Prelude.{ℕ, suc, ◌+◌, ◌*◌, min, ◌≡◌, Bool, true, false, List, [], ◌∷◌, ◌++◌, length, get_or, set, replicate, eqb, Result, Ok, Err}
use Rattle.lists.specs.Choice.{pick}
use Rattle.octets.specs.Areas.{over}
use Rattle.text.specs.Lines.{first_line, after_line, lines_of}
use Rattle.line.specs.declared.events.Called.{Called}
use Rattle.line.specs.Events.{called}
use Rattle.replica.specs.declared.Settings.{Settings}
use Rattle.replica.specs.Settings.{blank_settings}
use Rattle.replica.specs.Settings.{settings_refusal}
use Rattle.replica.specs.Calls.{made}
use Rattle.refusal.specs.Numbers.{number}
use Rattle.opening.specs.declared.Unopened.{Unopened}
use Rattle.opening.specs.declared.Unopened.TheVariants.{Bad, Refused}
use Rattle.opening.specs.Opening.{sizes_in, opened_by}
use Rattle.setup.specs.Bench.{bench}
use Rattle.script.specs.declared.boxes.Kept.{Kept}
use Rattle.script.specs.Printing.{header_line, bad_alone, refusal_line}
use Rattle.script.specs.Boxes.{unstored}
use Rattle.script.specs.Play.{most, table_length, line_room, place_of, after_event, fresh_boxes}

-- ---- what they leave

-- what lines leave: what is kept of the boxes, of box b at place b, the table of frames sent, the list of their lengths, and what was printed
pub record Left : Type 0 where
  pub kept : List Kept
  pub table : List ℕ
  pub lengths : List ℕ
  pub printed : List ℕ

-- the same, of its four values
abbrev pub left : List Kept → List ℕ → List ℕ → List ℕ → Left
left kept table lengths printed = record { kept = kept; table = table; lengths = lengths; printed = printed }

-- before the first line: boxes with fresh replicas, no record stored, no frame sent, and the header line printed
unfoldable pub unplayed : Settings → Left
unplayed s = left (fresh_boxes s) (replicate table_length 0) (replicate (most + 1) 0) header_line

-- what is kept of the box at a place; there is one at each place that an event has
abbrev pub kept_at : List Kept → ℕ → Kept
kept_at kept place = get_or kept place (unstored (made blank_settings))

-- one line more, of this number, that calls for c: what the line leaves is kept of its box then, and what the line prints is printed after
unfoldable pub after_call : Left → ℕ → Called → Left
after_call l number c =
    let a = after_event (kept_at l.kept (place_of c.event)) c.asks c.event c.readings number l.table l.lengths in
    record {
      kept = set l.kept (place_of c.event) a.kept;
      table = a.table;
      lengths = a.lengths;
      printed = l.printed ++ a.printed;
    }

-- what the lines of a script leave, in a group of so many boxes with m readings, the first of them after `number` others; `of_rig` tells whether they
-- are lines of `rig`
unfoldable pub played : (of_rig : Bool) (boxes m number : ℕ) → Left → List (List ℕ) → Left
played of_rig boxes m number l [] = l
played of_rig boxes m number l (line ∷ lines) = played of_rig boxes m (suc number) (after_call l (suc number) (called of_rig boxes m line)) lines

-- what a script leaves that is played by a group with these settings, which has at most four readings; "It reads at most 500 lines"
unfoldable pub left_by : (of_rig : Bool) → Settings → List ℕ → Left
left_by of_rig s text = played of_rig s.boxes (min s.law.m 4) 0 (unplayed s) (lines_of most text)

-- ---- what the programs print

-- what program `bench` prints of the text on its standard input
unfoldable pub bench_output : List ℕ → List ℕ
bench_output text = (left_by false bench text).printed

-- what the rig prints of a group that its first line describes, "`r` and the number alone" where making refuses its settings
unfoldable pub group_output : Settings → List ℕ → List ℕ
group_output s text = pick (eqb (settings_refusal s) 0) (left_by true s text).printed (refusal_line (settings_refusal s))

-- what it prints of a first line: `bad` or the refusal of its sizes alone, or what the group that it describes prints of the lines after
unfoldable pub opened_output : Result Settings Unopened → List ℕ → List ℕ
opened_output (Ok s) text = group_output s text
opened_output (Err (Refused refusal)) text = refusal_line (number refusal)
opened_output (Err Bad) text = bad_alone

-- what program `rig` prints of the text on its standard input: the first line describes a group, and the lines after are played
unfoldable pub rig_output : List ℕ → List ℕ
rig_output text = opened_output (opened_by (first_line text) (sizes_in (first_line text))) (after_line text)

-- no script prints more: the header line, and `most` lines
abbrev pub output_room : ℕ
output_room = 40 + line_room * most

-- a call prints this to the start of an area: it tells how many bytes, and those behind keep what they held
pub record Prints (printed : List ℕ) (r : ℕ) (area area' : List ℕ) : Type 0 where
  pub count : r ≡ length printed
  pub bytes : area' ≡ over printed area
