-- Five histories of document 01 over the bench's law, on bytes: its example of the bench, two take-overs, readings that come as singles, and one whose
-- second command is marked. The line of each entry is written out, and so are the commands that demand 3 speaks of: nobody need wonder whether its premises can be met.
use Rattle.std.specs.Prelude.{ℕ, zero, suc, ◌<◌, ◌≡◌, refl, true, false, List, [], ◌∷◌, map, ℤ, pos, negsuc, Float, length, get_or, replicate}
use Rattle.std.proofs.Common.{lit<, SFits}
use Rattle.std.specs.Float.{nan, inf, fin}
use Rattle.std.specs.Int.{w32}
use Rattle.lists.specs.I32.{AllI32}
use Rattle.lists.specs.Places.{entry}
use Rattle.transmitters.specs.declared.Reading.{Reading}
use Rattle.transmitters.specs.declared.Reading.TheVariants.{Count, Newtons, Missing}
use Rattle.transmitters.specs.Conversion.{CountI32, AllCountsI32}
use Rattle.scram.specs.Answers.{Answered, Done, Ignored}
use Rattle.scram.specs.Held.{Input, Tick, Arrival, GiveUp}
use Rattle.scram.specs.History.{Entry, Issued, Situation, called, step, after}
use Rattle.scram.specs.Demand3.{Demand3}
use Rattle.frame.specs.Lengths.{longest_frame, longest_command}
use Rattle.replica.specs.declared.Replica.{Replica}
use Rattle.replica.specs.Settings.{settings_refusal, law_of}
use Rattle.group.specs.Group.{Handed, Areas, outcome_of, settings_of, group}
use Rattle.setup.specs.Bench.{first, bench_law, bench}

-- ---- entries, as lines of the bench have them; the entries are counted from 0

zeros : (n i : ℕ) → SFits w32 (entry (replicate n (pos 0)) i)
zeros zero i = record { sfits = lit< tt }
zeros (suc n) zero = record { sfits = lit< tt }
zeros (suc n) (suc i) = zeros n i

-- a list with a value in the first place alone has i32 values
pub first-i32 : (y others : ℕ) → y < 2147483648 → AllI32 (first (pos y) others)
first-i32 y others h zero = record { sfits = h }
first-i32 y others h (suc i) = zeros others i

-- missing readings have no count
pub blanks : (n j : ℕ) → CountI32 (get_or (replicate n Missing) j Missing)
blanks zero j = tt
blanks (suc n) zero = tt
blanks (suc n) (suc j) = blanks n j

-- a reading in the first place, and no other
abbrev handed : (r : Reading) → CountI32 r → Handed
handed r h = record { readings = r ∷ replicate 3 Missing; four = refl; i32 = counts }
  where
    counts : AllCountsI32 (r ∷ replicate 3 Missing)
    counts zero = h
    counts (suc j) = blanks 3 j

-- areas of the least lengths that no step refuses
abbrev areas : Areas
areas = record { frame = replicate longest_frame 0; command = replicate longest_command 0 }

-- `T r y`
abbrev T : ℕ → (y : ℕ) → y < 2147483648 → Entry Handed Areas
T box y h = record { box = box; event = Tick (handed (Count (pos y)) (record { sfits = h })); areas = areas }

-- `T r -2147483648`
abbrev lowest : ℕ → Entry Handed Areas
lowest box = record { box = box; event = Tick (handed (Count (negsuc 2147483647)) (record { sfits = lit< tt })); areas = areas }

-- `T r -`: "`-` for absent"
abbrev absent : ℕ → Entry Handed Areas
absent box = record { box = box; event = Tick (handed Missing tt); areas = areas }

-- `T r f` and the bits of a single: `fin s m e` is ± m × 2^e newtons
abbrev N : ℕ → Float → Entry Handed Areas
N box x = record { box = box; event = Tick (handed (Newtons x) tt); areas = areas }

-- `G r`
abbrev G : ℕ → Entry Handed Areas
G box = record { box = box; event = GiveUp; areas = areas }

-- `D r f`: "deliver to r the frame that line f sent"
abbrev D : ℕ → ℕ → Entry Handed Areas
D box sender = record { box = box; event = Arrival sender; areas = areas }

-- ---- the line of an entry

-- the bench's fields `who answer k v vb kb x`, then the length of the frame sent, 0 where none was, and the bytes of the command
pub record Line : Type 0 where
  pub who : ℕ
  pub answer : Answered
  pub k : ℕ
  pub v : ℕ
  pub vb : ℕ
  pub kb : ℕ
  pub x : ℤ
  pub frame : ℕ
  pub command : List ℕ

-- the input of an event: what arrives are the bytes that an entry sent
abbrev input_of : List (List ℕ) → Input Handed ℕ → Input Handed (List ℕ)
input_of sent (Tick y) = Tick y
input_of sent (Arrival k) = Arrival (get_or sent k [])
input_of sent GiveUp = GiveUp

-- "Of the replica given back"
abbrev line_of : Situation Replica → Entry Handed Areas → Line
line_of w e =
    let before = w.box e.box in
    let r = called (group 3 bench.quorums bench_law) before w.sent e.event e.areas in record {
      who = e.box;
      answer = (outcome_of before (input_of w.sent e.event) e.areas).answer;
      k = r.box.held.period;
      v = r.box.held.view;
      vb = r.box.held.base_view;
      kb = r.box.held.base_period;
      x = entry r.box.held.estimate.state 0;
      frame = length r.frame;
      command = r.command;
    }

-- one entry after the other
unfoldable pub lines_from : Situation Replica → List (Entry Handed Areas) → List Line
lines_from w [] = []
lines_from w (e ∷ h) = line_of w e ∷ lines_from (step (group 3 bench.quorums bench_law) w e) h

-- the lines of a history
abbrev pub lines_of : List (Entry Handed Areas) → List Line
lines_of h = lines_from (after (group 3 bench.quorums bench_law) []) h

abbrev line : ℕ → Answered → ℕ → ℕ → ℕ → ℕ → ℕ → ℕ → List ℕ → Line
line who answer k v vb kb x frame command = record {
  who = who;
  answer = answer;
  k = k;
  v = v;
  vb = vb;
  kb = kb;
  x = pos x;
  frame = frame;
  command = command;
}

-- the command of a period with a value, both below 256, that is not marked: "byte 0 is 5, byte 1 is p, bytes 2 and 3 zero, period at 4, p i32 values from 8"
abbrev pub command : ℕ → ℕ → List ℕ
command period value = 5 ∷ 1 ∷ 0 ∷ 0 ∷ period ∷ 0 ∷ 0 ∷ 0 ∷ value ∷ 0 ∷ 0 ∷ 0 ∷ []

-- ---- what is claimed

-- the commands that a history has written, each as its bytes, the newest first
abbrev pub commands_of : List (Entry Handed Areas) → List (List ℕ)
commands_of h = map (λ (c : Issued Replica). c.bytes) (after (group 3 bench.quorums bench_law) h).issued

-- demand 3's premises hold, the entries give these lines, these commands are written, and the run of the single controller goes to the last of
-- their periods
pub record Witness (h : List (Entry Handed Areas)) (lines : List Line) (commands : List (List ℕ)) (last : ℕ) : Type 0 where
  pub start : AllI32 bench_law.start
  pub accepted : settings_refusal (settings_of 3 bench.quorums bench_law 1) ≡ 0
  pub given : lines_of h ≡ lines
  pub written : commands_of h ≡ commands
  pub run : Demand3 (group 3 bench.quorums bench_law) (law_of bench_law) h
  pub decided : run.last ≡ last

-- ---- the bench's example

-- "Input `T 1 100`, `T 2 102`, `D 2 1`, `D 1 3`, `D 2 4`, `T 2 -` prints"
abbrev pub bench_entries : List (Entry Handed Areas)
bench_entries = T 1 100 (lit< tt) ∷ T 2 102 (lit< tt) ∷ D 2 0 ∷ D 1 2 ∷ D 2 3 ∷ absent 2 ∷ []

-- ".. `1 1 ok 1 0 0 1 0 1 -`" and so on: a Propose and a Decide have 37 bytes, an Ack has 20
abbrev pub bench_lines : List Line
bench_lines =
    line 1 Done 1 0 0 1 0 37 []
    ∷ line 2 Done 1 0 0 0 0 0 []
    ∷ line 2 Done 1 0 0 1 0 20 []
    ∷ line 1 Done 1 0 0 1 0 37 (command 1 50)
    ∷ line 2 Done 1 0 0 1 0 0 (command 1 50)
    ∷ line 2 Done 2 0 0 1 50 0 []
    ∷ []

-- those of its fourth and fifth entries, of boxes 1 and 2
abbrev pub bench_commands : List (List ℕ)
bench_commands = command 1 50 ∷ command 1 50 ∷ []

-- ---- an open proposal is taken over

-- Box 1 proposes in period 1; box 3 acknowledges, and box 1 stops before it hears of it. Box 3 gives view 0 up, and box 2, which has never heard of
-- the proposal, takes it over from box 3's Estimate, since its base is the larger, and decides period 1. Period 2 is decided in the new view.
abbrev pub open_entries : List (Entry Handed Areas)
open_entries =
    T 1 100 (lit< tt)
    ∷ T 2 102 (lit< tt)
    ∷ T 3 104 (lit< tt)
    ∷ D 3 0
    ∷ G 3
    ∷ D 2 4
    ∷ D 3 5
    ∷ D 2 6
    ∷ D 3 7
    ∷ T 2 60 (lit< tt)
    ∷ T 3 70 (lit< tt)
    ∷ D 3 9
    ∷ D 2 11
    ∷ D 3 12
    ∷ []

-- the Estimate has 37 bytes too
abbrev pub open_lines : List Line
open_lines =
    line 1 Done 1 0 0 1 0 37 []
    ∷ line 2 Done 1 0 0 0 0 0 []
    ∷ line 3 Done 1 0 0 0 0 0 []
    ∷ line 3 Done 1 0 0 1 0 20 []
    ∷ line 3 Done 1 1 0 1 0 37 []
    ∷ line 2 Done 1 1 1 1 0 37 []
    ∷ line 3 Done 1 1 1 1 0 20 []
    ∷ line 2 Done 1 1 1 1 0 37 (command 1 50)
    ∷ line 3 Done 1 1 1 1 0 0 (command 1 50)
    ∷ line 2 Done 2 1 1 2 50 37 []
    ∷ line 3 Done 2 1 1 1 50 0 []
    ∷ line 3 Done 2 1 1 2 50 20 []
    ∷ line 2 Done 2 1 1 2 50 37 (command 2 55)
    ∷ line 3 Done 2 1 1 2 50 0 (command 2 55)
    ∷ []

-- 50 is half of box 1's 100, though box 2 was handed 102; then 55, between 50 and box 2's 60
abbrev pub open_commands : List (List ℕ)
open_commands = command 2 55 ∷ command 2 55 ∷ command 1 50 ∷ command 1 50 ∷ []

-- ---- a decision outlives the box that made it

-- Box 1 decides period 1 with box 3 and stops. In period 2 box 3 gives view 0 up; box 2, which never heard of the decision, takes over with box 3's
-- estimate, and the row decided in period 1 stands before the command of period 2. An Ack that comes again is ignored.
abbrev pub decided_entries : List (Entry Handed Areas)
decided_entries =
    T 1 100 (lit< tt)
    ∷ T 2 102 (lit< tt)
    ∷ T 3 104 (lit< tt)
    ∷ D 3 0
    ∷ D 1 3
    ∷ T 2 60 (lit< tt)
    ∷ T 3 70 (lit< tt)
    ∷ G 3
    ∷ D 2 7
    ∷ D 3 8
    ∷ D 2 9
    ∷ D 2 9
    ∷ []

-- box 2's state has its own reading of period 1 in it, as 51, until it takes box 3's estimate
abbrev pub decided_lines : List Line
decided_lines =
    line 1 Done 1 0 0 1 0 37 []
    ∷ line 2 Done 1 0 0 0 0 0 []
    ∷ line 3 Done 1 0 0 0 0 0 []
    ∷ line 3 Done 1 0 0 1 0 20 []
    ∷ line 1 Done 1 0 0 1 0 37 (command 1 50)
    ∷ line 2 Done 2 0 0 0 51 0 []
    ∷ line 3 Done 2 0 0 1 50 0 []
    ∷ line 3 Done 2 1 0 1 50 37 []
    ∷ line 2 Done 2 1 1 2 50 37 []
    ∷ line 3 Done 2 1 1 2 50 20 []
    ∷ line 2 Done 2 1 1 2 50 37 (command 2 60)
    ∷ line 2 Ignored 2 1 1 2 50 0 []
    ∷ []

-- 60 lies between 50, which box 1 decided, and box 3's 70
abbrev pub decided_commands : List (List ℕ)
decided_commands = command 2 60 ∷ command 1 50 ∷ []

-- ---- readings that come as singles

-- Box 1 is handed 25 × 2^-14 N, which is 100 units of 1/65536, and then −2^-17 N, half a unit below zero; box 2 a NaN and an infinity, which are
-- missing. "In the run of demand 3 a reading means its converted value": 100, and −1.
abbrev pub single_entries : List (Entry Handed Areas)
single_entries = N 1 (fin false 25 (negsuc 13)) ∷ N 2 nan ∷ D 2 0 ∷ D 1 2 ∷ N 1 (fin true 1 (negsuc 16)) ∷ N 2 (inf false) ∷ D 2 4 ∷ D 1 6 ∷ []

-- as with counts
abbrev pub single_lines : List Line
single_lines =
    line 1 Done 1 0 0 1 0 37 []
    ∷ line 2 Done 1 0 0 0 0 0 []
    ∷ line 2 Done 1 0 0 1 0 20 []
    ∷ line 1 Done 1 0 0 1 0 37 (command 1 50)
    ∷ line 1 Done 2 0 0 2 50 37 []
    ∷ line 2 Done 2 0 0 1 50 0 []
    ∷ line 2 Done 2 0 0 2 50 20 []
    ∷ line 1 Done 2 0 0 2 50 37 (command 2 24)
    ∷ []

-- 24, and not 25: −2^-17 N is rounded toward minus infinity
abbrev pub single_commands : List (List ℕ)
single_commands = command 2 24 ∷ command 1 50 ∷ []

-- ---- a reading that is clamped

-- Box 1 is handed the largest count, then the lowest one, then none; box 2 is handed none. e(1) of the largest is 2147483647, at its limit and unchanged, and
-- the state goes to 1073741824. From there e(1) of the lowest is clamped, and the state comes back to 0, where it stays.
abbrev pub limited_entries : List (Entry Handed Areas)
limited_entries =
    T 1 2147483647 (lit< tt) ∷ absent 2 ∷ D 2 0 ∷ D 1 2
    ∷ lowest 1 ∷ absent 2 ∷ D 2 4 ∷ D 1 6
    ∷ absent 1 ∷ absent 2 ∷ D 2 8 ∷ D 1 10
    ∷ []

-- 1073741824 in period 1: its highest byte is 64
abbrev pub halfway : List ℕ
halfway = 5 ∷ 1 ∷ 0 ∷ 0 ∷ 1 ∷ 0 ∷ 0 ∷ 0 ∷ 0 ∷ 0 ∷ 0 ∷ 64 ∷ []

-- 0 in period 2, marked: "Byte 2 of the command is 1 if that occurred in the update .. it comes from"
abbrev pub clamped : List ℕ
clamped = 5 ∷ 1 ∷ 1 ∷ 0 ∷ 2 ∷ 0 ∷ 0 ∷ 0 ∷ 0 ∷ 0 ∷ 0 ∷ 0 ∷ []

-- as with other readings
abbrev pub limited_lines : List Line
limited_lines =
    line 1 Done 1 0 0 1 0 37 []
    ∷ line 2 Done 1 0 0 0 0 0 []
    ∷ line 2 Done 1 0 0 1 0 20 []
    ∷ line 1 Done 1 0 0 1 0 37 halfway
    ∷ line 1 Done 2 0 0 2 1073741824 37 []
    ∷ line 2 Done 2 0 0 1 1073741824 0 []
    ∷ line 2 Done 2 0 0 2 1073741824 20 []
    ∷ line 1 Done 2 0 0 2 1073741824 37 clamped
    ∷ line 1 Done 3 0 0 3 0 37 []
    ∷ line 2 Done 3 0 0 2 0 0 []
    ∷ line 2 Done 3 0 0 3 0 20 []
    ∷ line 1 Done 3 0 0 3 0 37 (command 3 0)
    ∷ []

-- command 3 is of the state that command 2 is of, and is not marked
abbrev pub limited_commands : List (List ℕ)
limited_commands = command 3 0 ∷ clamped ∷ halfway ∷ []
