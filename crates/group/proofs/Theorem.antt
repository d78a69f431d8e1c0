-- Demand 3 holds of the replica. Assumes nothing.
use mathlib.Core.Path.{◌≡◌, sym, ap, ◌∙◌}
use mathlib.Core.List.{List}
use mathlib.Core.Option.{some}
use Prim.Native.Nat.{ℕ, ◌-◌, ◌≤◌}
use mathlib.Core.Bool.{◌||◌}
use lib.IntN.{ℤ}
use Rattle.lists.specs.I32.{AllI32}
use Rattle.readings.specs.declared.Readings.{Readings}
use Rattle.scram.specs.History.{Entry, Issued, In, after}
use Rattle.scram.specs.Demand3.{Demand3, controller, controller_command}
use Rattle.scram.proofs.Agreement as Agreement
use Rattle.quorums.specs.declared.Quorums.{Quorums}
use Rattle.law.specs.declared.Settings as Law
use Rattle.law.specs.declared.Marked.{Marked}
use Rattle.law.specs.Law.{updated, update_limited, commanded, command_limited}
use Rattle.law.proofs.Laws.{issued-commanded}
use Rattle.frame.specs.Command.{command_bytes, command_period}
use Rattle.replica.specs.declared.Replica.{Replica}
use Rattle.replica.specs.Frames.{issued_bytes}
use Rattle.replica.specs.Settings.{settings_refusal, law_of, member_of, group_of}
use Rattle.replica.proofs.Accepted.{overlap}
use Rattle.group.specs.Group.{Handed, Areas, settings_of, group}
use Rattle.group.specs.Command.{command_of, HoldsCommand}
use Rattle.group.specs.Demand3.{DemandThree}
use Rattle.group.proofs.Typed.{Carried}
use Rattle.group.proofs.Calls.{Kept, shown}

-- demand 3
pub demand-3 : DemandThree
demand-3 N q law start e h =
    Agreement.demand-3 (group N q law) (Kept N q law) (Carried law) (law_of law) (group_of (member_of (settings_of N q law 1))) (shown N q law start e) (overlap (settings_of N q law 1) e) h

-- all commands of one period, which their bytes have, are alike to the last byte
pub commands-alike : (N : ℕ) (q : Quorums) (law : Law.Settings) → AllI32 law.start → settings_refusal (settings_of N q law 1) ≡ 0 → (h : List (Entry Handed Areas))
    → (c d : Issued Replica) → In c (after (group N q law) h).issued → In d (after (group N q law) h).issued
    → command_period c.bytes ≡ command_period d.bytes → c.bytes ≡ d.bytes
commands-alike N q law start e h = Agreement.commands-alike (group N q law) (law_of law) h (demand-3 N q law start e h)

-- command k comes of the state after k − 1 steps and row k: its values are the law's command of the new state, and it has the mark of step k and of command k
module _ (law : Law.Settings) (row : ℕ → Readings) (k : ℕ) (l : 1 ≤ k) where
  abbrev before : List ℤ
  before = controller (law_of law) row (k - 1)

  mark-of-new-state : (update_limited law before (row k) || command_limited law (updated law before (row k))) ≡ (command_of law row k).limited
  mark-of-new-state = ap (λ (new : List ℤ). update_limited law before (row k) || command_limited law new) (Agreement.new-state (law_of law) row k l)

  pub command-of-new-state : controller_command (law_of law) row k ≡ command_of law row k
  unfolding controller_command
  command-of-new-state =
      sym (issued-commanded law before (row k))
      ∙ λ i. record { commands = commanded law (Agreement.new-state (law_of law) row k l i); limited = mark-of-new-state i }

  -- bytes that hold command k, as demand 3 has it, hold it in the law's words
  pub command-in-words : (bytes : List ℕ) → command_period bytes ≡ k
      → bytes ≡ issued_bytes law.p (some (record { period = k; values = controller_command (law_of law) row k })) → HoldsCommand law row bytes
  command-in-words bytes written same =
      same
      ∙ ap (λ (v : Marked). command_bytes law.p k v.commands v.limited) command-of-new-state
      ∙ ap (λ j. command_bytes law.p j (command_of law row j).commands (command_of law row j).limited) (sym written)

-- "each command written for k holds its command k, byte for byte", its mark too
pub command-of-decision : (N : ℕ) (q : Quorums) (law : Law.Settings) (h : List (Entry Handed Areas)) (run : Demand3 (group N q law) (law_of law) h) (c : Issued Replica)
    → In c (after (group N q law) h).issued → HoldsCommand law run.row c.bytes
command-of-decision N q law h run c p =
    let d = run.decided c p in command-in-words law run.row d.period d.from1 c.bytes d.written d.bytes
