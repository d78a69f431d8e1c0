-- What recording a replica answers, and what it writes.
use Rattle.std.specs.Prelude.{ℕ, false, List, [], ◌∷◌, ◌++◌, eqb, ltb}
use Rattle.lists.specs.Choice.{pick}
use Rattle.lists.specs.Refusals.{Refusal, refusal, first_of}
use Rattle.scram.specs.Answers.{Answered, Done, Refused}
use Rattle.estimate.specs.Fields.{no_estimate, carried_estimate}
use Rattle.replica.specs.declared.Settings.{Settings}
use Rattle.replica.specs.declared.Best.{Best}
use Rattle.replica.specs.declared.Held.{Held}
use Rattle.replica.specs.declared.Replica.{Replica}
use Rattle.replica.specs.Settings.{settings_refusals}
use Rattle.records.specs.Lengths.{record_length}
use Rattle.records.specs.SettingsPart.{settings_bytes}
use Rattle.records.specs.HeldPart.{held_bytes}

-- no best estimate: 0 in every place
abbrev pub no_best : Best
no_best = record { any = false; box_number = 0; base_view = 0; base_period = 0; estimate = no_estimate }

-- what a record has of the best estimate heard: its estimate as frames carry it
unfoldable pub recorded_best : ℕ → ℕ → Best → Best
recorded_best n m b = pick b.any (record {
  any = b.any;
  box_number = b.box_number;
  base_view = b.base_view;
  base_period = b.base_period;
  estimate = carried_estimate n m b.estimate;
}) no_best

-- what a record has of what is held: estimates as frames carry them ("0 where absent", "Marks at or above m are 0"), and 0 in places that are not in
-- use. All else stands as it is, also where 15 will refuse it: a replica of a history holds nothing of that kind (`kept-in-order` of recovery)
unfoldable pub recorded_held : ℕ → ℕ → Held → Held
unfolding recorded_best
recorded_held n m h = record {
  period = h.period;
  view = h.view;
  base_view = h.base_view;
  view_change = h.view_change;
  decided = h.decided;
  estimate = carried_estimate n m h.estimate;
  base_period = h.base_period;
  heard = h.heard;
  best = recorded_best n m h.best;
}

-- "A box's replica is written as a record of fixed layout": the settings' part, and the part of what is held after it
unfoldable pub record_bytes : Replica → List ℕ
unfolding recorded_held
record_bytes r = settings_bytes r.settings ++ held_bytes (recorded_held r.settings.law.n r.settings.law.m r.held)

-- "5 also for a record area too short"
abbrev pub short_record : ℕ → Refusal
short_record area = refusal 5 (ltb area record_length)

-- the number of the refusal, or 0, where the area is so long: 1 to 4 and 18 for the settings, then 5
unfoldable pub record_refusal : Settings → ℕ → ℕ
record_refusal s area = first_of (settings_refusals s ++ (short_record area ∷ []))

-- what recording answers
abbrev pub record_answer : Settings → ℕ → Answered
record_answer s area = pick (eqb (record_refusal s area) 0) Done (Refused (record_refusal s area))

-- what is written to the start of the area: nothing where the call is refused
unfoldable pub recorded : Replica → ℕ → List ℕ
unfolding record_bytes
recorded r area = pick (eqb (record_refusal r.settings area) 0) (record_bytes r) []
