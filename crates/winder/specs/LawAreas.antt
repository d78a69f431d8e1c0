-- How the areas of a caller are read as a row of readings, and what the areas of commands and marks hold after a call.
use Rattle.std.specs.Prelude.{ℕ, Bool, not, List, [], ◌∷◌, get_or, ℤ, eqb}
use Rattle.readings.specs.declared.Readings.{Readings}
use Rattle.law.specs.declared.Settings.{Settings}
use Rattle.law.specs.Settings.{refusal}
use Rattle.law.specs.Law.{update_limited, commanded, command_limited}
use Rattle.estimate.specs.Marks.{bit}
use Rattle.winder.specs.Areas.{unless_refused}

-- the mark in place j: 0 is absent, anything else present
abbrev pub mark_at : List ℕ → ℕ → Bool
mark_at present j = not (eqb (get_or present j 0) 0)

-- the row of readings in a caller's areas
abbrev pub readings_of : List ℕ → List ℤ → Readings
readings_of present values =
    record {
      present = mark_at present 0 ∷ mark_at present 1 ∷ mark_at present 2 ∷ mark_at present 3 ∷ [];
      values = values;
    }

-- the area of commands after a call
abbrev pub commands_after : Settings → (state held : List ℤ) → List ℤ
commands_after s state held = unless_refused (refusal s) (commanded s state) held

-- the mark of an update after a call
abbrev pub update_mark_after : Settings → (state : List ℤ) → Readings → (held : ℕ) → ℕ
update_mark_after s state y held = unless_refused (refusal s) (bit (update_limited s state y)) held

-- the mark of a command after a call
abbrev pub command_mark_after : Settings → (state : List ℤ) → (held : ℕ) → ℕ
command_mark_after s state held = unless_refused (refusal s) (bit (command_limited s state)) held
