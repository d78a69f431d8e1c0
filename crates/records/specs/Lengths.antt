-- How long a record and its two parts are, whatever the settings: docs/RECORD.md has the offsets.
use Rattle.std.specs.Prelude.{ℕ, ◌+◌}

-- the settings' part comes first
abbrev pub settings_length : ℕ
settings_length = 496

-- the part of what is held
abbrev pub held_length : ℕ
held_length = 120

-- "a record of fixed layout"
abbrev pub record_length : ℕ
record_length = settings_length + held_length
