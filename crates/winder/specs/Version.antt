-- The version of the calls that include/winder.h declares.
use Rattle.std.specs.Prelude.{ℕ, ◌+◌, ◌*◌}

-- a call that is gone or means something else makes a new major version
abbrev pub major : ℕ
major = 3

-- a further call makes a new minor version
abbrev pub minor : ℕ
minor = 0

-- both as one number
abbrev pub version : ℕ
version = 100 * major + minor
