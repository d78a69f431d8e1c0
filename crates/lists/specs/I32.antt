-- Lists of i32 values. A list of the logic has no width of its own.
use Rattle.std.specs.Prelude.{ℕ, List, ℤ}
use Rattle.std.specs.Int.{w32}
use Rattle.std.proofs.Common.{SFits}
use Rattle.lists.specs.Places.{entry}

-- every value is an i32: from −2147483648 to 2147483647
abbrev pub AllI32 : List ℤ → Type 0
AllI32 values = (i : ℕ) → SFits w32 (entry values i)
