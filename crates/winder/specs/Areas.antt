-- What a refused call leaves.
use Rattle.std.specs.Prelude.{ℕ, eqb}
use Rattle.lists.specs.Choice.{pick}

-- "A refusal returns its number, no frame and no command": an area after a call has what the call gives where the number is 0, and else what it held
unfoldable pub unless_refused : {A : Type 0} → ℕ → (given held : A) → A
unless_refused number given held = pick (eqb number 0) given held
