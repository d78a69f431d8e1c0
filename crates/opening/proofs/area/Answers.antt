-- `opening::area` meets its contract. Assumes nothing.
use mathlib.Core.Path.{refl}
use native.Mathlib.Omega.{arith}
use Rattle.opening.proofs.OpeningLaws.{small}
use Rattle.opening.proofs.area.Goals as goal

pub overflow_mul-result : goal.overflow_mul-result
overflow_mul-result c = omega (arith, small _ _ c.requires.0 c.requires.1)

pub returns : goal.returns
returns c = (refl, small _ _ c.requires.0 c.requires.1)
