-- What the type of what is held tells. Assumes nothing.
use mathlib.Core.Path.{◌≡◌}
use mathlib.Core.List.{List}
use lib.ListN.{length}
use mir.Val.{Val}
use denote.Shadow.{shadow}
use borrow.Author.Rules.{rules}
use Rattle.replica.specs.declared.Held.{Held}
use Rattle.replica.specs.contracts.Held.{the_type, the_field}

-- each box has a place among those heard
pub ten : (h : Held) (vs : List Val) → shadow (the_field.row.own_val (the_type.to h) vs) → length h.heard ≡ 10
ten h vs g = search rules
