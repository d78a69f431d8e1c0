-- The number of a refusal is not 0, which stands for none. Assumes nothing.
use Rattle.std.specs.Prelude.{Result, Ok, Err, IsOk}
use Rattle.std.proofs.Common.{◌≡◌, arith, rules}
use Rattle.refusal.specs.declared.Refusal.{Refusal}
use Rattle.refusal.specs.declared.Refusal.TheVariants.{Group, Sizes, Coefficient, Limits, Area, LastPeriod, Mark, Frame, Sender, Place, Base, LastView, PageArea, Page, Record, Missed, Ticket, Quorums}
use Rattle.refusal.specs.Numbers.{number, number_of}

pub number-not-0 : (r : Refusal) → number r ≡ 0 → ⊥
number-not-0 Group e = omega arith
number-not-0 Sizes e = omega arith
number-not-0 Coefficient e = omega arith
number-not-0 Limits e = omega arith
number-not-0 Area e = omega arith
number-not-0 LastPeriod e = omega arith
number-not-0 Mark e = omega arith
number-not-0 Frame e = omega arith
number-not-0 Sender e = omega arith
number-not-0 Place e = omega arith
number-not-0 Base e = omega arith
number-not-0 LastView e = omega arith
number-not-0 PageArea e = omega arith
number-not-0 Page e = omega arith
number-not-0 Record e = omega arith
number-not-0 Missed e = omega arith
number-not-0 Ticket e = omega arith
number-not-0 Quorums e = omega arith

-- a call whose number is 0 gave what was called for
pub ok-at_zero : {A : Type 0} (r : Result A Refusal) → number_of r ≡ 0 → IsOk r
ok-at_zero (Ok x) e = search rules
ok-at_zero (Err refusal) e = absurd (number-not-0 refusal e)
