-- Results as the numbers and the answers that they stand for. Assumes nothing.
use Rattle.std.specs.Prelude.{Result, Ok, Err, is_ok}
use Rattle.std.proofs.Common.{◌≡◌, refl, rules, true}
use Rattle.refusal.specs.declared.Refusal.{Refusal}
use Rattle.refusal.specs.Numbers.{number_of}
use Rattle.scram.specs.Answers.{answered_of}
use Rattle.records.specs.Reading.{is_done}

-- a call that gave what was called for has the number 0
pub ok-number : {A : Type 0} (r : Result A Refusal) → is_ok r ≡ true → number_of r ≡ 0
ok-number (Ok x) e = refl
ok-number (Err refusal) e = absurd (search rules)

-- a call that answers "done" gave what was called for, and no other did
pub done-ok : {A : Type 0} (r : Result A Refusal) → is_done (answered_of r) ≡ is_ok r
done-ok (Ok x) = refl
done-ok (Err refusal) = refl
