-- `frame::kinds::kind_ok` meets its contract: the numbers from 1 to 4 are those of the table. Assumes nothing.
use Rattle.std.proofs.Common.{ℕ, zero, suc, ◌≡◌, ◌≤◌, ◌<◌, true, false, refl, arith}
use borrow.Author.Tests.{ne_eqb}
use Rattle.frame.specs.Kinds.{any_of, kind_ok}
use Rattle.frame.proofs.kinds.kind_ok.Goals as goal

from-one : (k : ℕ) → 1 ≤ k → k ≤ 4 → true ≡ kind_ok k
unfolding any_of kind_ok
from-one zero h l = absurd (omega arith)
from-one (suc zero) h l = refl
from-one (suc (suc zero)) h l = refl
from-one (suc (suc (suc zero))) h l = refl
from-one (suc (suc (suc (suc zero)))) h l = refl
from-one (suc (suc (suc (suc (suc k))))) h l = absurd (omega arith)

none-above : (k : ℕ) → 4 < k → false ≡ kind_ok k
unfolding any_of kind_ok
none-above k h = rw (ne_eqb k 1 (λ e. omega arith), ne_eqb k 2 (λ e. omega arith), ne_eqb k 3 (λ e. omega arith), ne_eqb k 4 (λ e. omega arith))

pub returns-in-1 : goal.returns-in-1
returns-in-1 c = from-one c.args.kind (omega arith) (omega arith)

pub returns-in_default : goal.returns-in_default
unfolding any_of kind_ok
returns-in_default c = let e : c.args.kind ≡ 0 = omega arith in rw e

pub returns-in_default-2 : goal.returns-in_default-2
returns-in_default-2 c = none-above c.args.kind (omega arith)
