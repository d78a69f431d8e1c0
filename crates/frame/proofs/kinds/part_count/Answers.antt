-- `frame::kinds::part_count` meets its contract: 1, 3 and 4 have two parts, and no other number has any. Assumes nothing.
use Rattle.std.proofs.Common.{ℕ, zero, suc, ◌≡◌, ◌≤◌, refl, sym, ap, arith}
use borrow.Author.Tests.{ne_eqb}
use Rattle.lists.specs.Choice.{pick}
use Rattle.frame.specs.Kinds.{parts_of, part_count}
use Rattle.frame.proofs.kinds.part_count.Goals as goal

from-three : (k : ℕ) → 3 ≤ k → k ≤ 4 → 2 ≡ part_count k
unfolding parts_of part_count pick
from-three zero h l = absurd (omega arith)
from-three (suc zero) h l = absurd (omega arith)
from-three (suc (suc zero)) h l = absurd (omega arith)
from-three (suc (suc (suc zero))) h l = refl
from-three (suc (suc (suc (suc zero)))) h l = refl
from-three (suc (suc (suc (suc (suc k))))) h l = absurd (omega arith)

none : (k : ℕ) → (k ≡ 1 → ⊥) → (k ≡ 3 → ⊥) → (k ≡ 4 → ⊥) → 0 ≡ part_count k
unfolding parts_of part_count pick
none zero a b c = refl
none (suc zero) a b c = absurd (a refl)
none (suc (suc zero)) a b c = refl
none (suc (suc (suc k))) a b c =
    let j : ℕ = suc (suc (suc k)) in
    rw (ne_eqb j 1 a, ne_eqb j 2 (λ e. omega arith), ne_eqb j 3 b, ne_eqb j 4 c)

pub returns-in_default : goal.returns-in_default
returns-in_default c = none c.args.kind (λ e. omega arith) (λ e. omega arith) (λ e. omega arith)

pub returns-in_default-2 : goal.returns-in_default-2
returns-in_default-2 c = none c.args.kind (λ e. omega arith) (λ e. omega arith) (λ e. omega arith)

pub returns-in-1 : goal.returns-in-1
unfolding parts_of part_count pick
returns-in-1 c = sym (ap part_count c.in-1.is)

pub returns-in-1-2 : goal.returns-in-1-2
returns-in-1-2 c = from-three c.args.kind (omega arith) (omega arith)
