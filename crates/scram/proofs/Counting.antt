-- Laws of `count` and `coordinator`: what the code counts and gives. Assumes nothing.
use Rattle.std.proofs.Common.{ℕ, zero, suc, ◌+◌, ◌%◌, ◌<◌, ◌≤◌, ◌≡◌, ◌≢◌, inl, inr, Bool, true, false, List, [], ◌∷◌, length, get_or, take, drop, refl, sym, ap, ◌∙◌, arith, eq-eqb, ne_eqb, add-one}
use Rattle.std.specs.List.{count_by}
use Rattle.std.proofs.lemmas.Bool.{cases_lt}
use Rattle.std.proofs.lemmas.List.{get_or_past, take_all}
use Rattle.std.proofs.lemmas.List.Sums.{count_by_more_yes, count_by_more_no}
use Rattle.lists.specs.Choice.{pick}
use Rattle.lists.proofs.Choice.{pick_true, pick-false}
use Rattle.scram.specs.Quorum.{among, count, coordinator}

-- ---- the coordinator

module _ (n view : ℕ) where
  pub coordinator_of_none : n ≡ 0 → coordinator n view ≡ 0
  unfolding coordinator
  coordinator_of_none e = pick_true _ _ _ (eq-eqb n 0 e)

  pub coordinator_of_some : n ≢ 0 → coordinator n view ≡ view % n + 1
  unfolding coordinator
  coordinator_of_some h = pick-false _ _ _ (ne_eqb n 0 h)

-- for the function of that name
pub ruleset by_size = (coordinator_of_none, coordinator_of_some)

-- ---- the boxes heard

module _ (bs : List Bool) (n : ℕ) where
  abbrev Counts : Bool → Type 0
  Counts b = count_by (λ b. b) (take (n + 1) bs) ≡ pick b 1 0 + count_by (λ b. b) (take n bs)

  inside : n < length bs → (b : Bool) → get_or bs n false ≡ b → Counts b
  unfolding pick
  inside h true e = omega (arith, count_by_more_yes (λ b. b) bs n false h e)
  inside h false e = omega (arith, count_by_more_no (λ b. b) bs n false h e)

  outside : length bs ≤ n → Counts (get_or bs n false)
  unfolding pick
  outside h = rw (get_or_past bs n false h, take_all (n + 1) bs (omega arith), take_all n bs h) (omega arith)

  -- one more
  with_one : Counts (get_or bs n false)
  with_one = elim (cases_lt n (length bs)) [ inl h ↦ inside h (get_or bs n false) refl | inr h ↦ outside h ]

-- a box without a place was not heard
from_first : (b : Bool) (bs : List Bool) (n : ℕ) → count_by (λ b. b) (take n bs) ≡ count (among (b ∷ bs)) n
unfolding count
from_first b bs zero = refl
from_first b bs (suc n) =
    ap (λ m. count_by (λ b. b) (take m bs)) (sym (add-one n)) ∙ with_one bs n ∙ ap (λ m. pick (get_or bs n false) 1 0 + m) (from_first b bs n)

pub heard_counted : (heard : List Bool) (n : ℕ) → length heard ≡ 10 → count_by (λ b. b) (take n (drop 1 heard)) ≡ count (among heard) n
heard_counted [] n h = absurd (omega arith)
heard_counted (b ∷ bs) n h = from_first b bs n
