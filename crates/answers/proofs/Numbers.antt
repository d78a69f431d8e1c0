-- Laws of answers: an answer of a call's list is one of the documents', and what the first refusal of a place answers is in a list that has the
-- numbers of its rows. Assumes nothing.
use Rattle.std.specs.Prelude.{◌≡◌, refl, ◌⊎◌, ◌≢◌, Bool, true, false, not, ◌&&◌, ◌||◌, List, [], ◌∷◌, ℕ, zero, suc, ◌-◌, T, eqb, leb, Result, Ok, Err, IsErr}
use Rattle.std.proofs.Common.{sym, ap, subst, ◌∙◌, inl, inr, arith, eqb→eq, leb→le, eqb-true, ne_eqb, rules}
use Rattle.lists.specs.Choice.{pick}
use Rattle.lists.specs.Refusals.{Refusal as Row, first_of}
use Rattle.lists.proofs.Booleans.{and_left, and_right, or_cases, is_false}
use Rattle.lists.proofs.Choice.{pick-ok, pick-holds, pick-false}
use Rattle.refusal.specs.declared.Refusal.{Refusal}
use Rattle.refusal.specs.Numbers.{number_of as refusal_number}
use Rattle.scram.specs.Answers.{Answered, Done, Ignored, Refused, answered_of}
use Rattle.scram.specs.History.{In}
use Rattle.records.specs.Reading.{is_done}
use Rattle.winder.specs.Answers.{number_of}
use Rattle.answers.specs.Answers.{Answers, Listed, numbered, numbered_step}

-- ---- every answer of a list is one of the documents'

abbrev pub all_listed : List Answered → Bool
all_listed [] = true
all_listed (Done ∷ l) = all_listed l
all_listed (Ignored ∷ l) = all_listed l
all_listed (Refused number ∷ l) = leb 1 number && (leb number 18 && all_listed l)

pub listed : (possible : List Answered) → T (all_listed possible) → (a : Answered) → In a possible → Listed a
listed [] t a i = absurd i
listed (Done ∷ l) t a (inl e) = subst Listed (sym e) tt
listed (Done ∷ l) t a (inr i) = listed l t a i
listed (Ignored ∷ l) t a (inl e) = subst Listed (sym e) tt
listed (Ignored ∷ l) t a (inr i) = listed l t a i
listed (Refused number ∷ l) t a (inl e) =
    subst Listed (sym e)
    (leb→le 1 number (and_left (leb 1 number) _ t), leb→le number 18 (and_left (leb number 18) (all_listed l) (and_right (leb 1 number) _ t)))
listed (Refused number ∷ l) t a (inr i) = listed l (and_right (leb number 18) (all_listed l) (and_right (leb 1 number) _ t)) a i

-- ---- a number that a list has

abbrev pub has_number : List Answered → ℕ → Bool
has_number [] number = false
has_number (Done ∷ l) number = has_number l number
has_number (Ignored ∷ l) number = has_number l number
has_number (Refused k ∷ l) number = eqb number k || has_number l number

pub refused-in : (possible : List Answered) (number : ℕ) → T (has_number possible number) → In (Refused number) possible
refused-in [] number t = absurd t
refused-in (Done ∷ l) number t = inr (refused-in l number t)
refused-in (Ignored ∷ l) number t = inr (refused-in l number t)
refused-in (Refused k ∷ l) number t = by (refused-in l number) (or_cases (eqb number k) (has_number l number) t)
  where
    by : (T (has_number l number) → In (Refused number) l) → T (eqb number k) ⊎ T (has_number l number) → In (Refused number) (Refused k ∷ l)
    by f (inl e) = inl (ap Refused (eqb→eq number k e))
    by f (inr i) = inr (f i)

-- ---- the first refusal of a place

-- whether a list has the number of each row
abbrev pub has_numbers : List Answered → List Row → Bool
has_numbers possible [] = true
has_numbers possible (r ∷ rs) = has_number possible r.number && has_numbers possible rs

module _ (possible : List Answered) (done : In Done possible) where
  pub numbered-in : (number : ℕ) → T (has_number possible number) → In (numbered number) possible
  numbered-in number t = pick-ok (λ a. In a possible) (eqb number 0) Done (Refused number) (λ _. done) (λ _. refused-in possible number t)

  pub first-in : (rs : List Row) → T (has_numbers possible rs) → In (numbered (first_of rs)) possible
  unfolding first_of pick
  first-in [] t = done
  first-in (r ∷ rs) t =
      pick-ok (λ number. In (numbered number) possible) r.holds r.number (first_of rs)
      (λ _. numbered-in r.number (and_left (has_number possible r.number) (has_numbers possible rs) t))
      (λ _. first-in rs (and_right (has_number possible r.number) (has_numbers possible rs) t))

-- a number that is not 0 answers by its refusal
pub refusal-in : (possible : List Answered) (number : ℕ) → T (not (eqb number 0)) → In (numbered number) possible → In (Refused number) possible
refusal-in possible number t i =
    subst (λ a. In a possible) (pick-false (eqb number 0) Done (Refused number) (is_false (eqb number 0) t)) i

-- ---- the claim about one call

-- an answer other than "what was called for" is not done
pub not_done : (a : Answered) → a ≢ Done → is_done a ≡ false
not_done Done n = absurd (n refl)
not_done Ignored n = refl
not_done (Refused number) n = refl

-- `answer` is what the call answers, and `given` is its definition
pub answers-as : (possible : List Answered) → T (all_listed possible) → (answer given : Answered) → answer ≡ given → In given possible
    → (Kept : Type 0) → (given ≢ Done → Kept) → Answers possible answer Kept
answers-as possible t answer given e i Kept kept =
    let j = subst (λ a. In a possible) (sym e) i in
    record { listed = listed possible t answer j; among = j; kept = λ n. kept (λ d. n (e ∙ d)) }

-- ---- the claim about one call that answers by a number

-- an answer other than "what was called for" is a number other than 0
pub not-zero : (number : ℕ) → numbered number ≢ Done → number ≡ 0 → ⊥
unfolding pick
not-zero number n e = n (ap numbered e)

-- a number that is not 0, as the laws of what a refused call gives want it
pub positive : (number : ℕ) → (number ≡ 0 → ⊥) → number ≡ suc (number - 1)
positive zero z = absurd (z refl)
positive (suc k) z = omega arith

-- `number` is what the call answers, and `refused` is its definition
pub answers : (possible : List Answered) → T (all_listed possible) → (number refused : ℕ) → number ≡ refused → In (numbered refused) possible
    → (Kept : Type 0) → ((refused ≡ 0 → ⊥) → Kept) → Answers possible (numbered number) Kept
answers possible t number refused e i Kept kept =
    answers-as possible t (numbered number) (numbered refused) (ap numbered e) i Kept (λ n. kept (not-zero refused n))

-- ---- the claim about one call that gives nothing where it is refused

-- what has the number of a refusal gives nothing
pub none_numbered : {A : Type 0} (r : Result A Refusal) (number : ℕ) → refusal_number r ≡ number → (number ≡ 0 → ⊥) → IsErr r
none_numbered (Ok x) number e z = absurd (z (sym e))
none_numbered (Err refusal) number e z = search rules

-- what answers otherwise than by "what was called for" gives nothing
pub none_given : {A : Type 0} (r : Result A Refusal) (given : Answered) → answered_of r ≡ given → given ≢ Done → IsErr r
none_given (Ok x) given e n = absurd (n (sym e))
none_given (Err refusal) given e n = search rules

-- ---- winder's numbers of answers

-- the number of an answer by a number is that number
pub number-of : (number : ℕ) → number_of (numbered number) ≡ number
number-of number =
    pick-holds (λ a. number_of a ≡ number) (eqb number 0) Done (Refused number) (λ e. sym (eqb-true number 0 e)) (λ _. refl)

-- the number of a step for C tells its answer
pub step-number : (a : Answered) → Listed a → numbered_step (number_of a) ≡ a
unfolding pick
step-number Done l = refl
step-number Ignored l = refl
step-number (Refused number) l =
    pick-false (eqb number 256) Ignored (numbered number) (ne_eqb number 256 (λ e. omega (arith, l.1, e)))
    ∙ pick-false (eqb number 0) Done (Refused number) (ne_eqb number 0 (λ e. omega (arith, l.0, e)))
