-- Laws of what is wrong with a first line. Assumes nothing.
use mathlib.Core.Path.{◌≡◌, refl, sym, ap, ◌∙◌}
use mathlib.Core.Bool.{Bool, true, false}
use mathlib.Core.List.{List}
use Prim.Native.Nat.{ℕ, suc}
use native.Mathlib.Omega.{arith}
use lib.Dec.{eqb}
use borrow.Author.Tests.{eqb-true}
use Rattle.lists.specs.Choice.{pick}
use Rattle.refusal.specs.declared.Refusal.{Refusal}
use Rattle.refusal.specs.declared.Refusal.TheVariants as Ground
use Rattle.refusal.specs.Numbers.{number}
use Rattle.scram.specs.Answers.{Done, Refused, answered_of}
use Rattle.replica.specs.declared.Settings.{Settings}
use Rattle.replica.specs.declared.Replica.{Replica}
use Rattle.replica.specs.Settings.{settings_refusal}
use Rattle.replica.specs.Calls.{made_answer}
use Rattle.line.specs.Fields.{field}
use Rattle.std.specs.Prelude.{Option, Some, None, option_map, MatchOption, IsSomeAnd, Result, Ok, Err}
use Rattle.std.specs.Result.{result_err}
use Rattle.opening.specs.declared.wrong.Wrong.TheVariants as Wrong
use Rattle.opening.specs.Wrong.{is_right, first_wrong, refusal_of}

-- ---- the first field that is wrong

pub wrong-here : (line : List ℕ) (k count : ℕ) → is_right k (field k line) ≡ false → first_wrong line k (suc count) ≡ k
unfolding first_wrong pick
wrong-here line k count e = rw e

pub wrong-after : (line : List ℕ) (k count : ℕ) → is_right k (field k line) ≡ true → first_wrong line k (suc count) ≡ first_wrong line (suc k) count
unfolding first_wrong pick
wrong-after line k count e = rw e

pub wrong-none : (line : List ℕ) (k : ℕ) → first_wrong line k 0 ≡ k
unfolding first_wrong
wrong-none line k = refl

-- ---- settings, by what making answers

pub refusal-of-number : (refusal : Refusal) → refusal_of (number refusal) ≡ Some refusal
unfolding refusal_of
refusal-of-number Ground.Group = refl
refusal-of-number Ground.Sizes = refl
refusal-of-number Ground.Coefficient = refl
refusal-of-number Ground.Limits = refl
refusal-of-number Ground.Area = refl
refusal-of-number Ground.LastPeriod = refl
refusal-of-number Ground.Mark = refl
refusal-of-number Ground.Frame = refl
refusal-of-number Ground.Sender = refl
refusal-of-number Ground.Place = refl
refusal-of-number Ground.Base = refl
refusal-of-number Ground.LastView = refl
refusal-of-number Ground.PageArea = refl
refusal-of-number Ground.Page = refl
refusal-of-number Ground.Record = refl
refusal-of-number Ground.Missed = refl
refusal-of-number Ground.Ticket = refl
refusal-of-number Ground.Quorums = refl

-- a refusal, if there is one, as what is wrong
pub mapped : (refusal : Option Refusal) (wrong : Option Wrong.the_data) →
    MatchOption refusal (wrong ≡ None) (λ r. IsSomeAnd wrong (λ w. w ≡ Wrong.Refused r)) → wrong ≡ option_map Wrong.Refused refusal
mapped None wrong e = e
mapped (Some r) (Some w) e = ap Some e
mapped (Some r) None e = absurd e

module _ (s : Settings) where
  -- what making is refused by
  pub refused-by : (made : Result Replica Refusal) → answered_of made ≡ made_answer s → result_err made ≡ refusal_of (settings_refusal s)
  unfolding refusal_of pick
  refused-by made e = by made (eqb (settings_refusal s) 0) refl e
    where
      by : (made : Result Replica Refusal) (t : Bool) → eqb (settings_refusal s) 0 ≡ t → answered_of made ≡ made_answer s →
          result_err made ≡ refusal_of (settings_refusal s)
      by (Ok r) true z e = rw (eqb-true _ _ z)
      by (Ok r) false z e = absurd (let d : Done ≡ Refused (settings_refusal s) = rw z at e in let n : ◌≡◌ {A = ℕ} 0 1 = cc in omega arith)
      by (Err refusal) true z e = absurd (let d : Refused (number refusal) ≡ Done = rw z at e in let n : ◌≡◌ {A = ℕ} 0 1 = cc in omega arith)
      by (Err refusal) false z e =
          let d : Refused (number refusal) ≡ Refused (settings_refusal s) = rw z at e in
          let k : number refusal ≡ settings_refusal s = cc in
          sym (refusal-of-number refusal) ∙ ap refusal_of k
