-- What settings that are not refused tell: the group's numbers, the law's sizes, and what the rules rely on. Assumes nothing.
use Rattle.std.proofs.Common.{◌≡◌, refl, sym, ◌∙◌, Bool, true, false, not, ◌||◌, List, [], ◌∷◌, ℕ, ◌+◌, ◌≤◌, ◌<◌, arith, T, eqb, ltb, nltb→le, le-leb, eqb-true}
use Rattle.std.proofs.lemmas.Bool.{eqb-false}
use Rattle.lists.specs.Refusals.{Refusal, refusal as row, first_of}
use Rattle.lists.proofs.Booleans.{nor-left, nor-right}
use Rattle.lists.proofs.Refusals.{first_holds, first-fails, none-holds}
use Rattle.scram.specs.Events.{bad_sender}
use Rattle.law.specs.declared.Settings as Law
use Rattle.law.specs.Settings.{refusal}
use Rattle.law.proofs.Laws.{sizes-accepted}
use Rattle.law.proofs.Lent.{refusals-made, refusals-passed}
use Rattle.frame.specs.Sizes.{sizes_ok, commands_ok}
use Rattle.quorums.specs.Quorums.{bad_quorums}
use Rattle.quorums.proofs.Stand.{stand}
use Rattle.replica.specs.declared.Settings.{Settings}
use Rattle.replica.specs.Settings.{bad_group, settings_refusal, member_of, Fit}

-- "Group size N, 3 to 9; boxes are numbered 1 to N"
pub record Grouped (N own : ℕ) : Type 0 where
  pub N3 : 3 ≤ N
  pub N9 : N ≤ 9
  pub own1 : 1 ≤ own
  pub own_n : own ≤ N

pub grouped : (N own : ℕ) → T (not (bad_group N own)) → Grouped N own
unfolding bad_group
grouped N own t =
    let a = nor-left (ltb N 3 || ltb 9 N || ltb own 1) (ltb N own) t in
    let b = nor-left (ltb N 3 || ltb 9 N) (ltb own 1) a in record {
      N3 = nltb→le N 3 (nor-left (ltb N 3) (ltb 9 N) b);
      N9 = nltb→le 9 N (nor-right (ltb N 3) (ltb 9 N) b);
      own1 = nltb→le own 1 (nor-right (ltb N 3 || ltb 9 N) (ltb own 1) a);
      own_n = nltb→le N own (nor-right (ltb N 3 || ltb 9 N || ltb own 1) (ltb N own) t);
    }

-- the refusals of settings, one after the other
module _ (s : Settings) where
  -- 18 alone
  abbrev eighteen : List Refusal
  eighteen = row 18 (bad_quorums s.boxes s.quorums) ∷ []

  pub group-refused : bad_group s.boxes s.own ≡ true → 1 ≡ settings_refusal s
  unfolding settings_refusal
  group-refused e = sym (first_holds 1 _ _ e)

  pub law-refused : bad_group s.boxes s.own ≡ false → (refusal s.law ≡ 0 → ⊥) → refusal s.law ≡ settings_refusal s
  unfolding settings_refusal
  law-refused e n = sym (first-fails 1 _ _ e ∙ refusals-made s.law eighteen n)

  only-quorums : bad_group s.boxes s.own ≡ false → refusal s.law ≡ 0 → settings_refusal s ≡ first_of eighteen
  unfolding settings_refusal
  only-quorums e z = first-fails 1 _ _ e ∙ refusals-passed s.law eighteen z

  pub quorums-refused : bad_group s.boxes s.own ≡ false → refusal s.law ≡ 0 → bad_quorums s.boxes s.quorums ≡ true → 18 ≡ settings_refusal s
  quorums-refused e z t = sym (only-quorums e z ∙ first_holds 18 _ _ t)

  pub not-refused : bad_group s.boxes s.own ≡ false → refusal s.law ≡ 0 → bad_quorums s.boxes s.quorums ≡ false → 0 ≡ settings_refusal s
  not-refused e z t = sym (only-quorums e z ∙ first-fails 18 _ _ t ∙ none-holds)

-- none of them is made
pub record Accepted (s : Settings) : Type 0 where
  pub group : Grouped s.boxes s.own
  pub law : refusal s.law ≡ 0
  pub quorums : bad_quorums s.boxes s.quorums ≡ false

pub accepted : (s : Settings) → settings_refusal s ≡ 0 → Accepted s
accepted s e = by (bad_group s.boxes s.own) (eqb (refusal s.law) 0) (bad_quorums s.boxes s.quorums) refl refl refl
  where
    by : (b c d : Bool) → bad_group s.boxes s.own ≡ b → eqb (refusal s.law) 0 ≡ c → bad_quorums s.boxes s.quorums ≡ d → Accepted s
    by true c d p q t = let z = group-refused s p ∙ e in absurd (omega arith)
    by false false d p q t = let n = eqb-false (refusal s.law) 0 q in absurd (n (law-refused s p n ∙ e))
    by false true true p q t = let z = quorums-refused s p (eqb-true _ _ q) t ∙ e in absurd (omega arith)
    by false true false p q t = record { group = grouped s.boxes s.own (rw p tt); law = eqb-true _ _ q; quorums = t }

-- the sizes that the law accepts are those of frames and commands
module _ (s : Law.Settings) (e : refusal s ≡ 0) where
  pub frame-sizes : sizes_ok s.n s.m ≡ true
  unfolding sizes_ok
  frame-sizes =
      let z = sizes-accepted s e in
      rw (le-leb 1 s.n z.n1, le-leb s.n 6 z.n6, le-leb 1 s.m z.m1, le-leb s.m 4 z.m4)

  pub command-sizes : commands_ok s.p ≡ true
  unfolding commands_ok
  command-sizes = let z = sizes-accepted s e in rw (le-leb 1 s.p z.p1, le-leb s.p 4 z.p4)

pub fit : (s : Settings) → settings_refusal s ≡ 0 → Fit (member_of s)
fit s e =
    let a = accepted s e in
    record { boxes = a.group.N9; own = omega (arith, a.group.own_n, a.group.N9); sizes = frame-sizes s.law a.law }

-- "a + b .. above N": any a boxes and any b boxes share one, which demand 3 rests on
pub overlap : (s : Settings) → settings_refusal s ≡ 0 → s.boxes < s.quorums.to_decide + s.quorums.to_propose
overlap s e = (stand s.boxes s.quorums (accepted s e).quorums).overlap

-- a sender that is not refused by 9 has a place among the boxes heard
pub sender-place : (N own sender : ℕ) → N ≤ 9 → bad_sender N own sender ≡ false → sender < 10
unfolding bad_sender
sender-place N own sender few e =
    let t : T (not (ltb sender 1 || ltb N sender || eqb sender own)) = rw e tt in
    let low = nltb→le N sender (nor-right (ltb sender 1) (ltb N sender) (nor-left (ltb sender 1 || ltb N sender) (eqb sender own) t)) in
    omega arith
