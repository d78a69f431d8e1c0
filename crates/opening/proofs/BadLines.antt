-- Of a bad line there is something to say: `bad-count`. Where each field that is there and needed is what it should be, the line has more fields or
-- fewer than it needs. Assumes nothing.
use mathlib.Core.Path.{◌≡◌, refl, sym, ap, ◌∙◌}
use mathlib.Core.Bool.{Bool, true, false}
use mathlib.Core.List.{List}
use Prim.Native.Nat.{ℕ, zero, suc, ◌+◌, ◌≤◌, ◌<◌, min}
use native.Mathlib.Nat.{min-eq_right}
use native.Mathlib.Omega.{arith}
use lib.Dec.{eqb, leb, ltb}
use borrow.Author.Tests.{eqb-true, eqb-false, ltb-false, eq-eqb, ne_eqb, le-leb, lt-ltb, le-ltb}
use Rattle.lists.specs.Choice.{pick}
use Rattle.lists.proofs.Below.{all_of}
use Rattle.text.specs.Numbers.{number_of, is_whole}
use Rattle.line.specs.Fields.{spaces, field}
use Rattle.std.specs.Prelude.{Option, Some, None, Result, Ok, Err}
use Rattle.std.proofs.lemmas.Option.{same_Some}
use Rattle.refusal.specs.declared.Refusal.{Refusal}
use Rattle.replica.specs.declared.Settings.{Settings}
use Rattle.opening.specs.declared.Unopened.{Unopened}
use Rattle.opening.specs.declared.Unopened.TheVariants.{Bad, Refused}
use Rattle.opening.specs.declared.wrong.Wrong.TheVariants.{Field, Quorum, Fields}
use Rattle.opening.specs.Opening.{is_rig, size_in, sizes_in, sizes_refusal, starts_of, begun, all_numbers, is_quorums, ended, numbered, opened_with, opened_unless, opened_by}
use Rattle.opening.specs.Wrong.{is_right, first_wrong, needed, wrong_quorum, wrong_end, wrong_form, wrong_by, wrong_in}
use Rattle.opening.proofs.EndingLaws.{with-quorums, without-quorums}
use Rattle.opening.proofs.WrongLaws.{wrong-here, wrong-after}

opened : {s : Settings} → ◌≡◌ {A = Result Settings Unopened} (Ok s) (Err Bad) → ⊥
opened e = cc

refused : (g : Refusal) → ◌≡◌ {A = Result Settings Unopened} (Err (Refused g)) (Err Bad) → ⊥
refused g e = cc

module _ (line : List ℕ) where
  -- each of so many fields is right, where the first that is wrong comes after them
  all_right : (k count : ℕ) → k + count ≤ first_wrong line k count → (i : ℕ) → k ≤ i → i < k + count → is_right i (field i line) ≡ true
  all_right k zero h i a b = absurd (omega arith)
  all_right k (suc count) h i a b = by (is_right k (field k line)) refl (eqb i k) refl (λ g c. all_right (suc k) count g i c (omega (arith, b)))
    where
      by : (t : Bool) → is_right k (field k line) ≡ t → (u : Bool) → eqb i k ≡ u
          → (suc k + count ≤ first_wrong line (suc k) count → suc k ≤ i → is_right i (field i line) ≡ true) → is_right i (field i line) ≡ true
      by false e u v next = absurd (omega (arith, wrong-here line k count e, h))
      by true e true v next = rw (eqb-true i k v) e
      by true e false v next = next (omega (arith, h, wrong-after line k count e)) (omega (arith, eqb-false i k v, a))

  right-begun : ((i : ℕ) → i < 5 → is_right i (field i line) ≡ true) → begun (field 0 line) (sizes_in line) ≡ true
  unfolding is_right begun sizes_in pick
  right-begun h =
      let rig : is_rig (field 0 line) ≡ true = h 0 (omega arith) in
      let boxes : leb (size_in (number_of (field 1 line))) 255 ≡ true = h 1 (omega arith) in
      let n : leb (size_in (number_of (field 2 line))) 255 ≡ true = h 2 (omega arith) in
      let m : leb (size_in (number_of (field 3 line))) 255 ≡ true = h 3 (omega arith) in
      let p : leb (size_in (number_of (field 4 line))) 255 ≡ true = h 4 (omega arith) in
      rw (rig, boxes, n, m, p)

  right-whole : (k : ℕ) (word : List ℕ) → 5 ≤ k → is_right k word ≡ true → is_whole (number_of word) ≡ true
  unfolding is_right pick
  right-whole k word l e = let z : k ≡ 0 → ⊥ = (λ q. omega (arith, q, l)) in rw (ne_eqb k 0 z, le-ltb k 5 l) at e

  right-numbered : (count : ℕ) → ended count line ≡ true → ((i : ℕ) → i < count + 5 → is_right i (field i line) ≡ true) → numbered count line ≡ true
  unfolding numbered all_numbers
  right-numbered count e h =
      let whole : (j : ℕ) → j < count → is_whole (number_of (field (j + 5) line)) ≡ true =
      λ j l. right-whole (j + 5) (field (j + 5) line) (omega arith) (h (j + 5) (omega arith)) in
      rw e (all_of (λ j. is_whole (number_of (field (j + 5) line))) count whole)

  right-quorum : (fields k : ℕ) → k < fields → wrong_quorum line fields k ≡ false → leb (size_in (number_of (field k line))) 255 ≡ true
  unfolding wrong_quorum
  right-quorum fields k l e =
      let size = size_in (number_of (field k line)) in
      let f : ltb 255 size ≡ false = rw (lt-ltb k fields l) at e in
      le-leb size 255 (ltb-false 255 size f)

  -- with as many fields as are needed, behind the numbers stands nothing, or what should stand there
  right_end : (count fields needs : ℕ) → wrong_end line (suc (spaces line)) (count + 5) ≡ Fields fields needs → fields ≡ needs → ended count line ≡ true
  unfolding wrong_end ended pick
  right_end count fields needs e same =
      let f = suc (spaces line) in
      by (is_quorums (field (count + 5) line)) refl (wrong_quorum line f (count + 5 + 1)) refl (wrong_quorum line f (count + 5 + 2)) refl e
    where
      by : (q : Bool) → is_quorums (field (count + 5) line) ≡ q
          → (a : Bool) → wrong_quorum line (suc (spaces line)) (count + 5 + 1) ≡ a
          → (b : Bool) → wrong_quorum line (suc (spaces line)) (count + 5 + 2) ≡ b
          → wrong_end line (suc (spaces line)) (count + 5) ≡ Fields fields needs → ended count line ≡ true
      by false z a y b x e =
          let d : Fields (suc (spaces line)) (count + 5) ≡ Fields fields needs = rw z at e in
          let f : suc (spaces line) ≡ fields = cc in
          let n : count + 5 ≡ needs = cc in
          rw z (eq-eqb (spaces line) (count + 4) (omega (arith, f, n, same)))
      by true z true y b x e =
          let d : Quorum (count + 5 + 2) ≡ Fields fields needs = rw (z, y) at e in
          absurd (let q : ◌≡◌ {A = ℕ} 0 1 = cc in omega arith)
      by true z false y true x e =
          let d : Quorum (count + 5 + 3) ≡ Fields fields needs = rw (z, y, x) at e in
          absurd (let q : ◌≡◌ {A = ℕ} 0 1 = cc in omega arith)
      by true z false y false x e =
          let d : Fields (suc (spaces line)) (count + 5 + 3) ≡ Fields fields needs = rw (z, y, x) at e in
          let f : suc (spaces line) ≡ fields = cc in
          let n : count + 5 + 3 ≡ needs = cc in
          let at6 : count + 5 + 1 ≡ count + 6 = omega arith in
          let at7 : count + 5 + 2 ≡ count + 7 = omega arith in
          let h : spaces line ≡ count + 7 = omega (arith, f, n, same) in
          let a = rw at6 at (right-quorum _ _ (omega (arith, h)) y) in
          let b = rw at7 at (right-quorum _ _ (omega (arith, h)) x) in
          rw (z, eq-eqb _ _ h, a, b)

  ended-enough : (count : ℕ) → ended count line ≡ true → count + 5 ≤ suc (spaces line)
  ended-enough count e = by (is_quorums (field (count + 5) line)) refl
    where
      by : (q : Bool) → is_quorums (field (count + 5) line) ≡ q → count + 5 ≤ suc (spaces line)
      by true z = omega (arith, (with-quorums count line z e).fields)
      by false z = omega (arith, without-quorums count line z e)

  -- with as many fields as are needed, each of them is right
  form-right : (count fields needs : ℕ) → wrong_form line (suc (spaces line)) (count + 5) ≡ Fields fields needs → fields ≡ needs
      → (ended count line ≡ true) × ((i : ℕ) → i < count + 5 → is_right i (field i line) ≡ true)
  unfolding wrong_form pick
  form-right count fields needs e same = by (ltb (first_wrong line 0 least) least) refl e
    where
      least : ℕ
      least = min (suc (spaces line)) (count + 5)

      by : (t : Bool) → ltb (first_wrong line 0 least) least ≡ t → wrong_form line (suc (spaces line)) (count + 5) ≡ Fields fields needs
          → (ended count line ≡ true) × ((i : ℕ) → i < count + 5 → is_right i (field i line) ≡ true)
      by true z e =
          let d : Field (suc (first_wrong line 0 least)) ≡ Fields fields needs = rw z at e in
          absurd (let q : ◌≡◌ {A = ℕ} 0 1 = cc in omega arith)
      by false z e =
          let d : wrong_end line (suc (spaces line)) (count + 5) ≡ Fields fields needs = rw z at e in
          let end = right_end count fields needs d same in
          let m : least ≡ count + 5 = min-eq_right (ended-enough count end) in
          let r : count + 5 ≤ first_wrong line 0 (count + 5) = rw m at (ltb-false (first_wrong line 0 least) least z) in
          (end, λ i l. all_right 0 (count + 5) (omega (arith, r)) i (omega arith) (omega (arith, l)))

  -- of a bad line with nothing wrong but the number of its fields, that number is not the one needed
  pub bad-count : (fields needs : ℕ) → opened_by line (sizes_in line) ≡ Err Bad → wrong_in line ≡ Some (Fields fields needs) → fields ≡ needs → ⊥
  unfolding wrong_in wrong_by opened_by opened_unless opened_with needed pick
  bad-count fields needs bad wrong same =
      let form : wrong_form line (suc (spaces line)) (needed (sizes_in line)) ≡ Fields fields needs =
      same_Some _ _ (ap (wrong_by line) (sym bad) ∙ wrong) in
      by (sizes_refusal (sizes_in line)) refl form bad
    where
      by : (r : Option Refusal) → sizes_refusal (sizes_in line) ≡ r → wrong_form line (suc (spaces line)) (needed (sizes_in line)) ≡ Fields fields needs
          → opened_by line (sizes_in line) ≡ Err Bad → ⊥
      by None z form bad =
          let count = (starts_of (sizes_in line).n (sizes_in line).m (sizes_in line).p).count in
          let r = form-right count fields needs (rw z at form) same in
          let b = right-begun (λ i l. r.1 i (omega (arith, l))) in
          let f = right-numbered count r.0 r.1 in
          opened (rw (b, z, f) at bad)
      by (Some g) z form bad =
          let r = form-right 0 fields needs (rw z at form) same in
          let b = right-begun r.1 in
          refused g (rw (b, z) at bad)
