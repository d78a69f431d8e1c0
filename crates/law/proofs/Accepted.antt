-- What is known of settings that are not refused: the ranges of n, m and p, and of the coefficients. Assumes nothing.
use Rattle.std.proofs.Common.{◌≡◌, true, ◌&&◌, ℕ, ◌≤◌, arith, leb}
use Rattle.std.proofs.lemmas.Bool.{leb-true, not-false}
use Rattle.lists.proofs.Booleans.{both}
use Rattle.lists.proofs.Refusals.{passed}
use Rattle.law.specs.declared.Settings.{Settings}
use Rattle.law.specs.Settings.{A, L, C, K, one_to, sizes_in_range, table_in_range, coefficients_in_range, refusals, refusal}

pub record Sizes (n m p : ℕ) : Type 0 where
  pub n1 : 1 ≤ n
  pub n6 : n ≤ 6
  pub m1 : 1 ≤ m
  pub m4 : m ≤ 4
  pub p1 : 1 ≤ p
  pub p4 : p ≤ 4

pub sizes : (n m p : ℕ) → sizes_in_range n m p ≡ true → Sizes n m p
unfolding sizes_in_range
sizes n m p h =
    let nmp = both (one_to 6 n && one_to 4 m) (one_to 4 p) h in
    let nm = both (one_to 6 n) (one_to 4 m) nmp.0 in
    let hn = both (leb 1 n) (leb n 6) nm.0 in
    let hm = both (leb 1 m) (leb m 4) nm.1 in
    let hp = both (leb 1 p) (leb p 4) nmp.1 in
    record {
      n1 = leb-true 1 n hn.0;
      n6 = leb-true n 6 hn.1;
      m1 = leb-true 1 m hm.0;
      m4 = leb-true m 4 hm.1;
      p1 = leb-true 1 p hp.0;
      p4 = leb-true p 4 hp.1;
    }

pub record Accepted (s : Settings) : Type 0 where
  pub sizes : Sizes s.n s.m s.p
  pub a : table_in_range (A s) s.n s.n ≡ true
  pub l : table_in_range (L s) s.n s.m ≡ true
  pub c : table_in_range (C s) s.m s.n ≡ true
  pub k : table_in_range (K s) s.p s.n ≡ true

pub accepted : (s : Settings) → refusal s ≡ 0 → Accepted s
unfolding refusal refusals coefficients_in_range
accepted s h =
    let ta = table_in_range (A s) s.n s.n in
    let tl = table_in_range (L s) s.n s.m in
    let tc = table_in_range (C s) s.m s.n in
    let tk = table_in_range (K s) s.p s.n in
    let by2 = passed 2 _ _ (omega arith) h in
    let by3 = passed 3 _ _ (omega arith) by2.1 in
    let alck = both (ta && tl && tc) tk (not-false _ by3.0) in
    let alc = both (ta && tl) tc alck.0 in
    let al = both ta tl alc.0 in
    record {
      sizes = sizes s.n s.m s.p (not-false _ by2.0);
      a = al.0;
      l = al.1;
      c = alc.1;
      k = alck.1;
    }
