-- Laws of what a first line has behind its numbers. Assumes nothing.
use mathlib.Core.Path.{◌≡◌}
use mathlib.Core.Bool.{true, false}
use mathlib.Core.List.{List}
use Prim.Native.Nat.{ℕ, ◌+◌}
use lib.Dec.{eqb, leb}
use borrow.Author.Tests.{eqb-true}
use Rattle.lists.specs.Choice.{pick}
use Rattle.lists.proofs.Booleans.{both}
use Rattle.line.specs.Fields.{spaces, field}
use Rattle.opening.specs.Opening.{all_numbers, is_quorums, quorums_at, ended, numbered}

module _ (count : ℕ) (line : List ℕ) where
  -- three fields behind the numbers, the last two of them numbers from 0 to 255
  pub record WithQuorums : Type 0 where
    pub fields : spaces line ≡ count + 7
    pub decide : leb (quorums_at count line).to_decide 255 ≡ true
    pub propose : leb (quorums_at count line).to_propose 255 ≡ true

  pub with-quorums : is_quorums (field (count + 5) line) ≡ true → ended count line ≡ true → WithQuorums
  unfolding ended pick
  with-quorums q e =
      let f = rw q at e in
      let p = both (eqb (spaces line) (count + 7)) _ f in
      let r = both (leb (quorums_at count line).to_decide 255) _ p.1 in
      record { fields = eqb-true _ _ p.0; decide = r.0; propose = r.1 }

  -- nothing behind the numbers
  pub without-quorums : is_quorums (field (count + 5) line) ≡ false → ended count line ≡ true → spaces line ≡ count + 4
  unfolding ended pick
  without-quorums q e = eqb-true _ _ (rw q at e)

  pub numbered-ended : numbered count line ≡ true → ended count line ≡ true
  unfolding numbered
  numbered-ended e = (both (ended count line) (all_numbers count line) e).0
