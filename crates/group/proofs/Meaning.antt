-- What the history calls a result is what a call leaves; and its fresh replica is the one that making gives. Assumes nothing.
use mathlib.Core.Path.{◌≡◌, sym, ap, ◌∙◌}
use mathlib.Core.Bool.{false}
use mathlib.Core.List.{List}
use Prim.Native.Nat.{ℕ, ◌≤◌}
use lib.ListN.{length, take}
use borrow.Author.Tests.{le-ltb}
use Rattle.quorums.specs.declared.Quorums.{Quorums}
use Rattle.law.specs.declared.Settings as Law
use Rattle.octets.specs.Areas.{over}
use Rattle.octets.proofs.Areas.{over_first}
use Rattle.replica.specs.Settings.{bad_group, settings_refusal}
use Rattle.replica.specs.Calls.{made}
use Rattle.replica.proofs.Accepted.{accepted, not-refused}
use Rattle.replica.proofs.Calls.{made-done}
use Rattle.scram.specs.Shown.{is_refused}
use Rattle.group.specs.Group.{settings_of, group}
use Rattle.group.specs.Meaning.{Written, Meaning}

module _ (N : ℕ) (q : Quorums) (law : Law.Settings) (e : settings_refusal (settings_of N q law 1) ≡ 0) (i : ℕ) (from1 : 1 ≤ i) (most : i ≤ N) where
  one-of-group : bad_group N i ≡ false
  unfolding bad_group
  one-of-group =
      let a = accepted (settings_of N q law 1) e in
      rw (le-ltb N 3 a.group.N3, le-ltb 9 N a.group.N9, le-ltb i 1 from1, le-ltb N i most)

  -- settings accepted for box 1 are accepted for each box of the group
  pub accepted-each : settings_refusal (settings_of N q law i) ≡ 0
  accepted-each = let a = accepted (settings_of N q law 1) e in sym (not-refused (settings_of N q law i) one-of-group a.law a.quorums)

  pub fresh-made : (group N q law).fresh i ≡ made (settings_of N q law i)
  fresh-made = sym (made-done (settings_of N q law i) accepted-each).1

written : (bytes : List ℕ) (count : ℕ) (area area' : List ℕ) → count ≡ length bytes → area' ≡ over bytes area → Written bytes count area area'
written bytes count area area' q z = record {
  number = q;
  first = ap (λ k. take k area') q ∙ ap (take (length bytes)) z ∙ over_first bytes area;
  whole = z;
}

pub meaning : Meaning
meaning N q law r x a s frame' command' g = record {
  replica = g.replica;
  refused = ap is_refused g.answer;
  frame-written = written _ s.frame a.frame frame' g.frame-length g.frame-bytes;
  command-written = written _ s.command a.command command' g.command-length g.command-bytes;
}
