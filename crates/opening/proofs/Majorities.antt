-- A first line without ` quorums a b` is never refused by 18: `never-18`. Assumes nothing.
use mathlib.Core.Path.{◌≡◌, refl, sym}
use mathlib.Core.Bool.{Bool, true, false}
use mathlib.Core.List.{List}
use Prim.Native.Nat.{ℕ, ◌+◌}
use native.Mathlib.Omega.{arith}
use Rattle.std.specs.Prelude.{Option, Some, None, Result, Ok, Err}
use Rattle.refusal.specs.declared.Refusal.{Refusal}
use Rattle.opening.specs.declared.Unopened.{Unopened}
use Rattle.lists.specs.Choice.{pick}
use Rattle.lists.specs.Refusals.{first_of}
use Rattle.line.specs.Fields.{field}
use Rattle.law.specs.Settings.{refusals}
use Rattle.quorums.specs.Quorums.{bad_quorums}
use Rattle.quorums.proofs.Stand.{majorities-stand}
use Rattle.replica.specs.declared.Settings.{Settings}
use Rattle.replica.specs.Settings.{bad_group, settings_refusal}
use Rattle.opening.specs.declared.Sizes.{Sizes}
use Rattle.opening.specs.Opening.{begun, sizes_refusal, starts_of, is_quorums, numbered, quorums_in, opened_with, opened_unless, opened_by}
use Rattle.opening.proofs.OpeningLaws.{in-range}

-- 1 to 4, and 18 does not hold
others : (a b c d : Bool) → ◌≡◌ {A = ℕ} (pick a 1 (pick b 2 (pick c 3 (pick d 4 (pick false 18 0))))) 18 → ⊥
unfolding pick
others true b c d e = omega arith
others false true c d e = omega arith
others false false true d e = omega arith
others false false false true e = omega arith
others false false false false e = omega arith

quorums-hold : (s : Settings) → bad_quorums s.boxes s.quorums ≡ false → settings_refusal s ≡ 18 → ⊥
unfolding settings_refusal refusals first_of
quorums-hold s q e = others (bad_group s.boxes s.own) _ _ _ (rw q at e)

never-ok : {why : Unopened} {settings : Settings} → ◌≡◌ {A = Result Settings Unopened} (Err why) (Ok settings) → ⊥
never-ok e = cc

same_Ok : {a b : Settings} → ◌≡◌ {A = Result Settings Unopened} (Ok a) (Ok b) → a ≡ b
same_Ok e = cc

module _ (line : List ℕ) (s : Sizes) where
  pub never-18 : is_quorums (field ((starts_of s.n s.m s.p).count + 5) line) ≡ false → (settings : Settings) → opened_by line s ≡ Ok settings
      → settings_refusal settings ≡ 18 → ⊥
  unfolding opened_by opened_unless opened_with quorums_in pick
  never-18 q settings o e =
      let count = (starts_of s.n s.m s.p).count in
      by (begun (field 0 line) s) refl (sizes_refusal s) refl (numbered count line) refl o
    where
      by : (t : Bool) → begun (field 0 line) s ≡ t → (u : Option Refusal) → sizes_refusal s ≡ u
          → (v : Bool) → numbered (starts_of s.n s.m s.p).count line ≡ v → opened_by line s ≡ Ok settings → ⊥
      by false x u y v z o = never-ok (rw x at o)
      by true x (Some r) y v z o = never-ok (rw (x, y) at o)
      by true x None y false z o = never-ok (rw (x, y, z) at o)
      by true x None y true z o =
          let same = same_Ok (rw (x, y, z, q) at o) in
          quorums-hold _ (majorities-stand s.boxes (in-range s y).three) (rw (sym same) at e)
