-- `records::settings_part::put_tables` meets its contract: the tables are put one after the other. Assumes nothing.
use mathlib.Core.Path.{◌≡◌, refl, ◌∙◌}
use mathlib.Core.List.{List, [], ◌++◌}
use Prim.Native.Nat.{ℕ, ◌+◌, ◌*◌, ◌≤◌}
use native.Mathlib.Omega.{arith}
use borrow.Author.Rules.{rules}
use lib.ListN.{length, length-append}
use lib.IntN.{ℤ}
use Rattle.octets.specs.Words.{values_bytes}
use Rattle.octets.specs.Areas.{put}
use Rattle.octets.proofs.Areas.{put-nothing, then-put}
use Rattle.octets.proofs.ValueLists.{length-values_bytes}
use Rattle.records.specs.SettingsPart.{tables_bytes}
use Rattle.records.proofs.settings_part.put_tables.Goals as goal

-- what stands in the area: the bytes from i on, which end at j
record Written (l : List ℕ) (i j : ℕ) (xs l₁ : List ℕ) : Type 0 where
  same : l₁ ≡ put l i xs
  ends : i + length xs ≡ j

-- one table more
then-values : {l : List ℕ} {i j : ℕ} {xs l₁ : List ℕ} → Written l i j xs l₁ → (vs : List ℤ) (k : ℕ) → length vs ≡ k
    → j + 4 * k ≤ length l → (l₂ : List ℕ) → l₂ ≡ put l₁ j (values_bytes vs) → Written l i (j + 4 * k) (xs ++ values_bytes vs) l₂
then-values {l} {i} {j} {xs} {l₁} w vs k e room l₂ more =
    let size = length-values_bytes vs in record {
      same = then-put l l₁ l₂ i j xs (values_bytes vs) w.same more w.ends (omega (arith, size));
      ends = rw length-append (omega (arith, size, w.ends));
    }

pub put_values-requires-6 : goal.put_values-requires-6
put_values-requires-6 c =
    let high-length : length c.args.law.high ≡ 4 =
    search rules in
    let kept1 : length c.put_values.new.area ≡ length c.args.area.now =
    c.put_values.auto.area in
    let kept2 : length c.put_values-2.new.area ≡ length c.args.area.now =
    c.put_values-2.auto.area ∙ kept1 in
    let kept3 : length c.put_values-3.new.area ≡ length c.args.area.now =
    c.put_values-3.auto.area ∙ kept2 in
    let kept4 : length c.put_values-4.new.area ≡ length c.args.area.now =
    c.put_values-4.auto.area ∙ kept3 in
    let kept5 : length c.put_values-5.new.area ≡ length c.args.area.now =
    c.put_values-5.auto.area ∙ kept4 in
    omega (arith, c.requires, high-length, kept5)

pub put_values-requires-7 : goal.put_values-requires-7
put_values-requires-7 c =
    let start-length : length c.args.law.start ≡ 6 =
    search rules in
    let kept1 : length c.put_values.new.area ≡ length c.args.area.now =
    c.put_values.auto.area in
    let kept2 : length c.put_values-2.new.area ≡ length c.args.area.now =
    c.put_values-2.auto.area ∙ kept1 in
    let kept3 : length c.put_values-3.new.area ≡ length c.args.area.now =
    c.put_values-3.auto.area ∙ kept2 in
    let kept4 : length c.put_values-4.new.area ≡ length c.args.area.now =
    c.put_values-4.auto.area ∙ kept3 in
    let kept5 : length c.put_values-5.new.area ≡ length c.args.area.now =
    c.put_values-5.auto.area ∙ kept4 in
    let kept6 : length c.put_values-6.new.area ≡ length c.args.area.now =
    c.put_values-6.auto.area ∙ kept5 in
    omega (arith, c.requires, start-length, kept6)

pub shape_of-area : goal.shape_of-area
shape_of-area c =
    let kept1 : length c.put_values.new.area ≡ length c.args.area.now =
    c.put_values.auto.area in
    let kept2 : length c.put_values-2.new.area ≡ length c.args.area.now =
    c.put_values-2.auto.area ∙ kept1 in
    let kept3 : length c.put_values-3.new.area ≡ length c.args.area.now =
    c.put_values-3.auto.area ∙ kept2 in
    let kept4 : length c.put_values-4.new.area ≡ length c.args.area.now =
    c.put_values-4.auto.area ∙ kept3 in
    let kept5 : length c.put_values-5.new.area ≡ length c.args.area.now =
    c.put_values-5.auto.area ∙ kept4 in
    let kept6 : length c.put_values-6.new.area ≡ length c.args.area.now =
    c.put_values-6.auto.area ∙ kept5 in
    let kept7 : length c.put_values-7.new.area ≡ length c.args.area.now =
    c.put_values-7.auto.area ∙ kept6 in
    kept7

pub returns : goal.returns
unfolding tables_bytes
returns c =
    let a-length : length c.args.law.a ≡ 36 =
    search rules in
    let l-length : length c.args.law.l ≡ 24 =
    search rules in
    let c-length : length c.args.law.c ≡ 24 =
    search rules in
    let k-length : length c.args.law.k ≡ 24 =
    search rules in
    let low-length : length c.args.law.low ≡ 4 =
    search rules in
    let high-length : length c.args.law.high ≡ 4 =
    search rules in
    let start-length : length c.args.law.start ≡ 6 =
    search rules in
    let l = c.args.area.now in
    let law = c.args.law in
    let w₀ : Written l 8 8 [] l = record { same = put-nothing l 8; ends = refl } in
    let w₁ = then-values w₀ law.a 36 (a-length) (omega (arith, c.requires)) _ c.put_values.ensures in
    let w₂ = then-values w₁ law.l 24 (l-length) (omega (arith, c.requires)) _ c.put_values-2.ensures in
    let w₃ = then-values w₂ law.c 24 (c-length) (omega (arith, c.requires)) _ c.put_values-3.ensures in
    let w₄ = then-values w₃ law.k 24 (k-length) (omega (arith, c.requires)) _ c.put_values-4.ensures in
    let w₅ = then-values w₄ law.low 4 (low-length) (omega (arith, c.requires)) _ c.put_values-5.ensures in
    let w₆ = then-values w₅ law.high 4 (high-length) (omega (arith, c.requires)) _ c.put_values-6.ensures in
    let w₇ = then-values w₆ law.start 6 (start-length) (omega (arith, c.requires)) _ c.put_values-7.ensures in
    w₇.same
