-- Laws of the settings' part of a record: its length, what was read is written again, and what was written is read again. Assumes nothing.
use mathlib.Core.Path.{◌≡◌, refl, sym, ap, ◌∙◌}
use mathlib.Core.List.{List, [], ◌∷◌, ◌++◌, append_assoc}
use Prim.Native.Nat.{ℕ, ◌+◌, ◌*◌, ◌/◌, ◌%◌, ◌≤◌, ◌<◌}
use native.Mathlib.Omega.{arith}
use lib.ListN.{length, get_or, take, drop, length-drop}
use lib.Seq.{take-add, take_at, drop_at, drop-drop, get_or-drop}
use lib.IntN.{ℤ, pos}
use Rattle.lists.specs.Places.{entry, filled}
use Rattle.lists.specs.I32.{AllI32}
use Rattle.lists.proofs.Places.{filled-same}
use Rattle.octets.specs.Words.{AllBytes, part, values_bytes, value_at}
use Rattle.octets.proofs.Numbers.{bytes-part, length_part, first-four}
use Rattle.octets.proofs.ValueLists.{length-values_bytes, value-forth, values-back}
use Rattle.replica.specs.declared.Settings.{Settings}
use Rattle.records.specs.Lengths.{settings_length, record_length}
use Rattle.records.specs.SettingsPart.{letter, version, quorums_byte, quorums_in, head_bytes, tables_bytes, settings_bytes, values_at, law_in, settings_in}
use Rattle.records.specs.InOrder.{TypedSettings}
use Rattle.records.proofs.PartLengths.{TypedTables, length-settings}

-- ---- the length

-- what the types of the tables say is among what the types of the settings say
typed-tables : {s : Settings} → TypedSettings s → TypedTables s.law
typed-tables t = record {
  a = t.a-length;
  l = t.l-length;
  c = t.c-length;
  k = t.k-length;
  low = t.low-length;
  high = t.high-length;
  start = t.start-length;
}

pub length-settings_bytes : (s : Settings) → TypedSettings s → length (settings_bytes s) ≡ settings_length
length-settings_bytes s t = length-settings s (typed-tables t)

-- ---- settings that were read are written again

-- byte 7 is written as it was read
quorums-written : (byte : ℕ) → quorums_byte (quorums_in byte) ≡ byte
quorums-written byte = omega arith

-- a table is written as the bytes that it was read from
pub values-written : (b : List ℕ) (at count : ℕ) → AllBytes b → at + 4 * count ≤ length b → values_bytes (values_at b at count) ≡ part b at (4 * count)
unfolding values_at
values-written b at count h room =
    values-back count (part b at (4 * count)) (bytes-part at (4 * count) b h) (length_part b at (4 * count) room)

-- a part, and the one after it
pub then-part : {xs ys : List ℕ} (b : List ℕ) (i j k : ℕ) → xs ≡ part b i j → ys ≡ part b (i + j) k → xs ++ ys ≡ part b i (j + k)
then-part b i j k first second =
    (λ n. first n ++ second n)
    ∙ ap (λ (t : List ℕ). part b i j ++ take k t) (sym (drop-drop j i b))
    ∙ sym (take-add j k (drop i b))

module _ (b : List ℕ) (long : length b ≡ record_length) where
  -- the eight bytes before the tables
  pub head-written : get_or b 0 0 ≡ letter → get_or b 1 0 ≡ version → head_bytes (settings_in b) ≡ part b 0 8
  unfolding head_bytes settings_in law_in
  head-written e₀ e₁ =
      let four : take 4 (drop 4 b) ≡ get_or b 4 0 ∷ get_or b 5 0 ∷ get_or b 6 0 ∷ quorums_byte (quorums_in (get_or b 7 0)) ∷ [] =
      first-four (drop 4 b) (simp length-drop (omega arith)) ∙ simp (get_or-drop, quorums-written (get_or b 7 0)) in
      let front : take 4 b ≡ letter ∷ version ∷ get_or b 2 0 ∷ get_or b 3 0 ∷ [] = first-four b (omega arith) ∙ rw (e₀, e₁) in
      then-part b 0 4 4 (sym front) (sym four)

  -- the tables
  pub tables-written : AllBytes b → tables_bytes (law_in b) ≡ part b 8 488
  unfolding tables_bytes law_in
  tables-written h =
      let a = values-written b 8 36 h (omega arith) in
      let l = values-written b 152 24 h (omega arith) in
      let c = values-written b 248 24 h (omega arith) in
      let k = values-written b 344 24 h (omega arith) in
      let low = values-written b 440 4 h (omega arith) in
      let high = values-written b 456 4 h (omega arith) in
      let start = values-written b 472 6 h (omega arith) in
      let al = then-part b 8 144 96 a l in
      let alc = then-part b 8 240 96 al c in
      let alck = then-part b 8 336 96 alc k in
      let with-low = then-part b 8 432 16 alck low in
      then-part b 8 464 24 (then-part b 8 448 16 with-low high) start

-- Whatever settings a record of the layout has, writing them gives the very bytes that they were read from.
pub settings-written : (b : List ℕ) → AllBytes b → length b ≡ record_length → get_or b 0 0 ≡ letter → get_or b 1 0 ≡ version
    → settings_bytes (settings_in b) ≡ take settings_length b
unfolding settings_bytes settings_in
settings-written b h long e₀ e₁ = then-part b 0 8 488 (head-written b long e₀ e₁) (tables-written b long h)

-- ---- settings that were written are read again

filled-entries : (vs : List ℤ) → filled (pos 0) (length vs) (length vs) (entry vs) ≡ vs
unfolding filled
filled-entries [] = refl
filled-entries (z ∷ vs) = ap (λ (t : List ℤ). z ∷ t) (filled-entries vs)

-- Bytes that have a table from an offset on: the table is read there, and what is after it follows.
module _ (b : List ℕ) (at : ℕ) (vs : List ℤ) (count : ℕ) (rest : List ℕ) (e : length vs ≡ count) (there : drop at b ≡ values_bytes vs ++ rest) where
  table-length : length (values_bytes vs) ≡ 4 * count
  table-length = omega (arith, length-values_bytes vs)

  pub values-read : AllI32 vs → values_at b at count ≡ vs
  unfolding values_at
  values-read s =
      let bytes : part b at (4 * count) ≡ values_bytes vs = ap (take (4 * count)) there ∙ take_at (values_bytes vs) rest (4 * count) table-length in
      ap (λ (p : List ℕ). filled (pos 0) count count (value_at p)) bytes
      ∙ filled-same (pos 0) count count (value_at (values_bytes vs)) (entry vs) (λ i l w. value-forth vs i (omega arith) (s i))
      ∙ ap (λ (k : ℕ). filled (pos 0) k k (entry vs)) (sym e)
      ∙ filled-entries vs

  pub after-values : drop (at + 4 * count) b ≡ rest
  after-values = sym (drop-drop (4 * count) at b) ∙ ap (drop (4 * count)) there ∙ drop_at (values_bytes vs) rest (4 * count) table-length

-- bytes 0 and 1
pub layout-read : (s : Settings) (rest : List ℕ)
    → (get_or (settings_bytes s ++ rest) 0 0 ≡ letter) × (get_or (settings_bytes s ++ rest) 1 0 ≡ version)
unfolding settings_bytes head_bytes
layout-read s rest = (refl, refl)

module _ (s : Settings) (rest : List ℕ) where
  tables-after-head : drop 8 (settings_bytes s ++ rest)
      ≡ values_bytes s.law.a
      ++ (values_bytes s.law.l
      ++ (values_bytes s.law.c
      ++ (values_bytes s.law.k ++ (values_bytes s.law.low ++ (values_bytes s.law.high ++ (values_bytes s.law.start ++ rest))))))
  unfolding settings_bytes head_bytes tables_bytes
  tables-after-head = simp append_assoc

  law-read : TypedSettings s → law_in (settings_bytes s ++ rest) ≡ s.law
  unfolding law_in settings_bytes head_bytes
  law-read t =
      let b : List ℕ = settings_bytes s ++ rest in
      let law = s.law in
      let at₈ = tables-after-head in
      let at₁₅₂ = after-values b 8 law.a 36 _ t.a-length at₈ in
      let at₂₄₈ = after-values b 152 law.l 24 _ t.l-length at₁₅₂ in
      let at₃₄₄ = after-values b 248 law.c 24 _ t.c-length at₂₄₈ in
      let at₄₄₀ = after-values b 344 law.k 24 _ t.k-length at₃₄₄ in
      let at₄₅₆ = after-values b 440 law.low 4 _ t.low-length at₄₄₀ in
      let at₄₇₂ = after-values b 456 law.high 4 _ t.high-length at₄₅₆ in
      let a = values-read b 8 law.a 36 _ t.a-length at₈ t.a in
      let l = values-read b 152 law.l 24 _ t.l-length at₁₅₂ t.l in
      let c = values-read b 248 law.c 24 _ t.c-length at₂₄₈ t.c in
      let k = values-read b 344 law.k 24 _ t.k-length at₃₄₄ t.k in
      let low = values-read b 440 law.low 4 _ t.low-length at₄₄₀ t.low in
      let high = values-read b 456 law.high 4 _ t.high-length at₄₅₆ t.high in
      let start = values-read b 472 law.start 6 rest t.start-length at₄₇₂ t.start in
      λ i. record { n = law.n; m = law.m; p = law.p; a = a i; l = l i; c = c i; k = k i; low = low i; high = high i; start = start i }

  quorums-read : s.quorums.to_decide < 16 → quorums_in (quorums_byte s.quorums) ≡ s.quorums
  quorums-read low =
      let a : (quorums_byte s.quorums) % 16 ≡ s.quorums.to_decide = omega arith in
      let b : (quorums_byte s.quorums) / 16 ≡ s.quorums.to_propose = omega arith in
      λ i. record { to_decide = a i; to_propose = b i }

  -- Reading the settings' part of a record gives the settings that it was written for, whatever comes after it: a has four bits in byte 7.
  pub settings-read : TypedSettings s → s.quorums.to_decide < 16 → settings_in (settings_bytes s ++ rest) ≡ s
  unfolding settings_in settings_bytes head_bytes
  settings-read t low = λ i. record { boxes = s.boxes; own = s.own; quorums = quorums-read low i; law = law-read t i }
