-- From bytes to a frame and back to bytes: lemmas of the second law of `RoundTrip`. Assumes nothing.
use mathlib.Core.Path.{◌≡◌, refl, sym, ap, ◌∙◌}
use mathlib.Core.Bool.{Bool, true, false}
use mathlib.Core.List.{List, [], ◌∷◌, ◌++◌}
use Prim.Native.Nat.{ℕ, ◌+◌, ◌≤◌}
use native.Mathlib.Omega.{arith}
use lib.ListN.{length, get_or, take, drop}
use lib.Seq.{take-add, take_all, drop-drop}
use Rattle.lists.proofs.Booleans.{both}
use Rattle.octets.specs.Words.{AllBytes, little_endian, part, number_at}
use Rattle.octets.proofs.Numbers.{number-back, first-four}
use Rattle.estimate.specs.declared.Estimate.{Estimate}
use Rattle.estimate.specs.Fields.{no_estimate}
use Rattle.estimate.specs.Lengths.{state_length, readings_length, estimate_length}
use Rattle.estimate.specs.Reading.{estimate_at, estimate_ok}
use Rattle.estimate.proofs.RoundTrip.{estimate-written, estimate-writable}
use Rattle.frame.specs.Sizes.{sizes_ok}
use Rattle.frame.specs.Kinds.{part_count, has_parts}
use Rattle.frame.specs.Lengths.{header_length, pair_length, parts_start}
use Rattle.frame.specs.Format.{header, pairs, frame_bytes}
use Rattle.frame.specs.Reading.{kind_in, header_ok, pairs_ok, parts_ok, is_frame, headed, fields_in}
use Rattle.frame.specs.Writing.{well_formed}
use Rattle.frame.proofs.Conditions.{sizes, Header, header-facts, no-parts-length, parts-length, Pairs, pairs-facts}
use Rattle.frame.proofs.FrameBytes.{no-parts-bytes, parts-bytes}
use Rattle.frame.proofs.Refusals.{no-parts-fields, parts-fields}

-- ---- what it means that bytes are a frame

framed-header : (n m : ℕ) (b : List ℕ) → is_frame n m b ≡ true → Header n m b
unfolding is_frame
framed-header n m b e = header-facts n m b (both (header_ok n m b) _ e).0

record Parted (n m : ℕ) (b : List ℕ) : Type 0 where
  pairs : Pairs n m b
  judged : estimate_ok n m b parts_start ≡ true

framed-parts : (n m : ℕ) (b : List ℕ) → is_frame n m b ≡ true → has_parts (kind_in b) ≡ true → Parted n m b
unfolding is_frame parts_ok
framed-parts n m b e k =
    let p = both (pairs_ok n m b) _ (rw k at (both (header_ok n m b) _ e).1) in record { pairs = pairs-facts n m b p.0; judged = p.1 }

-- ---- pieces side by side

grow : (b : List ℕ) (i k : ℕ) → take i b ++ part b i k ≡ take (i + k) b
grow b i k = sym (take-add i k b)

beside : {a a' b b' : List ℕ} → a ≡ a' → b ≡ b' → a ++ b ≡ a' ++ b'
beside p q = λ i. p i ++ q i

header-back : (b : List ℕ) (e : Estimate) → AllBytes b → header_length ≤ length b → get_or b 3 0 ≡ 0 → get_or b 2 0 ≡ part_count (kind_in b)
    → header (headed b e) ≡ take header_length b
unfolding header
header-back b e h room z p =
    let four : ◌≡◌ {A = List ℕ} (get_or b 0 0 ∷ get_or b 1 0 ∷ part_count (kind_in b) ∷ 0 ∷ []) (take 4 b) =
    (λ i. get_or b 0 0 ∷ get_or b 1 0 ∷ sym p i ∷ sym z i ∷ []) ∙ sym (first-four b (omega arith)) in
    beside (beside (beside (beside four (number-back b 4 4 h (omega arith))) (number-back b 8 4 h (omega arith))) (number-back b 12 4 h (omega arith)))
    (number-back b 16 4 h (omega arith))
    ∙ rw (grow b 4 4, grow b 8 4, grow b 12 4, grow b 16 4)

pairs-back : (n m : ℕ) (b : List ℕ) → AllBytes b → parts_start ≤ length b → Pairs n m b → pairs n m ≡ part b header_length (pair_length + pair_length)
unfolding pairs
pairs-back n m b h room p =
    let c : List ℕ = drop header_length b in
    let two : (i x : ℕ) → number_at 2 b (header_length + i) ≡ x → i + 2 ≤ pair_length + pair_length → little_endian 2 x ≡ part c i 2 =
    λ i x e s. ap (little_endian 2) (sym e) ∙ number-back b (header_length + i) 2 h (omega arith) ∙ ap (take 2) (sym (drop-drop i header_length b)) in
    beside (beside (beside
    (two 0 parts_start p.state-offset (omega arith))
    (two 2 (state_length n) p.state-length (omega arith)))
    (two pair_length (parts_start + state_length n) p.readings-offset (omega arith)))
    (two (pair_length + 2) (readings_length m) p.readings-length (omega arith))
    ∙ rw (grow c 2 2, grow c 4 2, grow c 6 2)

module _ (n m : ℕ) (b : List ℕ) (h : AllBytes b) (ok : sizes_ok n m ≡ true) (framed : is_frame n m b ≡ true) where
  no-parts-back : has_parts (kind_in b) ≡ false → frame_bytes n m (fields_in n m b) ≡ b
  no-parts-back k =
      let f = framed-header n m b framed in
      let len = no-parts-length n m b f k in
      ap (frame_bytes n m) (no-parts-fields n m b k)
      ∙ no-parts-bytes n m (headed b no_estimate) k
      ∙ header-back b no_estimate h (omega (arith, len)) f.zeroed f.count
      ∙ take_all header_length b (omega (arith, len))

  parts-back : has_parts (kind_in b) ≡ true → frame_bytes n m (fields_in n m b) ≡ b
  parts-back k =
      let z = sizes n m ok in
      let f = framed-header n m b framed in
      let len = parts-length n m b f k in
      let parted = framed-parts n m b framed k in
      let e : Estimate = estimate_at n m b parts_start in
      let head = header-back b e h (omega (arith, len)) f.zeroed f.count in
      let paired = pairs-back n m b h (omega (arith, len)) parted.pairs in
      let values = estimate-written n m b parts_start z.n-high z.m-high parted.judged h (omega (arith, len)) in
      ap (frame_bytes n m) (parts-fields n m b k)
      ∙ parts-bytes n m (headed b e) k
      ∙ beside (beside head paired) values
      ∙ ap (λ (t : List ℕ). t ++ part b parts_start (estimate_length n m)) (grow b header_length (pair_length + pair_length))
      ∙ grow b parts_start (estimate_length n m)
      ∙ take_all (parts_start + estimate_length n m) b (omega (arith, len))

  bytes-by : (t : Bool) → has_parts (kind_in b) ≡ t → frame_bytes n m (fields_in n m b) ≡ b
  bytes-by true k = parts-back k
  bytes-by false k = no-parts-back k

  pub back : frame_bytes n m (fields_in n m b) ≡ b
  back = bytes-by (has_parts (kind_in b)) refl

  -- ---- the frame that was read is well-formed

  no-parts-good : has_parts (kind_in b) ≡ false → well_formed m (headed b no_estimate) ≡ true
  unfolding well_formed
  no-parts-good k = rw ((framed-header n m b framed).known, k)

  parts-good : has_parts (kind_in b) ≡ true → well_formed m (headed b (estimate_at n m b parts_start)) ≡ true
  unfolding well_formed
  parts-good k =
      let z = sizes n m ok in
      rw ((framed-header n m b framed).known, k) (estimate-writable n m b parts_start z.n-high z.m-high (framed-parts n m b framed k).judged z.m-low)

  good-by : (t : Bool) → has_parts (kind_in b) ≡ t → well_formed m (fields_in n m b) ≡ true
  good-by true k = ap (well_formed m) (parts-fields n m b k) ∙ parts-good k
  good-by false k = ap (well_formed m) (no-parts-fields n m b k) ∙ no-parts-good k

  pub good-back : well_formed m (fields_in n m b) ≡ true
  good-back = good-by (has_parts (kind_in b)) refl
