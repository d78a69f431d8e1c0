-- From a frame to its bytes and back to a frame: lemmas of the first law of `RoundTrip`. Assumes nothing.
use mathlib.Core.Path.{◌≡◌, refl, sym, ap, ◌∙◌}
use mathlib.Core.Bool.{Bool, true, false}
use mathlib.Core.List.{List, [], ◌++◌, append_assoc, append-nil}
use Prim.Native.Nat.{ℕ, ◌+◌, ◌≤◌, ◌<◌}
use native.Mathlib.Omega.{arith}
use lib.ListN.{length, get_or, take, drop}
use lib.Seq.{take_all, drop_at, drop-drop}
use Rattle.lists.proofs.Booleans.{both}
use Rattle.lists.proofs.Choice.{pick_true, pick-false}
use Rattle.octets.specs.Words.{little_endian, spelled, part, number_at}
use Rattle.octets.proofs.Numbers.{spelled-little_endian}
use Rattle.estimate.specs.declared.Estimate.{Estimate}
use Rattle.estimate.specs.Lengths.{state_length, readings_length, estimate_length}
use Rattle.estimate.specs.Fields.{no_estimate}
use Rattle.estimate.specs.Format.{estimate_bytes, writable}
use Rattle.estimate.specs.Reading.{estimate_ok}
use Rattle.estimate.proofs.Lengths.{length-estimate}
use Rattle.estimate.proofs.RoundTrip.{estimate-read, estimate-good}
use Rattle.frame.specs.Sizes.{sizes_ok}
use Rattle.frame.specs.Kinds.{kind_ok, part_count, has_parts}
use Rattle.frame.specs.Lengths.{header_length, pair_length, parts_start, frame_length}
use Rattle.frame.specs.Format.{header, pairs, frame_bytes}
use Rattle.frame.specs.Fields.{Typed, with_estimate, carried}
use Rattle.frame.specs.Reading.{kind_in, header_ok, pairs_ok, parts_ok, is_frame, headed, fields_in, ReadAs}
use Rattle.frame.specs.Writing.{well_formed}
use Rattle.frame.specs.declared.Frame.{Frame}
use Rattle.frame.proofs.Conditions.{sizes, header-holds, Pairs, pairs-hold}
use Rattle.frame.proofs.FrameBytes.{length-header, length_front, length_whole, no-parts-bytes, parts-bytes}
use Rattle.frame.proofs.Refusals.{read_done, frame-read, good-header, by_parts, no-parts-fields, parts-fields, carried_none, carried-parts}

-- ---- what it means that a frame is well-formed

known-kind : (m : ℕ) (f : Frame) → well_formed m f ≡ true → kind_ok f.kind ≡ true
unfolding well_formed
known-kind m f e = (both (kind_ok f.kind) _ e).0

can-be-written : (m : ℕ) (f : Frame) → well_formed m f ≡ true → has_parts f.kind ≡ true → writable m f.estimate.readings ≡ true
unfolding well_formed
can-be-written m f e k = rw k at (both (kind_ok f.kind) _ e).1

-- ---- the header

module _ (f : Frame) (r : List ℕ) where
  kind-forth : kind_in (header f ++ r) ≡ f.kind
  unfolding header
  kind-forth = refl

  count-forth : get_or (header f ++ r) 2 0 ≡ part_count f.kind
  unfolding header
  count-forth = refl

  zero-forth : get_or (header f ++ r) 3 0 ≡ 0
  unfolding header
  zero-forth = refl

  header-forth : (e : Estimate) → Typed f → headed (header f ++ r) e ≡ with_estimate f e
  unfolding header number_at little_endian
  header-forth e t =
      λ i. record {
        kind = f.kind;
        sender = f.sender;
        period = spelled-little_endian 4 f.period t.period i;
        view = spelled-little_endian 4 f.view t.view i;
        base_view = spelled-little_endian 4 f.base_view t.base-view i;
        base_period = spelled-little_endian 4 f.base_period t.base-period i;
        estimate = e;
      }

  after-header : drop header_length (header f ++ r) ≡ r
  after-header = drop_at (header f) r header_length (length-header f)

parts-good : (n m : ℕ) (b : List ℕ) → pairs_ok n m b ≡ true → estimate_ok n m b parts_start ≡ true → parts_ok n m b ≡ true
unfolding parts_ok
parts-good n m b p r = rw p r

module _ (n m : ℕ) (f : Frame) (t : Typed f) (ok : sizes_ok n m ≡ true) (good : well_formed m f ≡ true) where
  header-good : (r : List ℕ) → length (header f ++ r) ≡ frame_length n m f.kind → header_ok n m (header f ++ r) ≡ true
  header-good r e =
      header-holds n m (header f ++ r)
      (record {
        len = e ∙ ap (frame_length n m) (sym (kind-forth f r));
        known = ap kind_ok (kind-forth f r) ∙ known-kind m f good;
        count = count-forth f r ∙ ap part_count (sym (kind-forth f r));
        zeroed = zero-forth f r;
      })

  reads : (b : List ℕ) → is_frame n m b ≡ true → fields_in n m b ≡ carried n m f → ReadAs n m b (carried n m f)
  reads b h e = let d = read_done n m b ok h in record { done = d; frame = frame-read n m b d ∙ e }

  -- ---- a frame without parts

  no-parts-forth : has_parts f.kind ≡ false → ReadAs n m (frame_bytes n m f) (carried n m f)
  no-parts-forth k =
      let b : List ℕ = header f ++ [] in
      let same : frame_bytes n m f ≡ b = no-parts-bytes n m f k ∙ sym (append-nil (header f)) in
      let kb : has_parts (kind_in b) ≡ false = ap has_parts (kind-forth f []) ∙ k in
      let len : length b ≡ frame_length n m f.kind = ap length (append-nil (header f)) ∙ length-header f ∙ sym (pick-false _ _ _ k) in
      let fields = no-parts-fields n m b kb ∙ header-forth f [] no_estimate t ∙ sym (carried_none n m f k) in
      rw same (reads b (good-header n m b (header-good [] len) kb) fields)

  -- ---- a frame with parts

  abbrev rest : List ℕ
  rest = pairs n m ++ estimate_bytes n m f.estimate

  n≤ : n ≤ length f.estimate.state
  n≤ = omega (arith, t.estimate.state-length, (sizes n m ok).n-high)

  m≤ : m ≤ length f.estimate.readings.values
  m≤ = omega (arith, t.estimate.values_length, (sizes n m ok).m-high)

  in_two : (header f ++ pairs n m) ++ estimate_bytes n m f.estimate ≡ header f ++ rest
  in_two = append_assoc (header f) (pairs n m) (estimate_bytes n m f.estimate)

  all-length : length (header f ++ rest) ≡ parts_start + estimate_length n m
  all-length = ap length (sym in_two) ∙ length_whole n m f n≤ m≤

  -- the estimate stands after the pairs
  there : part (header f ++ rest) parts_start (estimate_length n m) ≡ estimate_bytes n m f.estimate
  there =
      ap (λ (b : List ℕ). part b parts_start (estimate_length n m)) (sym in_two)
      ∙ ap (take (estimate_length n m)) (drop_at (header f ++ pairs n m) (estimate_bytes n m f.estimate) parts_start (length_front n m f))
      ∙ take_all (estimate_length n m) _ (omega (arith, length-estimate n m f.estimate n≤ m≤))

  pair-at : (i x : ℕ) → part rest i 2 ≡ little_endian 2 x → x < 65536 → number_at 2 (header f ++ rest) (header_length + i) ≡ x
  unfolding number_at
  pair-at i x e h =
      ap (λ (l : List ℕ). spelled (take 2 l)) (sym (drop-drop i header_length (header f ++ rest)) ∙ ap (drop i) (after-header f rest))
      ∙ ap spelled e ∙ spelled-little_endian 2 x h

  pairs-forth : Pairs n m (header f ++ rest)
  unfolding pairs little_endian
  pairs-forth =
      let z = sizes n m ok in
      record {
        state-offset = pair-at 0 parts_start refl (omega arith);
        state-length = pair-at 2 (state_length n) refl (omega (arith, z));
        readings-offset = pair-at pair_length (parts_start + state_length n) refl (omega (arith, z));
        readings-length = pair-at (pair_length + 2) (readings_length m) refl (omega (arith, z));
      }

  parts-forth : has_parts f.kind ≡ true → ReadAs n m (frame_bytes n m f) (carried n m f)
  parts-forth k =
      let b : List ℕ = header f ++ rest in
      let z = sizes n m ok in
      let w = can-be-written m f good k in
      let room : parts_start + estimate_length n m ≤ length b = omega (arith, all-length) in
      let kb : has_parts (kind_in b) ≡ true = ap has_parts (kind-forth f rest) ∙ k in
      let len : length b ≡ frame_length n m f.kind = all-length ∙ sym (pick_true _ _ _ k) in
      let found = estimate-read n m f.estimate t.estimate z.n-high z.m-high w b parts_start room there in
      let judged = estimate-good n m f.estimate t.estimate z.n-high z.m-high w b parts_start room there z.m-low in
      let fields = parts-fields n m b kb ∙ ap (headed b) found ∙ header-forth f rest _ t ∙ sym (carried-parts n m f k) in
      rw (parts-bytes n m f k ∙ in_two) (reads b (by_parts n m b (header-good rest len) kb ∙ parts-good n m b (pairs-hold n m b pairs-forth) judged) fields)

  by_kind : (s : Bool) → has_parts f.kind ≡ s → ReadAs n m (frame_bytes n m f) (carried n m f)
  by_kind true k = parts-forth k
  by_kind false k = no-parts-forth k

  pub forth : ReadAs n m (frame_bytes n m f) (carried n m f)
  forth = by_kind (has_parts f.kind) refl
