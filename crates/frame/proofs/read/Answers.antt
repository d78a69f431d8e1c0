-- `frame::read` meets its contract: each test of the code is one of the conditions, in their order. Assumes nothing.
use mathlib.Core.Path.{◌≡◌, refl, sym, ap, ◌∙◌}
use mathlib.Core.Bool.{true}
use Rattle.std.proofs.Common.{None, Some, Err, is_some, rules}
use Rattle.refusal.specs.declared.Refusal.TheVariants as Refusal
use mathlib.Core.List.{List}
use Prim.Native.Nat.{ℕ, ◌+◌, ◌-◌}
use native.Mathlib.Omega.{arith}
use lib.ListN.{length}
use Rattle.octets.specs.Words.{part}
use Rattle.octets.proofs.Numbers.{length_part}
use Rattle.octets.proofs.Areas.{part_of}
use Rattle.estimate.specs.Lengths.{state_length, readings_length, estimate_length}
use Rattle.estimate.specs.Reading.{state_in, readings_in, readings_ok, state_part, readings_part, estimate_at, estimate_ok}
use Rattle.frame.specs.Sizes.{sizes_ok}
use Rattle.frame.specs.Kinds.{has_parts}
use Rattle.frame.specs.Lengths.{parts_start}
use Rattle.frame.specs.Reading.{kind_in, pairs_ok, header_ok, parts_ok, is_frame, headed}
use Rattle.frame.proofs.Conditions.{Sized, sizes, header-facts, header-there, parts-length}
use Rattle.frame.proofs.Refusals.{read-sizes, read-malformed, read_done, frame-read}
use Rattle.frame.proofs.Refusals.{bad-header, good-header, by_parts, no-parts-fields, parts-fields}
use Rattle.frame.proofs.read.Goals as goal

-- where the code takes the two parts from
state-part : (n : ℕ) (b : List ℕ) (k : ℕ) → k ≡ state_length n → part b parts_start (parts_start + k - parts_start) ≡ state_part n b parts_start
state-part n b k e = part_of b parts_start _ _ _ refl e

readings-part : (n m : ℕ) (b : List ℕ) (k l : ℕ) → k ≡ state_length n → l ≡ readings_length m
    → part b (parts_start + k) (parts_start + k + l - (parts_start + k)) ≡ readings_part n m b parts_start
readings-part n m b k l e f = part_of _ _ _ _ _ (ap (λ (k : ℕ). parts_start + k) e) f

-- what the last test says of the parts
judged : (n m : ℕ) (b : List ℕ) → pairs_ok n m b ≡ true → readings_ok m (readings_part n m b parts_start) ≡ parts_ok n m b
unfolding parts_ok estimate_ok
judged n m b paired = rw paired

-- n and m are within their ranges, the header is as it must be, and the frame has parts
record Found (n m : ℕ) (b : List ℕ) : Type 0 where
  sized-test : sizes_ok n m ≡ true
  sized : Sized n m
  headed-test : header_ok n m b ≡ true
  parts-test : has_parts (kind_in b) ≡ true
  whole : length b ≡ parts_start + estimate_length n m
  in_parts : is_frame n m b ≡ parts_ok n m b

found : (n m : ℕ) (b : List ℕ) → sizes_ok n m ≡ true → header_ok n m b ≡ true → has_parts (kind_in b) ≡ true → Found n m b
found n m b s h k =
    record {
      sized-test = s;
      sized = sizes _ _ s;
      headed-test = h;
      parts-test = k;
      whole = parts-length _ _ _ (header-facts _ _ _ h) k;
      in_parts = by_parts _ _ _ h k;
    }

-- ---- what is to be shown

pub returns-then-not-sizes_ok : goal.returns-then-not-sizes_ok
returns-then-not-sizes_ok c =
    let a = c.args in
    let e = read-sizes a.n a.m a.bytes.now (sym c.sizes_ok.ensures ∙ c.if-not-sizes_ok.true) in
    record { answer = sym e; frame = tt }

pub header_ok-requires : goal.header_ok-requires
header_ok-requires c = let s = sizes _ _ (sym c.sizes_ok.ensures ∙ c.if-not-sizes_ok.false) in (s.n-high, s.m-high)

pub returns-then-not-header_ok : goal.returns-then-not-header_ok
returns-then-not-header_ok c =
    let a = c.args in
    let sized-test = sym c.sizes_ok.ensures ∙ c.if-not-sizes_ok.false in
    let bad = sym c.header_ok.ensures ∙ c.if-not-header_ok.true in
    let e = read-malformed _ _ _ sized-test (bad-header a.n a.m a.bytes.now bad) in
    record { answer = sym e; frame = tt }

pub bounds-bytes-0 : goal.bounds-bytes-0
bounds-bytes-0 c = omega (arith, header-there _ _ _ (header-facts _ _ _ (sym c.header_ok.ensures ∙ c.if-not-header_ok.false)))

pub headed_by-requires : goal.headed_by-requires
headed_by-requires c = header-there _ _ _ (header-facts _ _ _ (sym c.header_ok.ensures ∙ c.if-not-header_ok.false))

pub returns-then-not-has_parts : goal.returns-then-not-has_parts
returns-then-not-has_parts c =
    let a = c.args in
    let k = sym c.has_parts.ensures ∙ c.if-not-has_parts.true in
    let good = good-header a.n a.m a.bytes.now (sym c.header_ok.ensures ∙ c.if-not-header_ok.false) k in
    let e = read_done a.n a.m a.bytes.now (sym c.sizes_ok.ensures ∙ c.if-not-sizes_ok.false) good in
    record {
      answer = sym e;
      frame =
          c.headed_by.ensures
          ∙ ap (headed a.bytes.now) c.no_estimate.ensures
          ∙ sym (frame-read a.n a.m a.bytes.now e ∙ no-parts-fields a.n a.m a.bytes.now k);
    }

pub pairs_ok-requires : goal.pairs_ok-requires
pairs_ok-requires c =
    let a = c.args in
    let k =
    found a.n a.m a.bytes.now (sym c.sizes_ok.ensures ∙ c.if-not-sizes_ok.false)
    (sym c.header_ok.ensures ∙ c.if-not-header_ok.false)
    (sym c.has_parts.ensures ∙ c.if-not-has_parts.false) in
    (k.sized.n-high, k.sized.m-high, omega (arith, k.whole))

pub returns-then-not-pairs_ok : goal.returns-then-not-pairs_ok
unfolding parts_ok
returns-then-not-pairs_ok c =
    let a = c.args in
    let k =
    found a.n a.m a.bytes.now (sym c.sizes_ok.ensures ∙ c.if-not-sizes_ok.false)
    (sym c.header_ok.ensures ∙ c.if-not-header_ok.false)
    (sym c.has_parts.ensures ∙ c.if-not-has_parts.false) in
    let e = read-malformed a.n a.m a.bytes.now k.sized-test (k.in_parts ∙ rw (sym c.pairs_ok.ensures ∙ c.if-not-pairs_ok.true)) in
    record { answer = sym e; frame = tt }

pub state_length-state_end-requires : goal.state_length-state_end-requires
state_length-state_end-requires c =
    let a = c.args in
    let k =
    found a.n a.m a.bytes.now (sym c.sizes_ok.ensures ∙ c.if-not-sizes_ok.false)
    (sym c.header_ok.ensures ∙ c.if-not-header_ok.false)
    (sym c.has_parts.ensures ∙ c.if-not-has_parts.false) in
    k.sized.n-high

pub overflow_add-state_end : goal.overflow_add-state_end
overflow_add-state_end c =
    let a = c.args in
    let k =
    found a.n a.m a.bytes.now (sym c.sizes_ok.ensures ∙ c.if-not-sizes_ok.false)
    (sym c.header_ok.ensures ∙ c.if-not-header_ok.false)
    (sym c.has_parts.ensures ∙ c.if-not-has_parts.false) in
    let s = k.sized in omega (arith, c.state_length-state_end.ensures, s.n-high)

pub readings_length-requires : goal.readings_length-requires
readings_length-requires c =
    let a = c.args in
    let k =
    found a.n a.m a.bytes.now (sym c.sizes_ok.ensures ∙ c.if-not-sizes_ok.false)
    (sym c.header_ok.ensures ∙ c.if-not-header_ok.false)
    (sym c.has_parts.ensures ∙ c.if-not-has_parts.false) in
    k.sized.m-high

pub overflow_add-readings_end : goal.overflow_add-readings_end
overflow_add-readings_end c =
    let a = c.args in
    let k =
    found a.n a.m a.bytes.now (sym c.sizes_ok.ensures ∙ c.if-not-sizes_ok.false)
    (sym c.header_ok.ensures ∙ c.if-not-header_ok.false)
    (sym c.has_parts.ensures ∙ c.if-not-has_parts.false) in
    let s = k.sized in omega (arith, c.state_length-state_end.ensures, c.readings_length.ensures, s.n-high, s.m-high)

pub slice_bounds-read_state-end : goal.slice_bounds-read_state-end
slice_bounds-read_state-end c =
    let a = c.args in
    let k =
    found a.n a.m a.bytes.now (sym c.sizes_ok.ensures ∙ c.if-not-sizes_ok.false)
    (sym c.header_ok.ensures ∙ c.if-not-header_ok.false)
    (sym c.has_parts.ensures ∙ c.if-not-has_parts.false) in
    omega (arith, k.whole, c.state_length-state_end.ensures, c.readings_length.ensures)

pub slice_bounds-checked_readings-end : goal.slice_bounds-checked_readings-end
slice_bounds-checked_readings-end c =
    let a = c.args in
    let k =
    found a.n a.m a.bytes.now (sym c.sizes_ok.ensures ∙ c.if-not-sizes_ok.false)
    (sym c.header_ok.ensures ∙ c.if-not-header_ok.false)
    (sym c.has_parts.ensures ∙ c.if-not-has_parts.false) in
    omega (arith, k.whole, c.state_length-state_end.ensures, c.readings_length.ensures)

pub read_state-state-requires : goal.read_state-state-requires
read_state-state-requires c =
    let a = c.args in
    let k =
    found a.n a.m a.bytes.now (sym c.sizes_ok.ensures ∙ c.if-not-sizes_ok.false)
    (sym c.header_ok.ensures ∙ c.if-not-header_ok.false)
    (sym c.has_parts.ensures ∙ c.if-not-has_parts.false) in (
      k.sized.n-high,
      ap length (state-part a.n a.bytes.now _ c.state_length-state_end.ensures)
          ∙ length_part a.bytes.now parts_start (state_length a.n) (omega (arith, k.whole)),
    )

pub checked_readings-requires : goal.checked_readings-requires
checked_readings-requires c =
    let a = c.args in
    let k =
    found a.n a.m a.bytes.now (sym c.sizes_ok.ensures ∙ c.if-not-sizes_ok.false)
    (sym c.header_ok.ensures ∙ c.if-not-header_ok.false)
    (sym c.has_parts.ensures ∙ c.if-not-has_parts.false) in
    let part = readings-part a.n a.m a.bytes.now _ _ c.state_length-state_end.ensures c.readings_length.ensures in (
      k.sized.m-low,
      k.sized.m-high,
      ap length part ∙ length_part a.bytes.now (parts_start + state_length a.n) (readings_length a.m) (omega (arith, k.whole)),
    )

pub returns-in_err-readings : goal.returns-in_err-readings
returns-in_err-readings c =
    let a = c.args in
    let k =
    found a.n a.m a.bytes.now (sym c.sizes_ok.ensures ∙ c.if-not-sizes_ok.false)
    (sym c.header_ok.ensures ∙ c.if-not-header_ok.false)
    (sym c.has_parts.ensures ∙ c.if-not-has_parts.false) in
    let paired = sym c.pairs_ok.ensures ∙ c.if-not-pairs_ok.false in
    let part = readings-part a.n a.m a.bytes.now _ _ c.state_length-state_end.ensures c.readings_length.ensures in
    let all = c.checked_readings.ensures.ok ∙ ap (readings_ok a.m) part ∙ judged a.n a.m a.bytes.now paired in
    let none : c.checked_readings.result ≡ None = search rules in
    let bad = sym all ∙ ap is_some none in
    let e = read-malformed a.n a.m a.bytes.now k.sized-test (k.in_parts ∙ bad) in
    let gives : c.from_residual.result ≡ Err Refusal.Frame = search rules in
    rw gives (record { answer = sym e; frame = tt })

pub headed_by-requires-2 : goal.headed_by-requires-2
headed_by-requires-2 c =
    let a = c.args in
    let k =
    found a.n a.m a.bytes.now (sym c.sizes_ok.ensures ∙ c.if-not-sizes_ok.false)
    (sym c.header_ok.ensures ∙ c.if-not-header_ok.false)
    (sym c.has_parts.ensures ∙ c.if-not-has_parts.false) in
    header-there _ _ _ (header-facts _ _ _ k.headed-test)

pub returns : goal.returns
unfolding estimate_at
returns c =
    let a = c.args in
    let k =
    found a.n a.m a.bytes.now (sym c.sizes_ok.ensures ∙ c.if-not-sizes_ok.false)
    (sym c.header_ok.ensures ∙ c.if-not-header_ok.false)
    (sym c.has_parts.ensures ∙ c.if-not-has_parts.false) in
    let paired = sym c.pairs_ok.ensures ∙ c.if-not-pairs_ok.false in
    let part = readings-part a.n a.m a.bytes.now _ _ c.state_length-state_end.ensures c.readings_length.ensures in
    let all = c.checked_readings.ensures.ok ∙ ap (readings_ok a.m) part ∙ judged a.n a.m a.bytes.now paired in
    let some : c.checked_readings.result ≡ Some c.in_ok-readings.readings = search rules in
    let taken = ap is_some some in
    let good = k.in_parts ∙ sym all ∙ taken in
    let e = read_done a.n a.m a.bytes.now k.sized-test good in
    let state = c.read_state-state.ensures ∙ ap (state_in a.n) (state-part a.n a.bytes.now _ c.state_length-state_end.ensures) in
    let readings = (rw some at c.checked_readings.ensures.readings) ∙ ap (readings_in a.m) part in
    record {
      answer = sym e;
      frame =
          c.headed_by-2.ensures
          ∙ (λ i. headed a.bytes.now (record { state = state i; readings = readings i }))
          ∙ sym (frame-read a.n a.m a.bytes.now e ∙ parts-fields a.n a.m a.bytes.now k.parts-test);
    }
