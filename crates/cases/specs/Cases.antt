-- The cases P1 to P10 of document 01, "Cases", with those of document 02, L1, L2 and L8: one table, and one theorem over its rows, about the
-- definitions that the contracts cite.
use Rattle.std.specs.Prelude.{ℕ, ◌≡◌, refl, Bool, true, false, List, [], ◌∷◌, ◌++◌, map, replicate, ℤ, pos, Float, Option, is_some, unwrap_or}
use Rattle.std.specs.Float.{nan, inf, fin, binary32}
use Rattle.std.specs.Float.Ieee.{is_nan, to_bits}
use Rattle.lists.specs.Choice.{pick}
use Rattle.lists.specs.Below.{all_below}
use Rattle.lists.specs.Places.{filled}
use Rattle.lists.specs.Refusals.{first_of}
use Rattle.readings.specs.Readings.{any_mark, mark_beyond}
use Rattle.transmitters.specs.declared.Reading.{Reading}
use Rattle.transmitters.specs.declared.Reading.TheVariants.{Count, Newtons, Missing}
use Rattle.transmitters.specs.Single.{exponent, magnitude, scale, floor, in_units}
use Rattle.transmitters.specs.Conversion.{within_i32, converted_single, converted_newtons, converted, converted_row}
use Rattle.law.specs.Fixed.{minus, divided, sum, limited, clamp}
use Rattle.law.specs.Settings.{sizes_in_range, in_range, table_in_range, coefficients_in_range, limits_in_order, refusals, refusal}
use Rattle.law.specs.Law.{e, next, updated}
use Rattle.frame.specs.declared.Frame.{Frame}
use Rattle.octets.specs.Words.{little_endian}
use Rattle.estimate.specs.Fields.{no_estimate}
use Rattle.estimate.specs.Marks.{bit}
use Rattle.frame.specs.Kinds.{any_of, parts_of, part_count, has_parts}
use Rattle.frame.specs.Format.{header, frame_bytes}
use Rattle.scram.specs.Quorum.{coordinator, beats}
use Rattle.scram.specs.Held.{Best}
use Rattle.scram.specs.Events.{better}
use Rattle.quorums.specs.Quorums.{bad_quorums}
use Rattle.replica.specs.declared.Settings.{Settings}
use Rattle.replica.specs.Settings.{bad_group, settings_refusal}
use Rattle.setup.specs.Bench.{first, bench}

-- a case: what a definition gives, and what document 01 says, each as a list of numbers
pub record Case : Type 0 where
  pub gives : List ℤ
  pub says : List ℤ

abbrev case : List ℤ → List ℤ → Case
case gives says = record { gives = gives; says = says }

-- one number
abbrev one : ℕ → List ℤ
one n = pos n ∷ []

-- the state after one update of state x under the bench's law, with a reading y
abbrev after : ℤ → Bool → ℤ → List ℤ
after x mark y = updated bench.law (first x 5) (record { present = mark ∷ replicate 3 false; values = first y 3 })

-- settings of box 1 of N boxes with quorum numbers a and b, under the bench's law
abbrev settings : (N a b : ℕ) → Settings
settings N a b = record { boxes = N; own = 1; quorums = record { to_decide = a; to_propose = b }; law = bench.law }

-- an Ack of box 2, period 1, view 0
abbrev ack : Frame
ack = record {
  kind = 2;
  sender = 2;
  period = 1;
  view = 0;
  base_view = 0;
  base_period = 0;
  estimate = no_estimate;
}

-- an estimate heard from a box, with its bases; the state stands for the box
abbrev estimate : ℕ → ℕ → ℕ → Best ℕ ℕ
estimate box base_view base_period = record {
  any = true;
  box = box;
  base_view = base_view;
  base_period = base_period;
  estimate = record { state = box; readings = 0 };
}

-- ± m × 2^-k
abbrev over : Bool → ℕ → ℕ → Float
over negative m k = fin negative m (minus k)

-- what is read of a reading: its mark, and its count, 0 where it is missing
abbrev told : Option ℤ → List ℤ
told c = pos (bit (is_some c)) ∷ unwrap_or c (pos 0) ∷ []

-- the bits of a single, what is read of it as a reading, and what is read of its bits
abbrev sent : Float → List ℤ
sent x = pos (to_bits binary32 x) ∷ told (converted (Newtons x)) ++ told (converted_single (to_bits binary32 x))

-- these bits, and a count
abbrev reads : ℕ → ℤ → List ℤ
reads bits z = pos bits ∷ pos 1 ∷ z ∷ pos 1 ∷ z ∷ []

-- these bits, and no reading
abbrev missing : ℕ → List ℤ
missing bits = pos bits ∷ pos 0 ∷ pos 0 ∷ pos 0 ∷ pos 0 ∷ []

-- what 7 finds at m = 1 with a reading in place 1, counted from 0: whether it refuses
abbrev beyond : Reading → List ℤ
beyond r = one (bit (mark_beyond 1 (converted_row (Missing ∷ r ∷ Missing ∷ Missing ∷ []))))

-- P1 "bench law, x 0, y 101: 50." P2 "y −101", which "becomes −50". P3 "x 50, y 101", which "becomes 76". P4 "x 50, absent: 50.", with a value
-- under the absent mark. P5 "x −2147483648, y 2147483647", which "becomes −1073741824". "With bench settings and x 0, y 101 gives 50 and 103 gives 52":
-- 101 is P1, 103 has a row of its own. P6, which "becomes: N 4, a 2, b 2 refused by 18". P7 "N 3, view 2: box 3."
-- P8 "Ack of box 2, period 1, view 0: `02 02 00 00 01`, then fifteen `00`."
-- P9 "estimate with base view 5, period 3 beats 4, 4", also where its box has the higher number.
-- P10 "equal bases from boxes 2 and 3: box 2's", whichever is heard first.
-- Then singles: 1.5 N, −0.0, the smallest subnormals of both signs, the largest single below 32768, 32768.0, −32768.0, the next below it, both
-- infinities, a NaN, −1.0/65536 and −1.5/65536.
-- "7 looks at them converted": at or above m a count of 0 and −0.0 are there, a NaN and 32768.0 N are not.
abbrev pub cases : List Case
cases =
    case (after (pos 0) true (pos 101)) (first (pos 50) 5)
    ∷ case (after (pos 0) true (minus 101)) (first (minus 50) 5)
    ∷ case (after (pos 50) true (pos 101)) (first (pos 76) 5)
    ∷ case (after (pos 50) false (pos 101)) (first (pos 50) 5)
    ∷ case (after (minus 2147483648) true (pos 2147483647)) (first (minus 1073741824) 5)
    ∷ case (after (pos 0) true (pos 103)) (first (pos 52) 5)
    ∷ case (one (settings_refusal (settings 4 2 2))) (one 18)
    ∷ case (one (coordinator 3 2)) (one 3)
    ∷ case (map pos (frame_bytes 1 1 ack)) (map pos (2 ∷ 2 ∷ 0 ∷ 0 ∷ 1 ∷ replicate 15 0))
    ∷ case (one (better (estimate 1 4 4) (estimate 9 5 3)).estimate.state) (one 9)
    ∷ case (pos (better (estimate 3 1 1) (estimate 2 1 1)).estimate.state ∷ one (better (estimate 2 1 1) (estimate 3 1 1)).estimate.state) (pos 2 ∷ one 2)
    ∷ case (sent (over false 3 1)) (reads 0x3fc0_0000 (pos 98304))
    ∷ case (sent (over true 0 0)) (reads 0x8000_0000 (pos 0))
    ∷ case (sent (over false 1 149)) (reads 0x0000_0001 (pos 0))
    ∷ case (sent (over true 1 149)) (reads 0x8000_0001 (minus 1))
    ∷ case (sent (over false 16777215 9)) (reads 0x46ff_ffff (pos 2147483520))
    ∷ case (sent (fin false 1 (pos 15))) (missing 0x4700_0000)
    ∷ case (sent (fin true 1 (pos 15))) (reads 0xc700_0000 (minus 2147483648))
    ∷ case (sent (over true 8388609 8)) (missing 0xc700_0001)
    ∷ case (sent (inf false)) (missing 0x7f80_0000)
    ∷ case (sent (inf true)) (missing 0xff80_0000)
    ∷ case (sent nan) (missing 0x7fc0_0000)
    ∷ case (sent (over true 1 16)) (reads 0xb780_0000 (minus 1))
    ∷ case (sent (over true 3 17)) (reads 0xb7c0_0000 (minus 2))
    ∷ case (beyond (Count (pos 0)) ++ beyond (Newtons (over true 0 0))) (pos 1 ∷ one 1)
    ∷ case (beyond (Newtons nan) ++ beyond (Newtons (fin false 1 (pos 15)))) (pos 0 ∷ one 0)
    ∷ []

-- every row holds
pub cases-hold : map (λ (c : Case). c.gives) cases ≡ map (λ (c : Case). c.says) cases
unfolding updated refusal refusals first_of sizes_in_range coefficients_in_range table_in_range all_below in_range limits_in_order filled next e sum divided
    limited clamp settings_refusal bad_group bad_quorums coordinator frame_bytes header part_count has_parts parts_of any_of little_endian better beats pick
    converted_row converted converted_newtons converted_single within_i32 in_units floor scale magnitude exponent is_nan to_bits mark_beyond any_mark
cases-hold = refl
