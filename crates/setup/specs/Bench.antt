-- The bench's settings (document 01, "The bench").
use Rattle.std.specs.Prelude.{ℕ, List, ◌∷◌, replicate, ℤ, pos}
use Rattle.law.specs.declared.Settings as Law
use Rattle.law.specs.Fixed.{minus}
use Rattle.replica.specs.declared.Settings.{Settings}

-- a list with z in the first place and 0 in `others` more
abbrev pub first : ℤ → ℕ → List ℤ
first z others = z ∷ replicate others (pos 0)

-- "n = m = p = 1; A, C, K hold 65536, L 32768; widest limits; start 0"
abbrev pub bench_law : Law.Settings
bench_law = record {
  n = 1;
  m = 1;
  p = 1;
  a = first (pos 65536) 35;
  l = first (pos 32768) 23;
  c = first (pos 65536) 23;
  k = first (pos 65536) 23;
  low = first (minus 2147483648) 3;
  high = first (pos 2147483647) 3;
  start = first (pos 0) 5;
}

-- "N = 3", and of a and b "on the bench 2 and 2", at box 1
abbrev pub bench : Settings
bench = record { boxes = 3; own = 1; quorums = record { to_decide = 2; to_propose = 2 }; law = bench_law }
