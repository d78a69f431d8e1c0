-- The settings' part of a record: its bytes, and the settings in it. The seven tables stand whole, as they were given, also in places that are not in
-- use: making keeps them so.
use Rattle.std.specs.Prelude.{ℕ, ◌+◌, ◌*◌, ◌/◌, ◌%◌, List, [], ◌∷◌, ◌++◌, get_or, ℤ, pos}
use Rattle.lists.specs.Places.{filled}
use Rattle.octets.specs.Words.{part, value_length, values_bytes, value_at}
use Rattle.law.specs.declared.Settings as Law
use Rattle.quorums.specs.declared.Quorums.{Quorums}
use Rattle.replica.specs.declared.Settings.{Settings}

-- ---- as bytes

-- byte 0, the letter R: no frame and no command starts with it
abbrev pub letter : ℕ
letter = 82

-- byte 1, the version of the layout
abbrev pub version : ℕ
version = 2

-- byte 7, the quorum numbers: a in its four low bits and b in its four high ones. Neither is above 9 where 18 does not refuse them
abbrev pub quorums_byte : Quorums → ℕ
quorums_byte q = q.to_decide + 16 * q.to_propose

-- the eight bytes before the tables
unfoldable pub head_bytes : Settings → List ℕ
head_bytes s = letter ∷ version ∷ s.boxes ∷ s.own ∷ s.law.n ∷ s.law.m ∷ s.law.p ∷ quorums_byte s.quorums ∷ []

-- the tables, one after the other
unfoldable pub tables_bytes : Law.Settings → List ℕ
tables_bytes law =
    values_bytes law.a
    ++ values_bytes law.l
    ++ values_bytes law.c
    ++ values_bytes law.k
    ++ values_bytes law.low
    ++ values_bytes law.high
    ++ values_bytes law.start

-- the settings' part: N, the own number, the sizes and the quorum numbers, then the tables
unfoldable pub settings_bytes : Settings → List ℕ
settings_bytes s = head_bytes s ++ tables_bytes s.law

-- ---- and back

-- as many i32 values from an offset on
unfoldable pub values_at : List ℕ → (at count : ℕ) → List ℤ
values_at b at count = filled (pos 0) count count (value_at (part b at (value_length * count)))

-- the law's settings in a record
unfoldable pub law_in : List ℕ → Law.Settings
law_in b = record {
  n = get_or b 4 0;
  m = get_or b 5 0;
  p = get_or b 6 0;
  a = values_at b 8 36;
  l = values_at b 152 24;
  c = values_at b 248 24;
  k = values_at b 344 24;
  low = values_at b 440 4;
  high = values_at b 456 4;
  start = values_at b 472 6;
}

-- the quorum numbers in byte 7
abbrev pub quorums_in : ℕ → Quorums
quorums_in byte = record { to_decide = byte % 16; to_propose = byte / 16 }

-- the settings in a record
unfoldable pub settings_in : List ℕ → Settings
settings_in b = record { boxes = get_or b 2 0; own = get_or b 3 0; quorums = quorums_in (get_or b 7 0); law = law_in b }
