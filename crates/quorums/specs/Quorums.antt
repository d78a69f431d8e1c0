-- The two quorum numbers: "The majority becomes two settings: a, the boxes needed to decide, and b, the boxes heard before a new coordinator proposes, each 2
-- to N".
use Rattle.std.specs.Prelude.{ℕ, ◌+◌, Bool, ◌||◌, leb, ltb}
use Rattle.scram.specs.Quorum.{majority}
use Rattle.quorums.specs.declared.Quorums.{Quorums}

-- a number outside 2 to N
abbrev pub outside : ℕ → ℕ → Bool
outside N number = ltb number 2 || ltb N number

-- 18: "a or b outside 2 to N, or a + b not above N"
unfoldable pub bad_quorums : ℕ → Quorums → Bool
bad_quorums N q = outside N q.to_decide || outside N q.to_propose || leb (q.to_decide + q.to_propose) N

-- the majority, for both
unfoldable pub majorities : ℕ → Quorums
majorities N = record { to_decide = majority N; to_propose = majority N }
