-- The ranges of n, m and p, outside of which a call refuses by 2.
use Rattle.std.specs.Prelude.{ℕ, Bool, ◌&&◌, leb}

-- "n states (1 to 6), m readings .. (.. 1 to 4)"
unfoldable pub sizes_ok : ℕ → ℕ → Bool
sizes_ok n m = leb 1 n && (leb n 6 && (leb 1 m && leb m 4))

-- "p commands (.. 1 to 4)"
unfoldable pub commands_ok : ℕ → Bool
commands_ok p = leb 1 p && leb p 4
