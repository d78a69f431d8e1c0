-- An area after bytes were written to it.
use Rattle.std.specs.Prelude.{ℕ, ◌+◌, List, ◌++◌, length, take, drop}

-- an area after `written` was put into it at offset i
unfoldable pub put : List ℕ → ℕ → List ℕ → List ℕ
put area i written = take i area ++ (written ++ drop (i + length written) area)

-- an area after `written` was put to its start: "Bytes behind anything written keep what they held."
abbrev pub over : List ℕ → List ℕ → List ℕ
over written area = written ++ drop (length written) area
