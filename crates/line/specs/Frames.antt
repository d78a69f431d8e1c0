-- The frames that lines sent: a table in which line f has the `slot` bytes from `slot` × f on, and a list with the length of its frame at place
-- f, 0 where it sent none.
use Rattle.std.specs.Prelude.{ℕ, ◌+◌, ◌*◌, Bool, ◌&&◌, List, length, get_or, take, drop, leb, ltb}
use Rattle.lists.specs.Choice.{pick}
use Rattle.octets.specs.Areas.{put}

-- the bytes that a line has in the table: "the longest frame has 69"
abbrev pub slot : ℕ
slot = 69

-- at line `number`, line f is an earlier line that sent a frame: "unsent frames print .. `bad`"
unfoldable pub was_sent : List ℕ → ℕ → ℕ → Bool
was_sent lengths number f = ltb 0 f && (ltb f number && ltb 0 (get_or lengths f 0))

-- the frame of so many bytes that line f sent
unfoldable pub frame_of : List ℕ → ℕ → ℕ → List ℕ
frame_of table f size = take size (drop (slot * f) table)

-- the table with the frame of line `number`
unfoldable pub kept_frame : List ℕ → ℕ → List ℕ → List ℕ
kept_frame table number frame = put table (slot * number) frame

-- a frame of so many bytes of an area has room: it fits the line's slot, and the table has that
unfoldable pub frame_fits : (table number frame size : ℕ) → Bool
frame_fits table number frame size = leb size frame && (leb size slot && leb (slot * number + size) table)

-- the table after line `number`, which sent the first bytes of an area
unfoldable pub kept : List ℕ → ℕ → List ℕ → ℕ → List ℕ
kept table number frame size = pick (frame_fits (length table) number (length frame) size) (kept_frame table number (take size frame)) table
