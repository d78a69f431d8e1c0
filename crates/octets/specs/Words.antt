-- Numbers as bytes. A list of bytes has elements from 0 to 255.
use Rattle.std.specs.Prelude.{ℕ, zero, suc, ◌+◌, ◌*◌, ◌/◌, ◌%◌, ◌-◌, ◌<◌, List, [], ◌∷◌, ◌++◌, get_or, take, drop, ℤ, pos, negsuc, ltb}
use Rattle.lists.specs.Choice.{pick}

-- every element is a byte
unfoldable pub AllBytes : List ℕ → Type 0
AllBytes bytes = (i : ℕ) → get_or bytes i 0 < 256

-- "Frame numbers are little-endian": the lowest k bytes of x, the lowest first
unfoldable pub little_endian : ℕ → ℕ → List ℕ
little_endian zero x = []
little_endian (suc k) x = x % 256 ∷ little_endian k (x / 256)

-- the number that bytes spell, the lowest byte first
unfoldable pub spelled : List ℕ → ℕ
spelled [] = zero
spelled (b ∷ bs) = b + 256 * spelled bs

-- the part of bytes that starts at offset i and is k long
abbrev pub part : List ℕ → ℕ → ℕ → List ℕ
part bytes i k = take k (drop i bytes)

-- the number in the k bytes from offset i on
unfoldable pub number_at : ℕ → List ℕ → ℕ → ℕ
number_at k bytes i = spelled (part bytes i k)

-- "i32 is two's complement": z itself, and 4294967296 + z where z is negative; `negsuc k` is −(k + 1)
unfoldable pub twos_complement : ℤ → ℕ
twos_complement (pos k) = k
twos_complement (negsuc k) = 4294967296 - suc k

-- and back: x itself below 2147483648, and from there on x − 4294967296
unfoldable pub from_twos_complement : ℕ → ℤ
from_twos_complement x = pick (ltb x 2147483648) (pos x) (negsuc (4294967296 - suc x))

-- the bytes of an i32 value
abbrev pub value_length : ℕ
value_length = 4

-- i32 values, one after the other
unfoldable pub values_bytes : List ℤ → List ℕ
values_bytes [] = []
values_bytes (z ∷ zs) = little_endian value_length (twos_complement z) ++ values_bytes zs

-- the i32 value number i of a part, counted from 0
unfoldable pub value_at : List ℕ → ℕ → ℤ
value_at bytes i = from_twos_complement (number_at value_length bytes (value_length * i))
