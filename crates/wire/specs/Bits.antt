-- Promise: maps of bits: presence, update and force-null maps.
-- Assumes nothing.
use Rattle.std.specs.Prelude.{ℕ, ◌+◌, ◌-◌, ◌/◌, ◌%◌, ◌^◌, Bool, get_or, eqb}
use Rattle.wire.specs.Read.{Bytes}

-- bit i of a map, counted from the top bit of its first byte; 0 past its end
unfoldable pub bit_at : Bytes → ℕ → ℕ
bit_at map i = get_or map (i / 8) 0 / 2 ^ (7 - i % 8) % 2

-- that bit is 1
unfoldable pub bit_set : Bytes → ℕ → Bool
unfolding bit_at
bit_set map i = eqb (bit_at map i) 1

-- the bytes that a map of n bits takes
unfoldable pub map_bytes : ℕ → ℕ
map_bytes n = (n + 7) / 8
