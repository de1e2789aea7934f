-- Promise: maps as numbers: the first 64 bits of a map in one number, its first bit on top.
-- Assumes nothing.
use Rattle.std.specs.Prelude.{ℕ, zero, suc, ◌+◌, ◌*◌, ◌-◌, ◌/◌, ◌%◌, ◌^◌, get_or, drop}
use Rattle.wire.specs.Read.{Bytes}

-- the first n bytes of a map, at the top of eight; 0 past the map's end
unfoldable pub top_bytes : Bytes → (n : ℕ) → ℕ
top_bytes map zero = 0
top_bytes map (suc n) = top_bytes map n + get_or map n 0 * 256 ^ (7 - n)

-- the first 64 bits of the map at `at`
unfoldable pub map_bits : Bytes → (at : ℕ) → ℕ
map_bits s at = top_bytes (drop at s) 8

-- bit i of such a number, counted from its top
unfoldable pub top_bit : (bits i : ℕ) → ℕ
top_bit bits i = bits / 2 ^ (63 - i) % 2
