-- Promise: whole numbers on the wire: little-endian. Every integer of the format is read by `int_at` and written by `int_bytes`.
-- Assumes nothing.
use Rattle.std.specs.Prelude.{ℕ, zero, suc, ◌+◌, ◌*◌, ◌/◌, ◌%◌, [], ◌∷◌}
use Rattle.wire.specs.Read.{Bytes, Read, ok, ◌>>=◌, cut, whole}

-- the number that these bytes say, low byte first
unfoldable pub value_of : Bytes → ℕ
value_of [] = 0
value_of (b ∷ bs) = b + 256 * value_of bs

-- the number of `size` bytes at `at`
unfoldable pub int_at : Bytes → ℕ → ℕ → ℕ
int_at s at size = value_of (cut s at size)

-- the same as a reader: its bytes must be there
unfoldable pub read_int : Bytes → ℕ → ℕ → Read ℕ
read_int s at size = do
  _ ← whole s at size
  ok (int_at s at size)

-- the `size` bytes of a number
unfoldable pub int_bytes : ℕ → ℕ → Bytes
int_bytes zero n = []
int_bytes (suc size) n = n % 256 ∷ int_bytes size (n / 256)
