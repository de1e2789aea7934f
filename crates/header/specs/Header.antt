-- Promise: the header (document 01, "Header and handler options"): nine bytes, checked from left to right.
-- Assumes nothing.
use Rattle.std.specs.Prelude.{ℕ, [], ◌∷◌, ◌++◌, leb, eqb}
use Rattle.wire.specs.declared.error.Input.TheVariants as input
use Rattle.wire.specs.Read.{Bytes, Read, ok, ◌>>=◌, check, about, sized, byte_at, constants}
use Rattle.wire.specs.Output.{fitting}
use Rattle.header.specs.declared.header.Header.{Header}

-- 01; 07; "TG!"
abbrev pub signature : Bytes
signature = 0x01 ∷ 0x07 ∷ 0x54 ∷ 0x47 ∷ 0x21 ∷ []

abbrev pub header_as : ℕ → ℕ → ℕ → ℕ → ℕ → Header
header_as major minor order unicode end = record { major = major; minor = minor; order = order; unicode = unicode; end = end }

-- after the constant bytes: two versions of any value, byte order 00 only (3), unicode 00 or 01 (3)
unfoldable pub header_fields : Bytes → Read Header
header_fields s = do
  major ← byte_at s 5
  minor ← byte_at s 6
  order ← byte_at s 7
  _ ← check (eqb order 0) 3 7
  unicode ← byte_at s 8
  _ ← check (leb unicode 1) 3 8
  ok (header_as major minor order unicode 9)

-- the header at the start of an input, or the first error
unfoldable pub header_of : Bytes → Read Header
unfolding header_fields
header_of s = do
  _ ← sized s
  _ ← constants s 0 signature
  header_fields s

-- the bytes of a header
abbrev pub header_bytes : ℕ → ℕ → ℕ → ℕ → Bytes
header_bytes major minor order unicode = signature ++ (major ∷ minor ∷ order ∷ unicode ∷ [])

-- What the writer writes into an output of some capacity: values are refused as the reader would, then the room is checked.
unfoldable pub header_written : ℕ → ℕ → ℕ → ℕ → ℕ → Read Bytes
header_written major minor order unicode capacity = do
  _ ← about input.Order (check (eqb order 0) 3 7)
  _ ← about input.Unicode (check (leb unicode 1) 3 8)
  fitting (header_bytes major minor order unicode) capacity
