-- Promise: stops: what is needed to go over a column whose field depends on the row, in a record and in one number.
-- Assumes nothing.
use Rattle.std.specs.Prelude.{ℕ, ◌+◌, ◌*◌, ◌-◌, ◌/◌, ◌%◌, ◌<◌, Bool, true, false, length, leb, eqb}
use Rattle.wire.specs.Read.{Bytes, pick}
use Rattle.wire.specs.Integers.{int_at}
use Rattle.column.specs.declared.column.Column.{Column}
use Rattle.column.specs.Columns.{width, is_variable, is_wide, prefix_size, greatest, length_error_of}

-- A stop: the bytes from the end of the last stop up to it; its bit in the map, and whether that bit decides on its field (else the field is
-- there); whether it carries a length, in four bytes or in one, which must be even or need not; the bytes of that prefix, or of the whole
-- field where it has none; the greatest length.
pub record Stop : Type 0 where
  pub gap : ℕ
  pub bit : ℕ
  pub free : Bool
  pub variable : Bool
  pub long : Bool
  pub even : Bool
  pub size : ℕ
  pub most : ℕ

-- the stop of a column with this gap and this bit; one whose field is always there has the last bit, which is not asked for
unfoldable pub stop_of : (free : Bool) → Column → (gap bit : ℕ) → Stop
stop_of free c gap bit =
    record {
      gap = gap;
      bit = pick free bit 63;
      free = free;
      variable = is_variable c;
      long = eqb (prefix_size c) 4;
      even = is_wide c;
      size = pick (is_variable c) (prefix_size c) (width c);
      most = greatest c;
    }

-- the bytes of its length
abbrev pub prefix_of : Stop → ℕ
prefix_of t = pick t.long 4 1

-- A stop in one number, from the lowest bit up: its gap (16 bits), 63 less its bit (6), four flags (variable, long, even, free), one bit of
-- nothing, its size (5), its greatest length (32).
abbrev pub flag : Bool → ℕ
flag true = 1
flag false = 0

unfoldable pub stop_word : Stop → ℕ
stop_word t =
    t.gap + 65536 * (63 - t.bit) + 4194304 * flag t.variable + 8388608 * flag t.long + 16777216 * flag t.even
    + 33554432 * flag t.free + 134217728 * t.size + 4294967296 * t.most

-- and its parts again
unfoldable pub stop_in : ℕ → Stop
stop_in n =
    record {
      gap = n % 65536;
      bit = 63 - n / 65536 % 64;
      free = eqb (n / 33554432 % 2) 1;
      variable = eqb (n / 4194304 % 2) 1;
      long = eqb (n / 8388608 % 2) 1;
      even = eqb (n / 16777216 % 2) 1;
      size = n / 134217728 % 32;
      most = n / 4294967296;
    }

-- a row has a field of a stop, by the bits of its map
abbrev pub there : (on : ℕ → Bool) → Stop → Bool
there on t = pick t.free (on t.bit) true

-- the length that the prefix at p says; 0 where the prefix is not whole
unfoldable pub length_at : Stop → Bytes → (p : ℕ) → ℕ
length_at t s p = pick (leb (p + prefix_of t) (length s)) (int_at s p (prefix_of t)) 0

-- the bytes that a field at p takes, with its prefix
unfoldable pub span_at : Stop → Bytes → (p : ℕ) → ℕ
span_at t s p = pick t.variable (prefix_of t + length_at t s p) t.size

-- the error that the length of a field at p is, by its number; 0 where it is allowed or the field has none
unfoldable pub span_error : Stop → Bytes → (p : ℕ) → ℕ
span_error t s p = pick t.variable (length_error_of t.most t.even (length_at t s p)) 0

-- Inner.

-- the flags of a column's stop, in their places
unfoldable pub stop_flags : (free : Bool) → Column → ℕ
stop_flags free c =
    4194304 * flag (is_variable c) + 8388608 * flag (eqb (prefix_size c) 4) + 16777216 * flag (is_wide c) + 33554432 * flag free

-- the parts of a stop have room in its number
pub record Fits (t : Stop) : Type 0 where
  pub gap : t.gap < 65536
  pub bit : t.bit < 64
  pub size : t.size < 32
  pub most : t.most < 4294967296

-- what stands for the stop at a number past the last
abbrev pub no_stop : Stop
no_stop = record { gap = 0; bit = 0; free = false; variable = false; long = false; even = false; size = 0; most = 0 }
