-- Promise: one column: what its type, flags and maximum decide (document 01, "Rows").
-- Assumes nothing.
use Rattle.std.specs.Prelude.{ℕ, ◌*◌, ◌%◌, Bool, true, false, ltb, leb, eqb, Result, Ok, Err}
use Rattle.wire.specs.declared.error.ErrorKind.{ErrorKind}
use Rattle.wire.specs.Errors.{code_of}
use Rattle.wire.specs.Read.{pick}
use Rattle.column.specs.declared.column.Column.{Column}
use Rattle.column.specs.declared.types.Kind.{Kind}
use Rattle.column.specs.Types.{kind_of, width_of, variable_kind, wide_kind, chapter_kind}

abbrev pub kind : Column → Kind
kind c = kind_of c.code

abbrev pub width : Column → ℕ
width c = width_of (kind c)

abbrev pub is_variable : Column → Bool
is_variable c = variable_kind (kind c)

abbrev pub is_wide : Column → Bool
is_wide c = wide_kind (kind c)

abbrev pub is_chapter : Column → Bool
is_chapter c = chapter_kind (kind c)

unfoldable pub is_nullable : Column → Bool
is_nullable c = eqb c.flags 1

-- A stop: a column that is no chapter and is nullable or of variable length. Behind it places depend on the row.
unfoldable pub is_stop : Column → Bool
is_stop c = pick (is_chapter c) false (pick (is_nullable c) true (is_variable c))

-- the bytes of a length: one if the maximum is under 256, else four
unfoldable pub prefix_size : Column → ℕ
prefix_size c = pick (ltb c.maximum 256) 1 4

-- the bytes in front of a field: its length, where it carries one
unfoldable pub prefix_bytes : Column → ℕ
unfolding prefix_size
prefix_bytes c = pick (is_variable c) (prefix_size c) 0

-- the greatest length in bytes: the maximum, in wide text twice the maximum
unfoldable pub greatest : Column → ℕ
greatest c = pick (is_wide c) (2 * c.maximum) c.maximum

-- The error that a length of so many bytes is, by its number; 0 where it is allowed. It may reach the greatest one; some must be even.
unfoldable pub length_error_of : (most : ℕ) (even : Bool) (size : ℕ) → ℕ
length_error_of most even size = pick (leb size most) (pick even (pick (eqb (size % 2) 0) 0 14) 0) 14

-- in a column: that of wide text must be even; a column that carries no length refuses none
unfoldable pub length_error : Column → ℕ → ℕ
length_error c size = pick (is_variable c) (length_error_of (greatest c) (is_wide c) size) 0

-- what the `Result` says
abbrev pub told_length : Result (Unit {0}) ErrorKind → ℕ
told_length (Ok tt) = 0
told_length (Err k) = code_of k
