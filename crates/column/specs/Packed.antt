-- Promise: a column in one number: its type code, its flags and its maximum in the low 32 bits. What stands above them is its holder's.
-- Assumes nothing.
use Rattle.std.specs.Prelude.{ℕ, zero, suc, ◌+◌, ◌*◌, ◌/◌, ◌%◌, List, [], ◌∷◌, get_or}
use Rattle.column.specs.declared.column.Column.{Column}

unfoldable pub packed_column : Column → ℕ
packed_column c = c.code + 256 * c.flags + 65536 * c.maximum

-- and its parts again
abbrev pub unpacked_column : ℕ → Column
unpacked_column n = record { code = n % 256; flags = n / 256 % 256; maximum = n / 65536 % 65536 }

-- column i of a list of such numbers
abbrev pub packed_at : List ℕ → ℕ → Column
packed_at slots i = unpacked_column (get_or slots i 0)

-- n columns of such a list from column i on
unfoldable pub packed_from : (n i : ℕ) → List ℕ → List Column
packed_from zero i slots = []
packed_from (suc n) i slots = packed_at slots i ∷ packed_from n (i + 1) slots
