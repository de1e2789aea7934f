-- Promise: what demand 2 says of a row section and the table that a caller lends for its rows.
-- Assumes nothing.
use Rattle.std.specs.Prelude.{ℕ, ◌+◌, ◌*◌, ◌≤◌, ◌≡◌, List, ◌++◌, length, get_or, drop}
use Rattle.wire.specs.Read.{Bytes, ok, limit}
use Rattle.tree.specs.Schemas.{Schema, read_schemas}
use Rattle.grammar.specs.Grammar.{Row, entry}
use Rattle.section.specs.Table.{table_numbers}

-- The premises: a valid schema file, with these schemas, and a section within the limit.
pub record Given (file s : Bytes) (S : List Schema) : Type 0 where
  pub valid : read_schemas file ≡ ok S
  pub within : length s ≤ limit

-- a table that lists rows: their numbers, then what it held
abbrev pub listing : List Row → List ℕ → List ℕ
listing rs table = table_numbers rs ++ drop (4 * length rs) table

-- row i of a table, as a caller reads it
abbrev pub row_in : List ℕ → ℕ → Row
row_in table i = entry (get_or table (4 * i) 0) (get_or table (4 * i + 1) 0) (get_or table (4 * i + 2) 0) (get_or table (4 * i + 3) 0)
