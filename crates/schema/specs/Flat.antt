-- Promise: a file of one schema, read into slots without a table. What is said is what the reader that fills a table says.
-- Assumes nothing.
use Rattle.std.specs.Prelude.{ℕ, ◌≤◌, ◌≡◌, List, ◌++◌, length, take, drop, set, Option, Some, None}
use Rattle.wire.specs.Read.{Bytes, ok}
use Rattle.column.specs.Layout.{most_columns}
use Rattle.tree.specs.Table.{table_size, schema_slot, block}
use Rattle.tree.specs.Filling.{filled, fill_file}

-- a table with n slots laid over its first numbers
abbrev pub laid_over : (n : ℕ) (slots table : List ℕ) → List ℕ
laid_over n slots table = take n slots ++ drop n table

-- a file of one schema with n columns, which are in the slots
pub record Flat (b : Bytes) (slots : List ℕ) (n : ℕ) : Type 0 where
  pub some : 1 ≤ n
  pub few : n ≤ most_columns
  pub long : length slots ≡ 64
  pub reads : (table : List ℕ) → length table ≡ table_size →
      fill_file b table ≡ ok (filled (length b) n 1 (laid_over n slots (set table (schema_slot 0) (block 0 n 0))))

-- what is said of a file: so many columns, or nothing
abbrev pub SaysFlat : Bytes → List ℕ → Option ℕ → Type 0
SaysFlat b slots None = Unit {0}
SaysFlat b slots (Some n) = Flat b slots n
