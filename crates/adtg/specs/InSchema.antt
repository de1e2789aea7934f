-- Promise: a question about the columns of one schema of a file, with other inputs beside it.
-- Assumes nothing.
use Rattle.std.specs.Prelude.{ℕ, ◌≡◌, List, map, Result, Ok, Err}
use Rattle.wire.specs.declared.error.Error.{Error}
use Rattle.wire.specs.Read.{Bytes, Read, ok, refused, ◌>>=◌}
use Rattle.column.specs.declared.column.Column.{Column}
use Rattle.column.specs.declared.columns.Columns.{Columns}
use Rattle.column.specs.Layout.{columns_in}
use Rattle.tree.specs.Schemas.{as_column}
use Rattle.questions.specs.Questions.{with_schema, told_slots, Few}

-- one check after the other: the first error
abbrev pub both : Read (Unit {0}) → Read (Unit {0}) → Read (Unit {0})
both first second = do
  _ ← first
  second

-- The common order of checks: the file's size (19), the other inputs' sizes, the file's own errors, the schema number (18), then what is
-- asked of the schema's columns.
abbrev pub in_schema : {A : Type 0} → Bytes → (sizes : Read (Unit {0})) → ℕ → (List Column → Read A) → Read A
in_schema file sizes number ask = with_schema file sizes number (λ schemas columns. ask (map as_column columns))

-- Inner.

-- the columns themselves
abbrev pub listed : Bytes → (sizes : Read (Unit {0})) → ℕ → Read (List Column)
listed file sizes number = in_schema file sizes number (λ columns. ok columns)

-- what was read says them: by value, or in slots
abbrev pub told_columns : Result Columns Error → Read (List Column)
told_columns (Ok columns) = ok (columns_in columns)
told_columns (Err e) = refused e

pub record SlotsBeside (file : Bytes) (sizes : Read (Unit {0})) (number : ℕ) (slots : List ℕ) (r : Result ℕ Error) : Type 0 where
  pub answers : told_slots r slots ≡ listed file sizes number
  pub few : Few r
