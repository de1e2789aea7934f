-- Inner: what opening a section promises, and each pass over it, whatever room the table has.
-- Assumes nothing.
use Rattle.std.specs.Prelude.{ℕ, ◌+◌, ◌*◌, ◌≤◌, ◌≡◌, List, [], ◌∷◌, length, Result, Ok, Err}
use Rattle.wire.specs.declared.error.Error.{Error}
use Rattle.wire.specs.declared.error.Input.TheVariants as input
use Rattle.wire.specs.Read.{Bytes, ok, about, refused, told}
use Rattle.wire.specs.Output.{put}
use Rattle.tree.specs.Schemas.{Schema, column_count}
use Rattle.tree.specs.Table.{schemas_in}
use Rattle.schema.specs.declared.reader.Place.{Place}
use Rattle.grammar.specs.Grammar.{Row}
use Rattle.grammar.specs.Reader.{section}
use Rattle.section.specs.Table.{row_numbers, row_count, rows_checked}
use Rattle.shapes.specs.Shapes.{Sound}
use Rattle.shapes.specs.Masks.{Shaped}
use Rattle.quick.specs.Quick.{RowStep}
use Rattle.section.specs.Sizes.{NotedSome}

-- The schemas of a section's file are in the slots.
pub record Slotted (file s : Bytes) (slots : List ℕ) (p : Place) : Type 0 where
  pub reads : rows_checked file s ≡ about input.Section (section (schemas_in 0 p.schemas slots) s)
  pub sound : Sound slots p.schemas
  pub columns : column_count (schemas_in 0 p.schemas slots) ≡ p.columns
  pub sized : length s ≤ 16777216

-- What reading that file comes to.
abbrev pub Opened : (file s : Bytes) (slots : List ℕ) → Result Place Error → Type 0
Opened file s slots (Ok p) = Slotted file s slots p
Opened file s slots (Err e) = rows_checked file s ≡ refused e

-- What a pass is given: a table of slots, what was made of it, a section that is not over the limit, and the step from parent to parent, or 0.
pub record Ready (slots shapes : List ℕ) (n : ℕ) (s : Bytes) (step : ℕ) : Type 0 where
  pub sound : Sound slots n
  pub shaped : Shaped slots shapes n
  pub sized : length s ≤ 16777216
  pub steps : RowStep shapes step
  pub short : step ≤ 65536

-- a table with rows laid into it, the first as row i; a row that does not fit leaves it
unfoldable pub laid_from : ℕ → List Row → List ℕ → List ℕ
laid_from i [] table = table
laid_from i (r ∷ rs) table = laid_from (i + 1) rs (put table (4 * i) (row_numbers r))

-- The pass that checks answers how many rows or the first error, and where it is no error notes sizes.
pub record Scanned (S : List Schema) (s : Bytes) (step : ℕ) (sizes : List ℕ) (answer : Result ℕ Error) : Type 0 where
  pub answers : told answer ≡ row_count (section S s)
  pub notes : (rows : List Row) → section S s ≡ ok rows → NotedSome step S s sizes

-- the rows of a section that was accepted are laid into the table
abbrev pub Filled : List Schema → (s : Bytes) (entry exit : List ℕ) → Type 0
Filled S s entry exit = (rows : List Row) → section S s ≡ ok rows → exit ≡ laid_from 0 rows entry
