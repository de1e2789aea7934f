-- Inner: where row data end, as code asks.
-- Assumes nothing.
use Rattle.std.specs.Prelude.{ℕ, zero, suc, List, Bool, ◌≡◌, Option, Some, None}
use Rattle.wire.specs.Read.{Bytes, Read, ok}
use Rattle.column.specs.declared.column.Column.{Column}
use Rattle.walk.specs.Data.{data_end, data_opened, data_passed}
use Rattle.shapes.specs.Masks.{Shape}

-- An end that is told is the end of row data of any columns that have the shape.
abbrev pub QuickEnd : (shapes : List ℕ) (k : ℕ) (update : Bool) → Bytes → (start : ℕ) → Option ℕ → Type 0
QuickEnd shapes k update s start (Some e) = (cs : List Column) → Shape shapes k cs → data_end update cs s start ≡ ok e
QuickEnd shapes k update s start None = Unit {0}

-- turn number i over row data: they are opened, then column by column passed
abbrev pub turned : (update : Bool) → List Column → Bytes → (start at i : ℕ) → Read ℕ
turned update cs s start at zero = data_opened update cs s start
turned update cs s start at (suc i) = data_passed update cs s start i at
