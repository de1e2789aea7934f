-- Promise: when two schemas have the same columns, as demand 3 says it.
-- Assumes nothing.
use Rattle.std.specs.Prelude.{ℕ, ◌<◌, List, ◌≡◌, length, get_or}
use Rattle.column.specs.declared.column.Column.{Column}
use Rattle.column.specs.Columns.{is_nullable}
use Rattle.walk.specs.Presence.{no_column}

-- they agree in column count and, place by place, in type, nullability and maximum length
pub record Agree (cs ds : List Column) : Type 0 where
  pub count : length cs ≡ length ds
  pub type : (i : ℕ) → i < length cs → (get_or cs i no_column).code ≡ (get_or ds i no_column).code
  pub nullable : (i : ℕ) → i < length cs → is_nullable (get_or cs i no_column) ≡ is_nullable (get_or ds i no_column)
  pub maximum : (i : ℕ) → i < length cs → (get_or cs i no_column).maximum ≡ (get_or ds i no_column).maximum
