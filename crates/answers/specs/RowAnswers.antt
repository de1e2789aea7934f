-- Promise: the values of answers about rows, as C and Rust see them. The kinds are 1 a field, 2 null, 3 a chapter, 4 unchanged; the sides of a
-- current value are 1 the row, 2 the update data.
-- Assumes nothing.
use Rattle.std.specs.Prelude.{ℕ, List, [], ◌∷◌}
use Rattle.column.specs.declared.field.Field.{Field}
use Rattle.walk.specs.Rows as R
use Rattle.walk.specs.Updates as U

-- a field: its two ends and the prefixes read on the way
abbrev pub field_values : Field → List ℕ
field_values f = f.start ∷ f.end ∷ f.prefixes ∷ []

-- a look-up in a row: the kind, then the field
abbrev pub look_up_values : R.Answer → List ℕ
look_up_values (R.field f) = 1 ∷ field_values f
look_up_values R.null = 2 ∷ []
look_up_values R.chapter = 3 ∷ []

-- a look-up in update data
abbrev pub update_values : U.UpdateAnswer → List ℕ
update_values (U.field f) = 1 ∷ field_values f
update_values U.null = 2 ∷ []
update_values U.chapter = 3 ∷ []
update_values U.unchanged = 4 ∷ []

-- a current value: the kind, the side that answers, then the field
abbrev pub current_values : U.Current → List ℕ
current_values (U.updated f) = 1 ∷ 2 ∷ field_values f
current_values U.forced = 2 ∷ 2 ∷ []
current_values (U.original (R.field f)) = 1 ∷ 1 ∷ field_values f
current_values (U.original R.null) = 2 ∷ 1 ∷ []
current_values (U.original R.chapter) = 3 ∷ 1 ∷ []
