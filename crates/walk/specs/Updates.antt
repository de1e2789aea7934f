-- Promise: update data (document 01, "Rows"), and the current value of a changed row ("Looking up a field").
-- Assumes nothing.
use Rattle.std.specs.Prelude.{ℕ, suc, ◌+◌, ◌*◌, List, [], ◌∷◌, Bool, true, false, not, length, get_or, take, drop}
use Rattle.wire.specs.declared.error.Input.TheVariants as input
use Rattle.wire.specs.Read.{Bytes, Read, ok, ◌>>=◌, pick, about, sized, whole}
use Rattle.wire.specs.Bits.{bit_set, map_bytes}
use Rattle.column.specs.declared.column.Column.{Column}
use Rattle.column.specs.declared.field.Field.{Field}
use Rattle.column.specs.Columns.{is_chapter, is_nullable}
use Rattle.walk.specs.Presence.{no_column, Mark, mark, clear, count}
use Rattle.walk.specs.Rows.{Place, place, walk, arrive, Answer, known, look_up, prefixed}

-- each column with its bit in an update map and in a force-null map, from bit i on: one bit a column
unfoldable pub numbered : ℕ → List Column → List Mark
numbered i [] = []
numbered i (c ∷ cs) = mark c i ∷ numbered (suc i) cs

-- the bytes of one of the two maps; the force-null map follows the update map
unfoldable pub update_bytes : List Column → ℕ
update_bytes cs = map_bytes (length cs)

-- the bit of a chapter is set in a map of update data, which must not be
unfoldable pub chapter_marked : Bytes → Mark → Bool
chapter_marked map m = pick (is_chapter m.column) (bit_set map m.bit) false

-- Force 1 without update 1, or in a column that is not nullable: the force rule is broken.
unfoldable pub force_broken : (update force : Bytes) → Mark → Bool
force_broken update force m = pick (bit_set force m.bit) (pick (bit_set update m.bit) (not (is_nullable m.column)) true) false

-- update 1 and force 0: the update data hold a field of the column
unfoldable pub carried : (update force : Bytes) → Mark → Bool
carried update force m = pick (bit_set update m.bit) (not (bit_set force m.bit)) false

-- the same of the update data at `at`
unfoldable pub carried_in : List Column → Bytes → ℕ → Mark → Bool
carried_in columns row at m = carried (drop at row) (drop (at + update_bytes columns) row) m

-- The update data at `at` open: both maps are whole (1), no chapter's bit is set in the update map, nor in the force-null map (12),
-- the force rule is kept (13). Where the fields start.
unfoldable pub update_opened : List Column → Bytes → ℕ → Read ℕ
update_opened columns row at = do
  start ← whole row at (2 * update_bytes columns)
  _ ← clear (chapter_marked (drop at row)) 12 at (numbered 0 columns)
  _ ← clear (chapter_marked (drop (at + update_bytes columns) row)) 12 (at + update_bytes columns) (numbered 0 columns)
  _ ← clear (force_broken (drop at row) (drop (at + update_bytes columns) row)) 13 (at + update_bytes columns) (numbered 0 columns)
  ok start

-- the walk of update data at `at` over the first k columns: from behind the maps, no prefix counted
unfoldable pub update_walked : List Column → Bytes → ℕ → ℕ → Read Place
update_walked columns row at k = walk (carried_in columns row at) row k (numbered 0 columns) (place (at + 2 * update_bytes columns) 0)

-- the update data at `at` of an input, all their fields included: where they end
unfoldable pub update_end : List Column → Bytes → ℕ → Read ℕ
update_end columns row at = do
  _ ← update_opened columns row at
  w ← update_walked columns row at (length columns)
  ok w.at

-- What update data say of a column: its new field, null (forced), unchanged (the paper's kept), or that it is a chapter.
pub data UpdateAnswer : Type 0 where
  field : Field → UpdateAnswer
  null : UpdateAnswer
  unchanged : UpdateAnswer
  chapter : UpdateAnswer

-- the field of column k of update data, by the walk to it
unfoldable pub update_field : List Column → Bytes → ℕ → Read Field
update_field columns update k = do
  w ← update_walked columns update 0 k
  arrive (get_or columns k no_column) update w

-- column k of update data that are well formed
unfoldable pub update_column : List Column → Bytes → ℕ → Read UpdateAnswer
update_column columns update k =
    pick (is_chapter (get_or columns k no_column)) (ok chapter)
    (pick (bit_set update k)
    (pick (bit_set (drop (update_bytes columns) update) k) (ok null)
    (do
      f ← update_field columns update k
      ok (field f)))
    (ok unchanged))

-- A look-up in update data of allowed size: the column number (18), the update data in full, the column.
unfoldable pub look_update : List Column → Bytes → ℕ → Read UpdateAnswer
look_update columns update k = do
  _ ← known columns k
  _ ← about input.Update (update_end columns update 0)
  about input.Update (update_column columns update k)

-- a look-up in any update data: their size first (19)
unfoldable pub look_update_row : List Column → Bytes → ℕ → Read UpdateAnswer
look_update_row columns update k = do
  _ ← about input.Update (sized update)
  look_update columns update k

-- The current value of a column of a changed row, and which row answers: a field of the update data, null by the update data, or
-- what the original row answers.
pub data Current : Type 0 where
  updated : Field → Current
  forced : Current
  original : Answer → Current

-- what the original row answers
unfoldable pub from_row : Read Answer → Read Current
from_row r = do
  a ← r
  ok (original a)

-- by what the update data say
unfoldable pub current_by : List Column → Bytes → ℕ → UpdateAnswer → Read Current
current_by columns row k (field f) = ok (updated f)
current_by columns row k null = ok forced
current_by columns row k unchanged = from_row (look_up columns row k)
current_by columns row k chapter = from_row (look_up columns row k)

-- The current value, in rows of allowed size: the column number (18), the update data in full, then the row where they say nothing.
unfoldable pub current : List Column → (row update : Bytes) → ℕ → Read Current
current columns row update k = do
  a ← look_update columns update k
  current_by columns row k a

-- the current value in any rows: their sizes first (19), the update data's before the row's
unfoldable pub current_row : List Column → (row update : Bytes) → ℕ → Read Current
current_row columns row update k = do
  _ ← about input.Update (sized update)
  _ ← about input.Row (sized row)
  current columns row update k

-- Inner.

-- how many of the columns up to column k, its own included, have a field of variable length in the update data
unfoldable pub update_prefix_count : List Column → Bytes → ℕ → ℕ
update_prefix_count columns update k = count (prefixed (carried_in columns update 0)) (take (suc k) (numbered 0 columns))
