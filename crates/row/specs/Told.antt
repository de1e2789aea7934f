-- Promise: what the code's answers say.
-- Assumes nothing.
use Rattle.std.specs.Prelude.{ℕ, ◌<◌, ◌≡◌, List, false, Result, Ok, Err}
use Rattle.row.specs.declared.rows.Walked.{Walked}
use Rattle.wire.specs.declared.error.Error.{Error}
use Rattle.wire.specs.Read.{Read, ok, refused}
use Rattle.column.specs.Columns.{is_chapter}
use Rattle.column.specs.Packed.{packed_at}
use Rattle.row.specs.declared.rows.LookUp.{LookUp}
use Rattle.row.specs.declared.rows.LookUp.TheVariants as look
use Rattle.walk.specs.Rows.{Place, place, Answer, field, null, chapter}

-- what a `LookUp` says
abbrev pub answer_in : LookUp → Answer
answer_in (look.Found f) = field f
answer_in look.Null = null
answer_in look.Chapter = chapter

abbrev pub told_look_up : Result LookUp Error → Read Answer
told_look_up (Ok a) = ok (answer_in a)
told_look_up (Err e) = refused e

-- Inner.

abbrev pub told_walk : Result Walked Error → Read Place
told_walk (Ok w) = ok (place w.position w.prefixes)
told_walk (Err e) = refused e

-- none of the first n columns in slots is a chapter
abbrev pub NoChapter : List ℕ → ℕ → Type 0
NoChapter slots n = (j : ℕ) → j < n → is_chapter (packed_at slots j) ≡ false
