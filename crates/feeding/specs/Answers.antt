-- Promise: what is answered to fragments of a row section and to its end (document 02, "Read as it arrives"), over the bytes joined. Nothing here
-- knows of a state.
-- Assumes nothing.
use Rattle.std.specs.Prelude.{ℕ, zero, suc, max, List, [], ◌∷◌, ◌++◌, Bool, true, false, length, take, leb, eqb}
use Rattle.wire.specs.declared.error.Input.{Input}
use Rattle.wire.specs.declared.error.Input.TheVariants as input
use Rattle.wire.specs.Errors.{input_number}
use Rattle.wire.specs.Read.{Bytes, Read, ok, bad, pick, limit}
use Rattle.tree.specs.Schemas.{Schema, read_schemas}
use Rattle.grammar.specs.Reader.{section}
use Rattle.section.specs.Table.{rows_checked, row_count}

-- The whole 07 and 87 elements that bytes begin with. Each makes one row, and whole elements with the done token behind them are a section:
-- so these are the most rows of any first part of the bytes that the done token makes a section.

abbrev pub or_none : Read ℕ → ℕ
or_none (ok n) = n
or_none (bad code offset name) = 0

unfoldable pub most_rows : List Schema → Bytes → ℕ → ℕ
most_rows schemas s zero = 0
most_rows schemas s (suc k) = max (most_rows schemas s k) (or_none (row_count (section schemas (take (suc k) s ++ (0x0F ∷ [])))))

unfoldable pub whole_rows : List Schema → Bytes → ℕ
whole_rows schemas s = most_rows schemas s (length s)

-- under a schema file
abbrev pub whole_in : Read (List Schema) → Bytes → ℕ
whole_in (ok schemas) s = whole_rows schemas s
whole_in (bad code offset name) s = 0

unfoldable pub whole_elements : (file bytes : Bytes) → ℕ
whole_elements file s = whole_in (read_schemas file) s

-- An answer: so many whole elements and more to come, so many rows and the section is complete, or a refusal.
pub data Answer : Type 0 where
  going : ℕ → Answer
  complete : ℕ → Answer
  refused : (code offset : ℕ) → Input → Answer

abbrev pub said : Read ℕ → Answer
said (ok n) = complete n
said (bad code offset name) = refused code offset name

-- the section's own 1: the section's bytes end inside what is read
abbrev pub own_short : (code : ℕ) → Input → Bool
own_short code name = pick (eqb code 1) (eqb (input_number name) (input_number input.Section)) false

-- the same with a count in place of the section's own 1
abbrev pub said_with : ℕ → Read ℕ → Answer
said_with n (ok m) = complete m
said_with n (bad code offset name) = pick (own_short code name) (going n) (refused code offset name)

-- the bytes so far, within the limit
unfoldable pub so_far : (file bytes : Bytes) → Answer
so_far file s = said_with (whole_elements file s) (row_count (rows_checked file s))

-- a byte over the limit: 19, unless there was a refusal
abbrev pub past : Answer → Answer
past (going n) = refused 19 0 input.Section
past (complete n) = refused 19 0 input.Section
past (refused code offset name) = refused code offset name

unfoldable pub answer_over : (file bytes : Bytes) → Answer
answer_over file s = past (so_far file (take limit s))

-- after fragments that make up these bytes
unfoldable pub answer_so_far : (file bytes : Bytes) → Answer
answer_so_far file s = pick (leb (length s) limit) (so_far file s) (answer_over file s)

-- after the close
unfoldable pub answer_closed : (file bytes : Bytes) → Answer
answer_closed file s = pick (leb (length s) limit) (said (row_count (rows_checked file s))) (answer_over file s)

-- The calls, and what is answered to the last of them.
pub data Call : Type 0 where
  fragment : Bytes → Call
  close : Call

-- the bytes of the fragments before the first close
unfoldable pub joined : List Call → Bytes
joined [] = []
joined (fragment f ∷ cs) = f ++ joined cs
joined (close ∷ cs) = []

unfoldable pub any_close : List Call → Bool
any_close [] = false
any_close (fragment f ∷ cs) = any_close cs
any_close (close ∷ cs) = true

unfoldable pub answer_to : (file : Bytes) → List Call → Answer
answer_to file cs = pick (any_close cs) (answer_closed file (joined cs)) (answer_so_far file (joined cs))
