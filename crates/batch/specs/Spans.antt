-- Promise: one column of many rows: where its field stands in a section, for each row of one table.
-- Assumes nothing.
use Rattle.std.specs.Prelude.{ℕ, zero, suc, ◌+◌, ◌*◌, ◌/◌, min, ◌≡◌, List, [], ◌∷◌, ◌++◌, Bool, length, get_or, drop, leb, eqb, Result}
use Rattle.wire.specs.declared.error.Error.{Error}
use Rattle.wire.specs.declared.error.Input.{Input}
use Rattle.wire.specs.declared.error.Input.TheVariants as input
use Rattle.wire.specs.Errors.{input_number}
use Rattle.wire.specs.Read.{Bytes, Read, ok, bad, ◌>>=◌, pick, check, about, sized, told}
use Rattle.wire.specs.Output.{put}
use Rattle.walk.specs.Rows.{Answer, field, null, chapter}
use Rattle.plan.specs.declared.plan.Plan.{Plan}
use Rattle.jump.specs.Jumps.{planned_row}
use Rattle.grammar.specs.Grammar.{Row, entry}

-- Row i of a table: four numbers.
abbrev pub row_at : List ℕ → ℕ → Row
row_at table i = entry (get_or table (4 * i) 0) (get_or table (4 * i + 1) 0) (get_or table (4 * i + 2) 0) (get_or table (4 * i + 3) 0)

-- n rows of a table, from row i on
unfoldable pub rows_from : List ℕ → (n i : ℕ) → List Row
rows_from table zero i = []
rows_from table (suc n) i = row_at table i ∷ rows_from table n (suc i)

-- the rows of a table; numbers at its end that make no row are ignored
abbrev pub rows_of : List ℕ → List Row
rows_of table = rows_from table (length table / 4) 0

-- the owner of the parent's rows, which no child id is
abbrev pub parents : ℕ
parents = 18446744073709551615

-- whose a row is: the parent's, which has kind 1, or the child's of its id
unfoldable pub owner_of : Row → ℕ
owner_of r = pick (eqb r.kind 1) parents r.id

-- where data start in a section: at its end, where the number is past it
abbrev pub start_in : Bytes → (start : ℕ) → ℕ
start_in s start = min start (length s)

-- Two positions in a section, or two marks.
pub record Span : Type 0 where
  pub start : ℕ
  pub end : ℕ

abbrev pub span : ℕ → ℕ → Span
span a b = record { start = a; end = b }

-- the marks of null and of a chapter: no section is so long
abbrev pub null_mark : ℕ
null_mark = 4294967295

abbrev pub chapter_mark : ℕ
chapter_mark = 4294967294

-- the span of an answer about the part of a section from `from` on
unfoldable pub span_of : (from : ℕ) → Answer → Span
span_of from (field f) = span (from + f.start) (from + f.end)
span_of from null = span null_mark null_mark
span_of from chapter = span chapter_mark chapter_mark

-- an error's input is the row
abbrev pub is_row : Input → Bool
is_row i = eqb (input_number i) (input_number input.Row)

-- an error about that part is about the section, at its place there; any other stays
unfoldable pub moved : {A : Type 0} → (from : ℕ) → Read A → Read A
moved from (ok a) = ok a
moved from (bad code offset about) = pick (is_row about) (bad code (from + offset) input.Section) (bad code offset about)

-- the span of a row whose data start there: what a look-up answers on the part of the section from there on
unfoldable pub span_in : (look : Bytes → Read Answer) → Bytes → (start : ℕ) → Read Span
span_in look s start = do
  a ← moved (start_in s start) (look (drop (start_in s start) s))
  ok (span_of (start_in s start) a)

-- the spans of the rows of one owner, in order; the first error ends them
unfoldable pub spans_in : (look : Bytes → Read Answer) → Bytes → (owner : ℕ) → List Row → Read (List Span)
spans_in look s owner [] = ok []
spans_in look s owner (r ∷ rs) =
    pick (eqb (owner_of r) owner)
    (do
      x ← span_in look s r.original
      xs ← spans_in look s owner rs
      ok (x ∷ xs))
    (spans_in look s owner rs)

-- By any look-up, into room for so many numbers: the section's size (19), the rows' errors, and last the room (16, with the spans needed).
unfoldable pub spans_by : (look : Bytes → Read Answer) → Bytes → (rows : List ℕ) → (owner room : ℕ) → Read (List Span)
spans_by look s rows owner room = do
  _ ← about input.Section (sized s)
  xs ← spans_in look s owner (rows_of rows)
  _ ← about input.Output (check (leb (2 * length xs) room) 16 (length xs))
  ok xs

-- a column's look-up through a plan
abbrev pub planned : Plan → (column : ℕ) → Bytes → Read Answer
planned p column part = planned_row p part column

-- Through a plan.
abbrev pub spans_found : Plan → Bytes → (rows : List ℕ) → (owner column room : ℕ) → Read (List Span)
spans_found p s rows owner column room = spans_by (planned p column) s rows owner room

-- the numbers of spans, one after the other
abbrev pub span_numbers : Span → List ℕ
span_numbers x = x.start ∷ x.end ∷ []

unfoldable pub spans_numbers : List Span → List ℕ
spans_numbers [] = []
spans_numbers (x ∷ xs) = span_numbers x ++ spans_numbers xs

-- the caller's numbers afterwards: the spans and then what they were; after an error all that they were
unfoldable pub spans_after : Read (List Span) → List ℕ → List ℕ
spans_after (ok xs) numbers = put numbers 0 (spans_numbers xs)
spans_after (bad code offset about) numbers = numbers

-- how many spans
abbrev pub span_count : Read (List Span) → Read ℕ
span_count (ok xs) = ok (length xs)
span_count (bad code offset about) = bad code offset about

-- What a batch promises: how many spans or the error, and what the caller's numbers then are.
pub record Batched (xs : Read (List Span)) (entry exit : List ℕ) (answer : Result ℕ Error) : Type 0 where
  pub answers : told answer ≡ span_count xs
  pub leaves : exit ≡ spans_after xs entry
