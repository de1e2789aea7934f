-- Promise: what is said of a batch: one column of every row of one table.
-- Assumes nothing.
use Rattle.std.specs.Prelude.{ℕ, ◌+◌, ◌≤◌, ◌≡◌, List, [], ◌∷◌, length, eqb}
use Rattle.std.proofs.Math.Option.{some}
use Rattle.wire.specs.Read.{Bytes, Read, ok, pick}
use Rattle.walk.specs.Rows.{Answer}
use Rattle.tree.specs.Schemas.{Schema, child_number}
use Rattle.grammar.specs.Grammar.{Row}
use Rattle.batch.specs.Spans.{parents, owner_of, start_in, Span, span, null_mark, chapter_mark, span_in}
use Rattle.adtg.specs.Rows.{look_up_in}

-- a column's look-up by the walk, in a schema of a file
abbrev pub walked : (file : Bytes) (number column : ℕ) → Bytes → Read Answer
walked file number column part = look_up_in file number part column

-- the rows of an owner, in order
unfoldable pub owned : ℕ → List Row → List Row
owned owner [] = []
owned owner (r ∷ rs) = pick (eqb (owner_of r) owner) (r ∷ owned owner rs) (owned owner rs)

-- Which schema the rows of an owner have: the parent's the top one, a child's that of its id.
pub data Owner (S : List Schema) : (owner number : ℕ) → Type 0 where
  parent_rows : Owner S parents 0
  child_rows : {id k : ℕ} → child_number S id ≡ some k → Owner S id k

-- Spans are one for one those of rows: each is what the look-up answers on the part of the section from its row's start on.
pub data SpansOf (look : Bytes → Read Answer) (s : Bytes) : List Row → List Span → Type 0 where
  no_row : SpansOf look s [] []
  a_row_lem : {r : Row} {rs : List Row} {x : Span} {xs : List Span} → span_in look s r.original ≡ ok x → SpansOf look s rs xs → SpansOf look s (r ∷ rs) (x ∷ xs)

-- A span lies in the section, or is one of the two marks.
pub data Lies (s : Bytes) : Span → Type 0 where
  lies : {a b : ℕ} → a ≤ b → b ≤ length s → Lies s (span a b)
  is_null_lem : Lies s (span null_mark null_mark)
  is_chapter_lem : Lies s (span chapter_mark chapter_mark)

-- A span that starts so many bytes behind a row's start, or is one of the two marks.
pub data Placed (from place : ℕ) : Span → Type 0 where
  placed : {b : ℕ} → Placed from place (span (from + place) b)
  null_placed : Placed from place (span null_mark null_mark)
  chapter_placed : Placed from place (span chapter_mark chapter_mark)

-- Spans one for one of rows, each at its place behind its row's start.
pub data SpansAt (s : Bytes) (place : ℕ) : List Row → List Span → Type 0 where
  no_span : SpansAt s place [] []
  a_span : {r : Row} {rs : List Row} {x : Span} {xs : List Span} → Placed (start_in s r.original) place x → SpansAt s place rs xs → SpansAt s place (r ∷ rs) (x ∷ xs)
