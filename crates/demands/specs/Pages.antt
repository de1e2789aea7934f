-- Promise: what is said of pages: one column of the rows of one owner, page by page.
-- Assumes nothing.
use Rattle.std.specs.Prelude.{ℕ, ◌<◌, ◌≤◌, ◌≡◌, List, [], ◌∷◌, ◌++◌}
use Rattle.wire.specs.declared.error.Input.{Input}
use Rattle.wire.specs.Read.{Bytes, Read, ok, bad}
use Rattle.walk.specs.Rows.{Answer}
use Rattle.batch.specs.Spans.{row_at, owner_of, Span, span_in}
use Rattle.batch.specs.Pages.{Numbered, Located, located, Page, page}

-- What look-ups row by row find, and how they end: behind the last row, or with the error of the first row that is refused.
pub record Looked : Type 0 where
  pub found : List Located
  pub end : Read (Unit {0})

abbrev pub looked : List Located → Read (Unit {0}) → Looked
looked xs end = record { found = xs; end = end }

abbrev pub looked_with : Numbered → Read Span → Looked → Looked
looked_with o (ok x) rest = looked (located o.number x ∷ rest.found) rest.end
looked_with o (bad code offset about) rest = looked [] (bad code offset about)

-- the look-ups of a column in these rows, one by one
unfoldable pub row_by_row : (look : Bytes → Read Answer) → Bytes → List Numbered → Looked
row_by_row look s [] = looked [] (ok tt)
row_by_row look s (o ∷ os) = looked_with o (span_in look s o.row.original) (row_by_row look s os)

-- Calls one after the other, the first from one row on, each later one from the row that the call before says comes next, into whatever room
-- each is lent, but at least that of one span: all that they find, and how they end.
pub data Pages (call : (from room : ℕ) → Read Page) (rows : ℕ) : (from : ℕ) → List Located → (end : Read (Unit {0})) → Type 0 where
  last_page : {from room : ℕ} {xs : List Located} → 3 ≤ room → call from room ≡ ok (page xs rows) → Pages call rows from xs (ok tt)
  then_more : {from room next : ℕ} {xs ys : List Located} {end : Read (Unit {0})} → 3 ≤ room → call from room ≡ ok (page xs next) → next < rows →
      Pages call rows next ys end → Pages call rows from (xs ++ ys) end
  then_refused : {from room code offset : ℕ} {name : Input} → 3 ≤ room → call from room ≡ bad code offset name → Pages call rows from [] (bad code offset name)

-- A span is that of a row of the owner: what the look-up answers on the part of the section from this row's start on.
pub record SpanOf (look : Bytes → Read Answer) (s : Bytes) (table : List ℕ) (rows owner : ℕ) (x : Located) : Type 0 where
  pub inside : x.row < rows
  pub own : owner_of (row_at table x.row) ≡ owner
  pub answers : span_in look s (row_at table x.row).original ≡ ok x.span
