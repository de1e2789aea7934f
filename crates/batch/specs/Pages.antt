-- Promise: pages of a batch: one column of the rows of one owner, from one row of a table on, as many as there is room for.
-- Assumes nothing.
use Rattle.std.specs.Prelude.{ℕ, zero, suc, ◌-◌, ◌/◌, min, ◌≡◌, List, [], ◌∷◌, ◌++◌, length, leb, eqb, Result, Ok, Err}
use Rattle.batch.specs.declared.page.PageCount.{PageCount}
use Rattle.wire.specs.declared.error.Error.{Error}
use Rattle.wire.specs.declared.error.Input.TheVariants as input
use Rattle.wire.specs.Read.{Bytes, Read, ok, bad, ◌>>=◌, pick, check, about, limit, sized, refused}
use Rattle.wire.specs.Output.{put}
use Rattle.walk.specs.Rows.{Answer}
use Rattle.plan.specs.declared.plan.Plan.{Plan}
use Rattle.grammar.specs.Grammar.{Row}
use Rattle.batch.specs.Spans.{rows_from, owner_of, Span, span_in, planned}

-- A row with its number in the table.
pub record Numbered : Type 0 where
  pub number : ℕ
  pub row : Row

abbrev pub numbered : ℕ → Row → Numbered
numbered n r = record { number = n; row = r }

-- the rows of one owner among rows of which the first has number i
unfoldable pub owned_from : (owner i : ℕ) → List Row → List Numbered
owned_from owner i [] = []
owned_from owner i (r ∷ rs) = pick (eqb (owner_of r) owner) (numbered i r ∷ owned_from owner (suc i) rs) (owned_from owner (suc i) rs)

-- those of a table of so many rows, from one row on
abbrev pub owned_in : (table : List ℕ) → (rows from owner : ℕ) → List Numbered
owned_in table rows from owner = owned_from owner from (rows_from table (rows - from) from)

-- A span and the number of its row.
pub record Located : Type 0 where
  pub row : ℕ
  pub span : Span

abbrev pub located : ℕ → Span → Located
located n x = record { row = n; span = x }

-- The spans of a page, and the row that comes next: one of the owner, or the number of rows where none is left.
pub record Page : Type 0 where
  pub found : List Located
  pub next : ℕ

abbrev pub page : List Located → ℕ → Page
page xs n = record { found = xs; next = n }

-- a page that begins with a row, of which the look-up says this, and goes on as another page; a row that is refused ends the page before it
abbrev pub page_with : Numbered → Read Span → Page → Page
page_with o (ok x) rest = page (located o.number x ∷ rest.found) rest.next
page_with o (bad code offset about) rest = page [] o.number

-- The page of rows of one owner, into room for so many spans.
unfoldable pub page_of : (look : Bytes → Read Answer) → Bytes → (rows room : ℕ) → List Numbered → Page
page_of look s rows room [] = page [] rows
page_of look s rows zero (o ∷ os) = page [] o.number
page_of look s rows (suc room) (o ∷ os) = page_with o (span_in look s o.row.original) (page_of look s rows room os)

-- the first of these rows, which a page begins with where it has room: its error refuses the page
unfoldable pub first_in : (look : Bytes → Read Answer) → Bytes → (room : ℕ) → List Numbered → Read (Unit {0})
first_in look s room [] = ok tt
first_in look s zero (o ∷ os) = ok tt
first_in look s (suc room) (o ∷ os) = do
  _ ← span_in look s o.row.original
  ok tt

-- how many spans so many numbers have room for: three each
abbrev pub room_in : ℕ → ℕ
room_in numbers = numbers / 3

-- the most rows that a table of so many numbers can have; no section has more than bytes
abbrev pub rows_in : ℕ → ℕ
rows_in numbers = min (numbers / 4) limit

-- By any look-up, from one row of a table of so many rows on, into room for so many numbers: the section's size (19), the table has these rows
-- (18) and the first of them (18), then the first row of the owner.
unfoldable pub page_by : (look : Bytes → Read Answer) → Bytes → (table : List ℕ) → (rows from owner room : ℕ) → Read Page
page_by look s table rows from owner room = do
  _ ← about input.Section (sized s)
  _ ← about input.Table (check (leb rows (rows_in (length table))) 18 0)
  _ ← about input.Place (check (leb from rows) 18 0)
  _ ← first_in look s (room_in room) (owned_in table rows from owner)
  ok (page_of look s rows (room_in room) (owned_in table rows from owner))

-- Through a plan.
abbrev pub page_found : Plan → Bytes → (table : List ℕ) → (rows from owner column room : ℕ) → Read Page
page_found p s table rows from owner column room = page_by (planned p column) s table rows from owner room

-- the numbers of spans, one after the other: the row, then the two positions or marks
abbrev pub located_numbers : Located → List ℕ
located_numbers x = x.row ∷ x.span.start ∷ x.span.end ∷ []

unfoldable pub page_numbers : List Located → List ℕ
page_numbers [] = []
page_numbers (x ∷ xs) = located_numbers x ++ page_numbers xs

-- the caller's numbers afterwards: the spans and then what they were; after an error all that they were
unfoldable pub page_after : Read Page → List ℕ → List ℕ
page_after (ok p) numbers = put numbers 0 (page_numbers p.found)
page_after (bad code offset about) numbers = numbers

-- How many spans a page has, and which row comes next.
pub record Counted : Type 0 where
  pub spans : ℕ
  pub next : ℕ

abbrev pub counted : ℕ → ℕ → Counted
counted n next = record { spans = n; next = next }

abbrev pub page_count : Read Page → Read Counted
page_count (ok p) = ok (counted (length p.found) p.next)
page_count (bad code offset about) = bad code offset about

-- what the `Result` says
abbrev pub told_page : Result PageCount Error → Read Counted
told_page (Ok p) = ok (counted p.spans p.next)
told_page (Err e) = refused e

-- What a page promises: how many spans and the row that comes next, or the error; and what the caller's numbers then are.
pub record Paged (p : Read Page) (entry exit : List ℕ) (answer : Result PageCount Error) : Type 0 where
  pub answers : told_page answer ≡ page_count p
  pub leaves : exit ≡ page_after p entry
