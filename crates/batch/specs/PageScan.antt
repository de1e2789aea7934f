-- Inner: what the contracts of inner functions cite: a page of rows that the table has.
-- Assumes nothing.
use Rattle.std.specs.Prelude.{ℕ, List}
use Rattle.wire.specs.Read.{Bytes, Read, ok, ◌>>=◌}
use Rattle.walk.specs.Rows.{Answer}
use Rattle.batch.specs.Pages.{Numbered, owned_in, Page, page_of, first_in, room_in}

-- the first row's error, or the page
unfoldable pub page_from : (look : Bytes → Read Answer) → Bytes → (rows room : ℕ) → List Numbered → Read Page
page_from look s rows room os = do
  _ ← first_in look s room os
  ok (page_of look s rows room os)

-- the same of the rows of one owner in a table, into room for so many numbers
abbrev pub page_scanned : (look : Bytes → Read Answer) → Bytes → (table : List ℕ) → (rows from owner room : ℕ) → Read Page
page_scanned look s table rows from owner room = page_from look s rows (room_in room) (owned_in table rows from owner)
