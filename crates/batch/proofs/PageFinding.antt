-- The checks in front of a page, and what they come to.
-- Assumes nothing.
use Rattle.std.specs.Prelude.{Result, Err}
use Rattle.batch.specs.declared.page.PageCount.{PageCount}
use Prim.Native.Nat.{ℕ, ◌<◌, ◌≤◌}
use mathlib.Core.Path.{◌≡◌, refl}
use mathlib.Core.List.{List}
use lib.ListN.{length}
use borrow.Author.Tests.{le-leb, lt-leb}
use Rattle.wire.specs.declared.error.Error.{Error}
use Rattle.wire.specs.declared.error.Input.TheVariants as input
use Rattle.wire.specs.declared.error.ErrorKind.TheVariants as error
use Rattle.wire.specs.Read.{Bytes, Read, bad, check, about, limit, refused, ok}
use Rattle.wire.proofs.Laws.{sized_over, sized_within, length_put}
use Rattle.walk.specs.Rows.{Answer}
use Rattle.batch.specs.Pages.{Page, rows_in, page_by, page_after, Paged, page_numbers}
use Rattle.batch.specs.PageScan.{page_from, page_scanned}

-- an error leaves the numbers
found_error : (p : Read Page) (numbers : List ℕ) (e : Error) → p ≡ refused e → Paged p numbers numbers (Err e)
unfolding page_after
found_error p numbers e q = record { answers = rw q refl; leaves = rw q refl }

-- the numbers stay as many
pub page_length : (p : Read Page) (numbers : List ℕ) → length (page_after p numbers) ≡ length numbers
unfolding page_after
page_length (ok p) numbers = length_put numbers 0 (page_numbers p.found)
page_length (bad code offset about) numbers = refl

module _ (look : Bytes → Read Answer) (s : Bytes) (table : List ℕ) (rows from owner : ℕ) (numbers : List ℕ) where
  abbrev answer : Read Page
  answer = page_by look s table rows from owner (length numbers)

  pub found_large : limit < length s → Paged answer numbers numbers (Err (record { kind = error.TooLarge; offset = 0; input = input.Section }))
  unfolding page_by about
  found_large h = found_error answer numbers _ by
    where
      by : answer ≡ bad 19 0 input.Section
      by = rw (sized_over s h) refl

  module _ (h : length s ≤ limit) where
    pub found_fewer : rows_in (length table) < rows → Paged answer numbers numbers (Err (record { kind = error.Missing; offset = 0; input = input.Table }))
    unfolding page_by about check
    found_fewer l = found_error answer numbers _ by
      where
        by : answer ≡ bad 18 0 input.Table
        by = rw (sized_within s h, lt-leb rows (rows_in (length table)) l) refl

    module _ (l : rows ≤ rows_in (length table)) where
      pub found_behind : rows < from → Paged answer numbers numbers (Err (record { kind = error.Missing; offset = 0; input = input.Place }))
      unfolding page_by about check
      found_behind k = found_error answer numbers _ by
        where
          by : answer ≡ bad 18 0 input.Place
          by = rw (sized_within s h, le-leb rows (rows_in (length table)) l, lt-leb from rows k) refl

      -- what the scan answers
      pub found_page : (exit : List ℕ) (r : Result PageCount Error) → from ≤ rows → Paged (page_scanned look s table rows from owner (length numbers)) numbers exit r → Paged answer numbers exit r
      unfolding page_by page_from about check
      found_page exit r k p =
          let by : answer ≡ page_scanned look s table rows from owner (length numbers) = rw (sized_within s h, le-leb rows (rows_in (length table)) l, le-leb from rows k) refl in
          rw by p
