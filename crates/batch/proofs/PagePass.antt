-- Going over the rows of a table: what is ahead of row i, behind the spans that were found, is the page.
-- Assumes nothing.
use Rattle.std.specs.Prelude.{Ok, Err}
use Prim.Native.Nat.{ℕ, zero, suc, ◌+◌, ◌*◌, ◌-◌, ◌<◌, ◌≤◌}
use mathlib.Core.Path.{◌≡◌, refl, sym, ap, ◌∙◌}
use mathlib.Core.List.{List, [], ◌∷◌, ◌++◌, append-nil, append_assoc}
use native.Mathlib.Omega.{arith}
use mathlib.Core.Bool.{true, false}
use lib.ListN.{length, length-append}
use lib.Dec.{eqb}
use borrow.Author.Tests.{eqb-true, eqb-false}
use Rattle.wire.specs.declared.error.Error.{Error}
use Rattle.wire.specs.Read.{Bytes, Read, ok, refused}
use Rattle.wire.specs.Output.{put}
use Rattle.walk.specs.Rows.{Answer}
use Rattle.batch.specs.Spans.{row_at, owner_of, Span, span_in}
use Rattle.batch.specs.Pages.{Numbered, numbered, owned_in, Located, located, located_numbers, Page, page, page_with, page_of, first_in, room_in, page_numbers, page_after, Paged}
use Rattle.batch.specs.PageScan.{page_from, page_scanned}
use Rattle.batch.proofs.PageLaid.{none_laid, next_laid}
use Rattle.batch.proofs.Rows.{owned_end, owned_other, owned_next}
use Rattle.wire.proofs.Laws.{length_put}

-- a page behind spans that were found
abbrev behind : List Located → Page → Page
behind xs p = page (xs ++ p.found) p.next

module _ (look : Bytes → Read Answer) (s : Bytes) (rows : ℕ) where
  -- What is ahead with room for so many spans: before the first span an error refuses.
  unfoldable pub ahead : List Located → (room : ℕ) → List Numbered → Read Page
  ahead [] room os = page_from look s rows room os
  ahead (x ∷ xs) room os = ok (behind (x ∷ xs) (page_of look s rows room os))

  ahead_end : (xs : List Located) (room : ℕ) → ahead xs room [] ≡ ok (page xs rows)
  unfolding ahead page_from first_in page_of
  ahead_end [] room = refl
  ahead_end (x ∷ xs) room = rw append-nil refl

  ahead_full : (xs : List Located) (o : Numbered) (os : List Numbered) → ahead xs zero (o ∷ os) ≡ ok (page xs o.number)
  unfolding ahead page_from first_in page_of
  ahead_full [] o os = refl
  ahead_full (x ∷ xs) o os = rw append-nil refl

  module _ (room : ℕ) (o : Numbered) (os : List Numbered) where
    ahead_span : (xs : List Located) (x : Span) → span_in look s o.row.original ≡ ok x → ahead xs (suc room) (o ∷ os) ≡ ahead (xs ++ located o.number x ∷ []) room os
    unfolding ahead page_from first_in page_of
    ahead_span [] x q = rw q refl
    ahead_span (y ∷ xs) x q = rw (q, append_assoc xs (located o.number x ∷ []) (page_of look s rows room os).found) refl

    ahead_first : (e : Error) → span_in look s o.row.original ≡ refused e → ahead [] (suc room) (o ∷ os) ≡ refused e
    unfolding ahead page_from first_in
    ahead_first e q = rw q refl

    ahead_refused : (x : Located) (xs : List Located) (e : Error) → span_in look s o.row.original ≡ refused e →
        ahead (x ∷ xs) (suc room) (o ∷ os) ≡ ok (page (x ∷ xs) o.number)
    unfolding ahead page_of
    ahead_refused x xs e q =
        ap (λ (r : Read Span). ok (behind (x ∷ xs) (page_with o r (page_of look s rows room os)))) q
        ∙ ap (λ (l : List Located). ok (page (x ∷ l) o.number)) (append-nil xs)

module _ (look : Bytes → Read Answer) (s : Bytes) (table : List ℕ) (rows from owner : ℕ) (first : List ℕ) where
  -- Before row i, with so many spans found and the numbers as they are.
  pub record AtRow (numbers : List ℕ) (i count : ℕ) : Type 0 where
    pub found : List Located
    pub many : count ≡ length found
    pub room : count ≤ room_in (length first)
    pub few : count ≤ i
    pub same : page_scanned look s table rows from owner (length first) ≡ ahead look s rows found (room_in (length first) - count) (owned_in table rows i owner)
    pub laid : numbers ≡ put first 0 (page_numbers found)
    pub inside : i ≤ rows

module _ (look : Bytes → Read Answer) (s : Bytes) (table : List ℕ) (rows from owner : ℕ) (first : List ℕ) where
  abbrev scanned : Read Page
  scanned = page_scanned look s table rows from owner (length first)

  pub at_start : from ≤ rows → AtRow look s table rows from owner first first from 0
  unfolding ahead
  at_start h =
      let z : room_in (length first) ≡ room_in (length first) - 0 = omega arith in
      record {
        found = [];
        many = refl;
        room = omega arith;
        few = omega arith;
        same = ap (λ (n : ℕ). page_from look s rows n (owned_in table rows from owner)) z;
        laid = sym (none_laid first);
        inside = h;
      }

  -- a page of the spans that were found
  paged : (xs : List Located) (numbers : List ℕ) (count next : ℕ) → count ≡ length xs → numbers ≡ put first 0 (page_numbers xs) →
      scanned ≡ ok (page xs next) → Paged scanned first numbers (Ok (record { spans = count; next = next }))
  unfolding page_after
  paged xs numbers count next z l q = record { answers = rw (q, z) refl; leaves = rw q l }

  module _ (numbers : List ℕ) (i count : ℕ) (a : AtRow look s table rows from owner first numbers i count) where
    pub at_long : length numbers ≡ length first
    at_long = ap length a.laid ∙ length_put first 0 (page_numbers a.found)

    pub at_end : rows ≤ i → Paged scanned first numbers (Ok (record { spans = count; next = rows }))
    at_end h =
        paged a.found numbers count rows a.many a.laid
        (a.same ∙ rw (owned_end table rows i owner h) (ahead_end look s rows a.found (room_in (length first) - count)))

    module _ (h : i < rows) where
      -- a row of another owner
      pub at_other : eqb (owner_of (row_at table i)) owner ≡ false → AtRow look s table rows from owner first numbers (i + 1) count
      at_other d =
          record {
            found = a.found;
            many = a.many;
            room = a.room;
            few = omega (arith, a.few);
            same = a.same ∙ rw (owned_other table rows i owner h (eqb-false _ _ d)) refl;
            laid = a.laid;
            inside = omega arith;
          }

      module _ (d : eqb (owner_of (row_at table i)) owner ≡ true) where
        abbrev o : Numbered
        o = numbered i (row_at table i)

        abbrev os : List Numbered
        os = owned_in table rows (i + 1) owner

        -- there is no room for it
        pub at_full : room_in (length first) ≤ count → Paged scanned first numbers (Ok (record { spans = count; next = i }))
        at_full l =
            let z : room_in (length first) - count ≡ 0 = omega arith in
            paged a.found numbers count i a.many a.laid
            (a.same ∙ rw (owned_next table rows i owner h (eqb-true _ _ d), z) (ahead_full look s rows a.found o os))

        module _ (l : count < room_in (length first)) where
          room_left : room_in (length first) - count ≡ suc (room_in (length first) - (count + 1))
          room_left = omega arith

          pub at_room : 3 * count + 3 ≤ length numbers
          at_room = omega (arith, at_long)

          -- it is the first, and is refused
          pub at_first : (e : Error) → count ≡ 0 → span_in look s (row_at table i).original ≡ refused e → Paged scanned first numbers (Err e)
          unfolding page_after
          at_first e z q = go a.found a.many a.same a.laid
            where
              go : (xs : List Located) → count ≡ length xs → scanned ≡ ahead look s rows xs (room_in (length first) - count) (owned_in table rows i owner) →
                  numbers ≡ put first 0 (page_numbers xs) → Paged scanned first numbers (Err e)
              go (x ∷ xs) n f t = absurd (omega arith)
              go [] n f t =
                  let told : scanned ≡ refused e = f ∙ rw (owned_next table rows i owner h (eqb-true _ _ d), room_left) (ahead_first look s rows (room_in (length first) - (count + 1)) o os e q) in
                  record { answers = rw told refl; leaves = rw told (t ∙ none_laid first) }

          -- it is refused behind others
          pub at_refused : (e : Error) → (count ≡ 0 → ⊥) → span_in look s (row_at table i).original ≡ refused e → Paged scanned first numbers (Ok (record { spans = count; next = i }))
          at_refused e z q = go a.found a.many a.same a.laid
            where
              go : (xs : List Located) → count ≡ length xs → scanned ≡ ahead look s rows xs (room_in (length first) - count) (owned_in table rows i owner) →
                  numbers ≡ put first 0 (page_numbers xs) → Paged scanned first numbers (Ok (record { spans = count; next = i }))
              go [] n f t = absurd (z n)
              go (x ∷ xs) n f t =
                  paged (x ∷ xs) numbers count i n t
                  (f ∙ rw (owned_next table rows i owner h (eqb-true _ _ d), room_left) (ahead_refused look s rows (room_in (length first) - (count + 1)) o os x xs e q))

          pub at_span : (x : Span) (after : List ℕ) → span_in look s (row_at table i).original ≡ ok x → after ≡ put numbers (3 * count) (located_numbers (located i x)) →
              AtRow look s table rows from owner first after (i + 1) (count + 1)
          at_span x after q e =
              let n : length (a.found ++ located i x ∷ []) ≡ length a.found + 1 = length-append a.found (located i x ∷ []) in
              record {
                found = a.found ++ located i x ∷ [];
                many = omega (arith, n, a.many);
                room = omega arith;
                few = omega (arith, a.few);
                same = a.same
                    ∙ rw (owned_next table rows i owner h (eqb-true _ _ d), room_left) (ahead_span look s rows (room_in (length first) - (count + 1)) o os a.found x q);
                laid = e ∙ ap (λ (m : ℕ). put numbers (3 * m) (located_numbers (located i x))) a.many ∙ next_laid a.found (located i x) first numbers a.laid (omega (arith, a.many));
                inside = omega arith;
              }
