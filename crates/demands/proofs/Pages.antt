-- Pages: through the plan that a schema makes a page is the page by the walk; pages joined are the look-ups row by row; through any plan what
-- is found lies in the section; and in a section that was read no row of the right table is refused.
-- Assumes nothing.
use Prim.Native.Nat.{ℕ, zero, suc, ◌+◌, ◌*◌, ◌-◌, ◌≤◌, ◌<◌}
use mathlib.Core.Path.{◌≡◌, refl, sym, ap, ◌∙◌}
use mathlib.Core.List.{List, [], ◌∷◌, ◌++◌, map, append-nil}
use mathlib.Core.Bool.{Bool, true, false}
use native.Mathlib.Omega.{arith}
use lib.ListN.{length, drop, length-append, length-drop}
use lib.Dec.{leb, ltb, eqb}
use borrow.Author.Tests.{eqb-true, leb-true, ltb-true, ltb-false, le-leb}
use Rattle.wire.specs.declared.error.Input.{Input}
use Rattle.wire.specs.declared.error.Input.TheVariants as input
use Rattle.wire.specs.Read.{Bytes, AreBytes, Read, ok, bad, ◌>>=◌, pick, check, about, limit, sized_by, sized, whole}
use Rattle.wire.specs.Bits.{bit_at, bit_set, map_bytes}
use Rattle.wire.specs.Integers.{value_of, int_at, read_int}
use Rattle.wire.proofs.Laws.{sized_within}
use Rattle.wire.proofs.Pieces.{bad_ok, bind_ok, about_ok, ok_ok, check_ok}
use Rattle.column.specs.Types.{types, kind_in, kind_of}
use Rattle.column.specs.Columns.{is_nullable, prefix_size, prefix_bytes, greatest, length_error_of, length_error}
use Rattle.column.specs.Fields.{allowed, bytes_at, variable_at, field_at}
use Rattle.tree.specs.Numbers.{third_group, second_group, number_in}
use Rattle.tree.specs.Tree.{member}
use Rattle.tree.specs.Reader.{read_number, read_range, read_fixed, read_variable, read_chapter, read_kind, read_column, read_columns, read_schema, ended, read_file, file_of}
use Rattle.tree.specs.Schemas.{Schema, own_columns, nested_schemas, schemas_of, read_schemas, schema_at, columns_of}
use Rattle.questions.specs.Questions.{with_schema}
use Rattle.walk.specs.Presence.{nullables, presence_bytes, marks, bit_of, present, chapter_present, clear}
use Rattle.walk.specs.Rows.{Answer, field, chapter, step, walk, arrive, opened, field_of, column_of, known, look_up}
use Rattle.walk.specs.Rows as row
use Rattle.plan.specs.declared.plan.Plan.{Plan}
use Rattle.plan.specs.Plans.{planned_column, planned_gap, no_stops}
use Rattle.grammar.specs.Grammar.{Row, columns_at, Element, Before, Split, done, parent, child, change, delete, rows}
use Rattle.grammar.proofs.Demand as grammar
use Rattle.grammar.proofs.Usable.{Usable, Each, each_end, each_next, rows_usable}
use Rattle.section.specs.Table.{table_numbers, rows_listed, table_after}
use Rattle.batch.specs.Spans.{row_at, rows_from, parents, owner_of, start_in, Span, span, chapter_mark, span_of, moved, span_in, planned}
use Rattle.batch.specs.Pages.{Numbered, numbered, owned_from, owned_in, Located, located, Page, page, page_with, page_of, first_in, room_in, rows_in, page_by, page_found}
use Rattle.batch.proofs.PageAlike.{page_by_alike}
use Rattle.adtg.specs.Plans.{plan_in}
use Rattle.adtg.specs.Rows.{look_up_in}
use Rattle.demands.specs.Examples.{T, section_t}
use Rattle.demands.specs.Sections.{Given, listing}
use Rattle.demands.specs.Batches.{walked, Owner, Lies, Placed}
use Rattle.demands.specs.Pages.{Looked, looked, looked_with, row_by_row, Pages, last_page, then_more, then_refused, SpanOf}
use Rattle.demands.proofs.Plans.{plan_route_is_walk}
use Rattle.demands.proofs.Sections.{listed_iff_split, split_listed, length_numbers}
use Rattle.demands.proofs.Batches.{span_lies, span_placed, rows_shift, schemas_in_range, owner_row, row_spans}

-- Through the plan that a schema makes, a page is the page by the walk in that schema, whole: for any section, any numbers as its rows, any
-- first row, owner, column and room.
pub page_is_walk :
    (file : Bytes) (number : ℕ) (p : Plan) → AreBytes file → plan_in file number ≡ ok p → (s : Bytes) (table : List ℕ) (rows from owner column room : ℕ) →
    page_found p s table rows from owner column room ≡ page_by (walked file number column) s table rows from owner room
page_is_walk file number p bytes h s table rows from owner column room =
    page_by_alike (planned p column) (walked file number column) (λ part. plan_route_is_walk file number p bytes h part column) s table rows from owner room

-- What one page says of the look-ups row by row.

-- spans found before look-ups
abbrev before : List Located → Looked → Looked
before xs l = looked (xs ++ l.found) l.end

module _ (look : Bytes → Read Answer) (s : Bytes) (table : List ℕ) (rows owner : ℕ) where
  abbrev from_row : ℕ → List Numbered
  from_row i = owned_in table rows i owner

  -- The page of these rows, the first of which is not before row i: its spans are those of their rows, and look-ups go on at its next row.
  record Goes (i room : ℕ) (os : List Numbered) : Type 0 where
    spans : Each (SpanOf look s table rows owner) (page_of look s rows room os).found
    after : i ≤ (page_of look s rows room os).next
    inside : (page_of look s rows room os).next ≤ rows
    same : row_by_row look s os ≡ before (page_of look s rows room os).found (row_by_row look s (from_row (page_of look s rows room os).next))

  none_left : from_row rows ≡ []
  unfolding owned_from rows_from
  none_left = let z : rows - rows ≡ 0 = omega arith in rw z refl

  -- the rows from i on, where so many are left
  row_here : (n i : ℕ) → suc n + i ≡ rows → (t : Bool) → eqb (owner_of (row_at table i)) owner ≡ t →
      from_row i ≡ pick t (numbered i (row_at table i) ∷ owned_from owner (suc i) (rows_from table n (suc i))) (owned_from owner (suc i) (rows_from table n (suc i)))
  unfolding owned_from rows_from
  row_here n i e t q = let z : rows - i ≡ suc n = omega arith in rw (z, q) refl

  goes : (n i room : ℕ) → n + i ≡ rows → Goes i room (owned_from owner i (rows_from table n i))
  unfolding rows_from owned_from page_of row_by_row
  goes zero i room e = record { spans = each_end; after = omega arith; inside = omega arith; same = rw none_left refl }
  goes (suc n) i room e = by (eqb (owner_of (row_at table i)) owner) refl room (λ k. goes n (suc i) k (omega arith))
    where
      os : List Numbered
      os = owned_from owner (suc i) (rows_from table n (suc i))

      o : Numbered
      o = numbered i (row_at table i)

      -- the page ends before row i
      stays : from_row i ≡ o ∷ os → (room : ℕ) → page_of look s rows room (o ∷ os) ≡ page [] i → Goes i room (o ∷ os)
      stays f room q =
          record {
            spans = rw q each_end;
            after = rw q (omega arith);
            inside = rw q (omega arith);
            same = rw (q, f) refl;
          }

      by_span : from_row i ≡ o ∷ os → eqb (owner_of (row_at table i)) owner ≡ true → (k : ℕ) → Goes (suc i) k os → (r : Read Span) → span_in look s (row_at table i).original ≡ r →
          Goes i (suc k) (o ∷ os)
      by_span f t k g (bad c p j) q = stays f (suc k) (ap (λ (r : Read Span). page_with o r (page_of look s rows k os)) q)
      by_span f t k g (ok x) q =
          let d : page_of look s rows (suc k) (o ∷ os) ≡ page_with o (ok x) (page_of look s rows k os) = ap (λ (r : Read Span). page_with o r (page_of look s rows k os)) q in
          let l : row_by_row look s (o ∷ os) ≡ looked_with o (ok x) (row_by_row look s os) = ap (λ (r : Read Span). looked_with o r (row_by_row look s os)) q in
          record {
            spans = rw d (each_next {a = located i x} (record { inside = omega arith; own = eqb-true _ _ t; answers = q }) g.spans);
            after = rw d (omega (arith, g.after));
            inside = rw d g.inside;
            same = l ∙ rw d (ap (looked_with o (ok x)) g.same);
          }

      by : (t : Bool) → eqb (owner_of (row_at table i)) owner ≡ t → (room : ℕ) → ((k : ℕ) → Goes (suc i) k os) → Goes i room (pick t (o ∷ os) os)
      by false t room g = record { spans = (g room).spans; after = omega (arith, (g room).after); inside = (g room).inside; same = (g room).same }
      by true t zero g = stays (row_here n i e true t) zero refl
      by true t (suc k) g = by_span (row_here n i e true t) t k (g k) (span_in look s (row_at table i).original) refl

  -- with room for a span, and no error of the first row, a page moves on
  moves : (n i room : ℕ) → n + i ≡ rows → (u : Unit {0}) → first_in look s (suc room) (owned_from owner i (rows_from table n i)) ≡ ok u →
      (page_of look s rows (suc room) (owned_from owner i (rows_from table n i))).next < rows →
      i < (page_of look s rows (suc room) (owned_from owner i (rows_from table n i))).next
  unfolding rows_from owned_from page_of first_in
  moves zero i room e u f l = absurd (omega arith)
  moves (suc n) i room e u f l = by (eqb (owner_of (row_at table i)) owner) refl (goes n (suc i) room (omega arith)).after (λ g m. moves n (suc i) room (omega arith) u g m) f l
    where
      os : List Numbered
      os = owned_from owner (suc i) (rows_from table n (suc i))

      o : Numbered
      o = numbered i (row_at table i)

      by_span : (r : Read Span) → span_in look s (row_at table i).original ≡ r → suc i ≤ (page_of look s rows room os).next → ◌≡◌ {A = Read (Unit {0})} (r >>= λ x. ok tt) (ok u) →
          i < (page_with o r (page_of look s rows room os)).next
      by_span (bad c p j) q a f = absurd (bad_ok f)
      by_span (ok x) q a f = omega arith

      by : (t : Bool) → eqb (owner_of (row_at table i)) owner ≡ t → suc i ≤ (page_of look s rows room os).next →
          (first_in look s (suc room) os ≡ ok u → (page_of look s rows (suc room) os).next < rows → suc i < (page_of look s rows (suc room) os).next) →
          first_in look s (suc room) (pick t (o ∷ os) os) ≡ ok u → (page_of look s rows (suc room) (pick t (o ∷ os) os)).next < rows →
          i < (page_of look s rows (suc room) (pick t (o ∷ os) os)).next
      by false t a m f l = let z : suc i < (page_of look s rows (suc room) os).next = m f l in omega arith
      by true t a m f l = by_span (span_in look s (row_at table i).original) refl a f

-- the error of a page's first row is where look-ups end
first_refuses : (look : Bytes → Read Answer) (s : Bytes) (room : ℕ) (os : List Numbered) {code offset : ℕ} {name : Input} → first_in look s room os ≡ bad code offset name →
    row_by_row look s os ≡ looked [] (bad code offset name)
unfolding first_in row_by_row
first_refuses look s room [] e = absurd (bad_ok (sym e))
first_refuses look s zero (o ∷ os) e = absurd (bad_ok (sym e))
first_refuses look s (suc room) (o ∷ os) {code} {offset} {name} e = by (span_in look s o.row.original) e
  where
    by : (r : Read Span) → ◌≡◌ {A = Read (Unit {0})} (r >>= λ x. ok tt) (bad code offset name) → looked_with o r (row_by_row look s os) ≡ looked [] (bad code offset name)
    by (ok x) e = absurd (bad_ok (sym e))
    by (bad c p j) e = ap (looked []) e

-- Look-ups that end behind the last row have a span for each row, in order.
pub looked_all : (look : Bytes → Read Answer) (s : Bytes) (os : List Numbered) (xs : List Located) → row_by_row look s os ≡ looked xs (ok tt) →
    map (λ (x : Located). x.row) xs ≡ map (λ (o : Numbered). o.number) os
unfolding row_by_row
looked_all look s [] xs e = let z : [] ≡ xs = ap (λ (l : Looked). l.found) e in rw (← z) refl
looked_all look s (o ∷ os) xs e = by (span_in look s o.row.original) e (λ ys q. looked_all look s os ys q)
  where
    by : (r : Read Span) → looked_with o r (row_by_row look s os) ≡ looked xs (ok tt) →
        ((ys : List Located) → row_by_row look s os ≡ looked ys (ok tt) → map (λ (x : Located). x.row) ys ≡ map (λ (o : Numbered). o.number) os) →
        map (λ (x : Located). x.row) xs ≡ o.number ∷ map (λ (o : Numbered). o.number) os
    by (bad c p j) e rest = absurd (bad_ok (ap (λ (l : Looked). l.end) e))
    by (ok x) e rest =
        let z : located o.number x ∷ (row_by_row look s os).found ≡ xs = ap (λ (l : Looked). l.found) e in
        let q : (row_by_row look s os).end ≡ ok tt = ap (λ (l : Looked). l.end) e in
        rw (← z) (ap (λ (l : List ℕ). o.number ∷ l) (rest (row_by_row look s os).found (ap (looked (row_by_row look s os).found) q)))

-- All pages, of a section within the limit and a table that has the rows.
module _ (look : Bytes → Read Answer) (s : Bytes) (table : List ℕ) (rows owner : ℕ) (short : length s ≤ limit) (there : rows ≤ rows_in (length table)) where
  abbrev call : (from room : ℕ) → Read Page
  call from room = page_by look s table rows from owner room

  called : (from room : ℕ) → from ≤ rows →
      call from room ≡ (first_in look s (room_in room) (owned_in table rows from owner) >>= λ _. ok (page_of look s rows (room_in room) (owned_in table rows from owner)))
  unfolding page_by about check
  called from room h = rw (sized_within s short, le-leb rows (rows_in (length table)) there, le-leb from rows h) refl

  goes_from : (from room : ℕ) → from ≤ rows → Goes look s table rows owner from (room_in room) (owned_in table rows from owner)
  goes_from from room h = goes look s table rows owner (rows - from) from (room_in room) (omega arith)

  -- what a call answers is the page
  call_page : (from room : ℕ) → from ≤ rows → (p : Page) → call from room ≡ ok p →
      (u : Unit {0}) × (first_in look s (room_in room) (owned_in table rows from owner) ≡ ok u) × (page_of look s rows (room_in room) (owned_in table rows from owner) ≡ p)
  call_page from room h p e =
      let (u, f, g) = bind_ok (first_in look s (room_in room) (owned_in table rows from owner)) _ p (sym (called from room h) ∙ e) in
      (u, f, ok_ok g)

  call_refused : (from room : ℕ) → from ≤ rows → {code offset : ℕ} {name : Input} → call from room ≡ bad code offset name →
      first_in look s (room_in room) (owned_in table rows from owner) ≡ bad code offset name
  call_refused from room h {code} {offset} {name} e = by (first_in look s (room_in room) (owned_in table rows from owner)) (sym (called from room h) ∙ e)
    where
      by : (r : Read (Unit {0})) → (r >>= λ _. ok (page_of look s rows (room_in room) (owned_in table rows from owner))) ≡ bad code offset name → r ≡ bad code offset name
      by (ok u) e = absurd (bad_ok (sym e))
      by (bad c p j) e = same_bad e
        where
          same_bad : {A B : Type 0} {c p c' p' : ℕ} {j j' : Input} → ◌≡◌ {A = Read A} (bad c p j) (bad c' p' j') → ◌≡◌ {A = Read B} (bad c p j) (bad c' p' j')
          same_bad e = cc

  -- However much room each call is lent, the pages joined are the look-ups row by row: all rows of the owner in order, up to the first that is
  -- refused, and the end is its error.
  pub pages_row_by_row : {from : ℕ} {xs : List Located} {end : Read (Unit {0})} → from ≤ rows → Pages call rows from xs end →
      row_by_row look s (owned_in table rows from owner) ≡ looked xs end
  unfolding row_by_row
  pages_row_by_row {from} h (last_page {room = room} {xs = xs} m q) =
      let (u, f, g) = call_page from room h (page xs rows) q in
      (goes_from from room h).same ∙ rw (g, none_left look s table rows owner) (ap (λ (l : List Located). looked l (ok tt)) (append-nil xs))
  pages_row_by_row {from} h (then_more {room = room} {next = next} {xs = xs} {ys = ys} {end = end} m q l more) =
      let (u, f, g) = call_page from room h (page xs next) q in
      (goes_from from room h).same ∙ rw (g, pages_row_by_row (omega arith) more) refl
  pages_row_by_row {from} h (then_refused {room = room} m q) =
      first_refuses look s (room_in room) (owned_in table rows from owner) (call_refused from room h q)

  -- A caller who goes on so comes to an end.
  pub pages_end : (room : ℕ) → 3 ≤ room → (from : ℕ) → from ≤ rows → (xs : List Located) × (end : Read (Unit {0})) × Pages call rows from xs end
  pages_end room m from h = go rows from h (omega arith)
    where
      Ends : ℕ → Type 0
      Ends from = (xs : List Located) × (end : Read (Unit {0})) × Pages call rows from xs end

      room_for : room_in room ≡ suc (room_in room - 1)
      room_for = omega arith

      by : (from : ℕ) → from ≤ rows → ((next : ℕ) → from < next → next < rows → Ends next) → (r : Read Page) → call from room ≡ r → Ends from
      by from h more (bad c p j) q = ([], bad c p j, then_refused m q)
      by from h more (ok p) q = on (ltb p.next rows) refl
        where
          inside : p.next ≤ rows
          inside = let (u, f, g) = call_page from room h p q in rw g at (goes_from from room h).inside

          moved_on : p.next < rows → from < p.next
          moved_on l =
              let (u, f, g) = call_page from room h p q in
              let f' : first_in look s (suc (room_in room - 1)) (owned_in table rows from owner) ≡ ok u = rw (← room_for) f in
              let g' : page_of look s rows (suc (room_in room - 1)) (owned_in table rows from owner) ≡ p = rw (← room_for) g in
              rw g' at (moves look s table rows owner (rows - from) from (room_in room - 1) (omega arith) u f' (rw g' l))

          on : (t : Bool) → ltb p.next rows ≡ t → Ends from
          on true t =
              let l : p.next < rows = ltb-true _ _ t in
              let (ys, end, rest) = more p.next (moved_on l) l in
              (p.found ++ ys, end, then_more m q l rest)
          on false t =
              let l : rows ≤ p.next = ltb-false _ _ t in
              let z : p.next ≡ rows = omega (arith, inside) in
              (p.found, ok tt, last_page {xs = p.found} m (q ∙ ap (λ (n : ℕ). ok (page p.found n)) z))

      go : (n from : ℕ) → from ≤ rows → rows - from ≤ n → Ends from
      go zero from h l = by from h (λ next a b. absurd (omega arith)) (call from room) refl
      go (suc n) from h l = by from h (λ next a b. go n next (omega arith) (omega arith)) (call from room) refl

-- What a page finds: each span with the row that it is of.

page_from_lem : (look : Bytes → Read Answer) (s : Bytes) (table : List ℕ) (rows from owner room : ℕ) (p : Page) → page_by look s table rows from owner room ≡ ok p →
    (from ≤ rows) × (page_of look s rows (room_in room) (owned_in table rows from owner) ≡ p)
unfolding page_by
page_from_lem look s table rows from owner room p e =
    let (_, _, e1) = bind_ok (about input.Section (sized s)) _ p e in
    let (_, _, e2) = bind_ok (about input.Table (check (leb rows (rows_in (length table))) 18 0)) _ p e1 in
    let (u, q, e3) = bind_ok (about input.Place (check (leb from rows) 18 0)) _ p e2 in
    let (_, _, e4) = bind_ok (first_in look s (room_in room) (owned_in table rows from owner)) _ p e3 in
    (leb-true _ _ (check_ok _ _ _ u (about_ok input.Place _ u q)), ok_ok e4)

pub page_spans : (look : Bytes → Read Answer) (s : Bytes) (table : List ℕ) (rows from owner room : ℕ) (p : Page) → page_by look s table rows from owner room ≡ ok p →
    Each (SpanOf look s table rows owner) p.found
page_spans look s table rows from owner room p e =
    let (h, g) = page_from_lem look s table rows from owner room p e in
    rw g at (goes look s table rows owner (rows - from) from (room_in room) (omega arith)).spans

each_so : {A : Type 0} {P Q : A → Type 0} → ((a : A) → P a → Q a) → {l : List A} → Each P l → Each Q l
each_so f each_end = each_end
each_so f (each_next {a = a} x xs) = each_next (f a x) (each_so f xs)

-- Through any plan at all, what is found lies in the section.

pub page_inside :
    (p : Plan) (s : Bytes) (table : List ℕ) (rows from owner column room : ℕ) (g : Page) → page_found p s table rows from owner column room ≡ ok g →
    Each (λ (x : Located). Lies s x.span) g.found
page_inside p s table rows from owner column room g e =
    each_so (λ x h. span_lies p s column (row_at table x.row).original x.span h.answers) (page_spans (planned p column) s table rows from owner room g e)

-- Where none of the plan's columns before it is a stop, a field starts at the number that the plan holds, its own prefix added.

module _ (p : Plan) (s : Bytes) (column : ℕ) (free : no_stops p column ≡ true) where
  pub page_placed :
      (table : List ℕ) (rows from owner room : ℕ) (g : Page) → page_found p s table rows from owner column room ≡ ok g →
      Each (λ (x : Located). Placed (start_in s (row_at table x.row).original) (planned_gap p column + prefix_bytes (planned_column p column)) x.span) g.found
  page_placed table rows from owner room g e =
      each_so (λ x h. span_placed p s column free (row_at table x.row).original x.span h.answers) (page_spans (planned p column) s table rows from owner room g e)

-- The rows that a table lists are its rows, whatever stands behind them.

rows_listed_lem : (rs : List Row) (t : List ℕ) → rows_from (table_numbers rs ++ t) (length rs) 0 ≡ rs
unfolding rows_from table_numbers
rows_listed_lem [] t = refl
rows_listed_lem (r ∷ rs) t = rw (rows_shift r.kind r.id r.original r.update (table_numbers rs ++ t) (length rs) 0, rows_listed_lem rs t) refl

-- what holds of all rows holds of those from one on
each_later : {P : Row → Type 0} (t : List ℕ) (k n i : ℕ) → Each P (rows_from t (k + n) i) → Each P (rows_from t n (k + i))
unfolding rows_from
each_later {P} t zero n i h =
    let x : 0 + n ≡ n = omega arith in
    let y : 0 + i ≡ i = omega arith in
    rw y (rw x at h)
each_later {P} t (suc k) n i h =
    let x : suc k + n ≡ suc (k + n) = omega arith in
    by (rw x at h) refl (λ us. each_later t k n (suc i) us)
  where
    by : {l : List Row} → Each P l → l ≡ row_at t i ∷ rows_from t (k + n) (suc i) → (Each P (rows_from t (k + n) (suc i)) → Each P (rows_from t n (k + suc i))) →
        Each P (rows_from t n (suc k + i))
    by each_end q rest = let z : ◌≡◌ {A = ℕ} 0 1 = cc in absurd (omega arith)
    by (each_next {a = r} {l = rs} u us) q rest =
        let z : rs ≡ rows_from t (k + n) (suc i) = cc in
        let y : suc k + i ≡ k + suc i = omega arith in
        rw y (rest (rw z at us))

-- a section has fewer rows than bytes
rows_fewer : {S : List Schema} {b : Before} {bytes : Bytes} {es : List Element} → Split S b bytes es → (at : ℕ) → length (rows at es) < length bytes
unfolding rows
rows_fewer done at = omega arith
rows_fewer (parent {row = row} {rest = rest} o sp) at = omega (arith, rows_fewer sp (at + 1 + length row), length-append row rest)
rows_fewer (child {ids = ids} {row = row} {rest = rest} i q o sp) at =
    omega (arith, rows_fewer sp (at + 5 + length row), length-append row rest, length-append ids (row ++ rest))
rows_fewer (change {ids = ids} {row = row} {rest = rest} i q o sp) at =
    omega (arith, rows_fewer sp (at + 5 + length row), length-append row rest, length-append ids (row ++ rest))
rows_fewer (delete {ids = ids} {rest = rest} i sp) at = omega (arith, rows_fewer sp (at + 5), length-append ids rest)

-- In a section that was read, with the plan of the owner's schema.
module _ (file s : Bytes) (S : List Schema) (bytes : AreBytes file) (g : Given file s S) where
  module _ (owner number : ℕ) (w : Owner S owner number) (p : Plan) (h : plan_in file number ≡ ok p) (column : ℕ) (few : column < length (columns_at S number)) where
    -- no row is refused
    first_answers : (room i : ℕ) {rs : List Row} → Each (Usable S s) rs → first_in (planned p column) s room (owned_from owner i rs) ≡ ok tt
    unfolding first_in owned_from
    first_answers room i each_end = refl
    first_answers room i (each_next {a = r} {l = rs} u us) = by (eqb (owner_of r) owner) refl room (λ k. first_answers k (suc i) us)
      where
        by : (t : Bool) → eqb (owner_of r) owner ≡ t → (room : ℕ) → ((k : ℕ) → first_in (planned p column) s k (owned_from owner (suc i) rs) ≡ ok tt) →
            first_in (planned p column) s room (pick t (numbered i r ∷ owned_from owner (suc i) rs) (owned_from owner (suc i) rs)) ≡ ok tt
        by false t room rest = rest room
        by true t zero rest = refl
        by true t (suc k) rest =
            let (x, f) = row_spans file s S bytes g owner number w p h column few r.original (owner_row S (schemas_in_range file S bytes g.valid) s u w (eqb-true _ _ t)) in
            rw f refl

    -- Over the rows that reading the section listed, whatever stands behind them in the table, no page is refused.
    pub listed_found :
        (table : List ℕ) (rs : List Row) → rows_listed file s (length table) ≡ ok rs → (from room : ℕ) → from ≤ length rs →
        (x : Page) × (page_found p s (table_after (rows_listed file s (length table)) table) (length rs) from owner column room ≡ ok x)
    unfolding page_by about check
    listed_found table rs e from room inside =
        let (es, sp, r, listed) = (listed_iff_split file s S g (length table) rs).0 e in
        let after : table_after (rows_listed file s (length table)) table ≡ listing rs table = rw (← r) (split_listed file s S g table es sp (rw r listed)) in
        let usable : Each (Usable S s) rs = rows_usable S s rs ((grammar.table_iff_split S s rs).1 (es, sp, r)) in
        let behind : List ℕ = drop (4 * length rs) table in
        let long : length (listing rs table) ≡ length table =
        let a : length (listing rs table) ≡ length (table_numbers rs) + length behind = length-append (table_numbers rs) behind in
        omega (arith, a, length_numbers rs, length-drop (4 * length rs) table, listed) in
        let small : length rs < length s = rw r at (rows_fewer sp 0) in
        let there : length rs ≤ rows_in (length (listing rs table)) = omega (arith, long, listed, small, g.within) in
        let z : from + (length rs - from) ≡ length rs = omega arith in
        let y : from + 0 ≡ from = omega arith in
        let all : Each (Usable S s) (rows_from (listing rs table) (from + (length rs - from)) 0) = rw (z, rows_listed_lem rs behind) usable in
        let later : Each (Usable S s) (rows_from (listing rs table) (length rs - from) (from + 0)) = each_later (listing rs table) from (length rs - from) 0 all in
        let first : first_in (planned p column) s (room_in room) (owned_in (listing rs table) (length rs) from owner) ≡ ok tt = first_answers (room_in room) from (rw y at later) in (
          page_of (planned p column) s (length rs) (room_in room) (owned_in (listing rs table) (length rs) from owner),
          rw (after, sized_within s g.within, le-leb (length rs) (rows_in (length (listing rs table))) there, le-leb from (length rs) inside, first) refl,
        )

-- Over the rows that T's section lists, the child's byte stands at 10, the parent's integer at 1, and the parent's second column is a
-- chapter. A column that is not there refuses, more rows than the table has refuse, and so does a first row behind them. A rest of zeros is not
-- read. Without room there is no span, and the next row is told.

abbrev T-rows : List ℕ
T-rows = 1 ∷ 0 ∷ 1 ∷ 0 ∷ 3 ∷ 7 ∷ 10 ∷ 16 ∷ 0 ∷ 0 ∷ 0 ∷ 0 ∷ []

pub T-pages :
    (page_by (walked T 1 0) section_t T-rows 2 0 7 3 ≡ ok (page (located 1 (span 10 11) ∷ []) 2))
    × (page_by (walked T 0 0) section_t T-rows 2 0 parents 3 ≡ ok (page (located 0 (span 1 5) ∷ []) 2))
    × (page_by (walked T 0 1) section_t T-rows 2 0 parents 3 ≡ ok (page (located 0 (span chapter_mark chapter_mark) ∷ []) 2))
    × (page_by (walked T 0 2) section_t T-rows 2 0 parents 3 ≡ bad 18 0 input.Column)
    × (page_by (walked T 0 0) section_t T-rows 4 0 parents 3 ≡ bad 18 0 input.Table)
    × (page_by (walked T 0 0) section_t T-rows 2 3 parents 3 ≡ bad 18 0 input.Place)
    × (page_by (walked T 1 0) section_t T-rows 2 0 0 3 ≡ ok (page [] 2))
    × (page_by (walked T 1 0) section_t T-rows 2 0 7 2 ≡ ok (page [] 1))
unfolding sized sized_by check whole types kind_in kind_of third_group second_group number_in member read_number read_range read_fixed read_variable read_chapter read_kind read_column read_columns read_schema ended read_file file_of own_columns nested_schemas schemas_of read_schemas schema_at with_schema about bit_at bit_set map_bytes value_of int_at read_int is_nullable prefix_size greatest length_error_of length_error allowed bytes_at variable_at field_at nullables presence_bytes marks bit_of present chapter_present clear step walk arrive opened row.walked field_of column_of known look_up look_up_in columns_of rows_from owner_of span_of moved span_in owned_from page_of first_in page_by
T-pages = (refl, refl, refl, refl, refl, refl, refl, refl)
