-- The pass as code makes it: what its variables hold before an element, and how each element keeps it.
-- Assumes nothing.
use Rattle.std.specs.Prelude.{Ok, Err}
use Prim.Native.Nat.{ℕ, zero, suc, ◌+◌, ◌*◌, ◌-◌, ◌<◌, ◌≤◌}
use mathlib.Core.Path.{◌≡◌, refl, sym, ap, ◌∙◌}
use mathlib.Core.List.{List, [], ◌++◌, map}
use mathlib.Core.Bool.{true, false}
use mathlib.Core.Option.{some}
use native.Mathlib.Omega.{arith}
use lib.ListN.{length, get_or}
use lib.Dec.{eqb}
use borrow.Author.Tests.{eq-eqb, ne_eqb}
use Rattle.wire.specs.declared.error.Error.{Error}
use Rattle.wire.specs.declared.error.Input.{Input}
use Rattle.wire.specs.Read.{Bytes, AreBytes, Read, ok, bad, refused}
use Rattle.wire.specs.Output.{put}
use Rattle.wire.proofs.Pieces.{bad_ok}
use Rattle.wire.proofs.Laws.{put_not}
use Rattle.column.specs.declared.column.Column.{Column}
use Rattle.walk.specs.Rows.{row_end}
use Rattle.tree.specs.Schemas.{as_column, Schema, columns_of, child_number}
use Rattle.tree.specs.Table.{schema_slot, id_in, schema_in, schemas_in}
use Rattle.tree.proofs.TableSays.{schemas_in_length, schemas_in_at}
use Rattle.tree.proofs.Children.{child_found}
use Rattle.grammar.specs.Grammar.{Before, columns_at, Row, entry}
use Rattle.grammar.specs.Reader.{section}
use Rattle.grammar.specs.Pending.{Pending, child_row_lem, before_of, flush}
use Rattle.grammar.proofs.Pending.{rows_are_section}
use Rattle.section.specs.Heads.{HeadAt, done_head, delete_head, data_head, head_at, before_in, pending_in}
use Rattle.section.specs.Elements.{ElementAt, data_element, delete_element, ElementRefused, by_head, by_data}
use Rattle.section.specs.Table.{row_numbers}
use Rattle.section.specs.Runs.{Run}
use Rattle.section.specs.Scan.{Ready, Scanned}
use Rattle.shapes.specs.Shapes.{slot_columns}
use Rattle.section.specs.Sizes.{in_step, NotedAt, Blank}
use Rattle.walk.specs.Data.{data_end}
use Rattle.section.proofs.RowsByHead.{pending_after, before_pending, HeadTold, told_parent, told_child, told_change}
use Rattle.section.proofs.Scan.{head_refused, data_refused, all_rows, AtElement, Begun, at_start, told, head_done, deleted, Ahead, head_ahead, data_inside, row_ended, change_ended}
use Rattle.section.proofs.Noting.{AtNote, noted_start, noted_next, note_long, note_within, data_ends, delete_ends}
use Rattle.section.proofs.RunLaws.{run_element, run_noted, laid_run_nil}

-- the columns of a schema, by the table of slots
pub columns_at_lem : (slots : List ℕ) (n k : ℕ) → k < n → columns_at (schemas_in 0 n slots) k ≡ slot_columns slots k
unfolding columns_of schema_in
columns_at_lem slots n k h =
    let z : 0 + k ≡ k = omega arith in
    ap (λ (x : Schema). map as_column x.columns) (schemas_in_at 0 n slots k h ∙ ap (λ (j : ℕ). schema_in j slots) z)

-- the slot of a child's schema holds its id
pub child_slot : (slots : List ℕ) (n id k : ℕ) → child_number (schemas_in 0 n slots) id ≡ some k → (1 ≤ k) × (k < n) × (id_in (get_or slots (schema_slot k) 0) ≡ id)
unfolding schema_in
child_slot slots n id k e =
    let (a, b, c) = child_found (schemas_in 0 n slots) id k e in
    let l : k < n = omega (arith, schemas_in_length 0 n slots) in
    let z : 0 + k ≡ k = omega arith in
    (a, l, ap (λ (x : Schema). x.id) (sym (schemas_in_at 0 n slots k l ∙ ap (λ (j : ℕ). schema_in j slots) z)) ∙ c)

begun_in : (slots : List ℕ) (child origin : ℕ) → Begun (pending_in slots child origin) origin
begun_in slots zero origin id start e = let z : ◌≡◌ {A = ℕ} 0 1 = cc in absurd (omega arith)
begun_in slots (suc k) origin id start e = cc

-- what is pending behind an 87 element, as code keeps it
child_pending : (slots : List ℕ) (k id start : ℕ) → 1 ≤ k → id_in (get_or slots (schema_slot k) 0) ≡ id → child_row_lem id start ≡ pending_in slots k start
child_pending slots zero id start h e = absurd (omega (arith, h))
child_pending slots (suc k) id start h e = ap (λ (v : ℕ). child_row_lem v start) (sym e)

-- the ends of parents that are passed by a step
pub step_ends : {slots shapes : List ℕ} {n step : ℕ} {s : Bytes} → Ready slots shapes n s step → AreBytes s →
    1 ≤ step → (at : ℕ) → at + step ≤ length s → row_end (columns_at (schemas_in 0 n slots) 0) s (at + 1) ≡ ok (at + step)
step_ends {slots} {shapes} {n} {step} {s} r o one at l =
    ap (λ (cs : List Column). row_end cs s (at + 1)) (columns_at_lem slots n 0 r.sound.top) ∙ r.steps (slot_columns slots 0) (r.shaped 0 r.sound.top) one s o at l

put_nil : (i : ℕ) (r : Row) → put [] i (row_numbers r) ≡ []
put_nil i r = put_not [] i (row_numbers r) (omega arith)

-- Before an element at `at`: so many rows, the schema number of an open child row is kept, and sizes are noted, the next one at `used`.
pub record AtScan (slots : List ℕ) (n : ℕ) (s : Bytes) (step : ℕ) (sizes₀ sizes : List ℕ) (at rows child used : ℕ) : Type 0 where
  pub origin : ℕ
  pub element : AtElement (schemas_in 0 n slots) s [] [] at rows (pending_in slots child origin)
  pub nested : child < n
  pub noted : AtNote step (schemas_in 0 n slots) s sizes at used
  pub long : length sizes ≡ length sizes₀
  pub room : used ≤ length sizes

pub scan_start : (slots : List ℕ) (n : ℕ) (s : Bytes) (step : ℕ) (sizes : List ℕ) → 1 ≤ n → Blank sizes → AtScan slots n s step sizes sizes 0 0 0 0
scan_start slots n s step sizes h r =
    record {
      origin = 0;
      element = at_start (schemas_in 0 n slots) s [];
      nested = h;
      noted = noted_start step (schemas_in 0 n slots) s sizes r;
      long = refl;
      room = omega arith;
    }

module _ (slots : List ℕ) (n : ℕ) (s : Bytes) (step : ℕ) (sizes₀ sizes : List ℕ) (at rows child used : ℕ) (a : AtScan slots n s step sizes₀ sizes at rows child used) where
  abbrev S : List Schema
  S = schemas_in 0 n slots

  abbrev P : Pending
  P = pending_in slots child a.origin

  -- the head as it is asked for
  here : {r : Read HeadAt} → head_at S s (before_in slots child) at ≡ r → head_at S s (before_of P) at ≡ r
  here e = ap (λ (b : Before). head_at S s b at) (before_pending slots child a.origin) ∙ e

  pub scan_refused : {c o : ℕ} {i : Input} → head_at S s (before_in slots child) at ≡ bad c o i → all_rows S s ≡ bad c o i
  scan_refused e = head_refused S s [] [] at rows P a.element (here e)

  pub few_rows : (rows ≤ at) × (at ≤ length s)
  few_rows = (a.element.few, a.element.inside)

  -- a run of parents
  pub scan_run : {shapes : List ℕ} {m : ℕ} → Ready slots shapes n s step → AreBytes s → Run s at step m → (m ≡ 0 → ⊥) → AtScan slots n s step sizes₀ sizes (at + m * step) (rows + m) 0 used
  scan_run {shapes} {m} r o u z =
      let top : 1 ≤ length S = omega (arith, r.sound.top, schemas_in_length 0 n slots) in
      let e = run_element S s step top o (step_ends r o) m u a.element in
      record {
        origin = 0;
        element = rw (laid_run_nil rows at step m, ne_eqb m 0 z) at e;
        nested = omega (arith, a.nested);
        noted = run_noted S s step top o (step_ends r o) m u a.noted;
        long = a.long;
        room = a.room;
      }

  -- what an element is to the pass: it lies in the section, and behind it there is a row more, or the row before it is closed
  pub record ScanNext (kind k e : ℕ) : Type 0 where
    pub there : at < length s
    pub onward : at < e
    pub within : e ≤ length s
    pub number : kind < 3 → k < n
    pub added : kind < 3 → (exit : List ℕ) (used' : ℕ) → NotedAt sizes exit used (e - at) (in_step step (get_or s at 0)) used' → AtScan slots n s step sizes₀ exit e (rows + 1) k used'
    pub closed : 3 ≤ kind → (exit : List ℕ) (used' : ℕ) → NotedAt sizes exit used (e - at) (in_step step (get_or s at 0)) used' → AtScan slots n s step sizes₀ exit e rows 0 used'

  -- an 8C
  deleted_next : (k id e : ℕ) → AreBytes s → head_at S s (before_in slots child) at ≡ ok (delete_head id) → e ≡ at + 5 → ScanNext 4 k e
  deleted_next k id e o h z =
      let d = deleted S s [] [] at rows P a.element id a.origin o (begun_in slots child a.origin) (here h) in
      let t = told S s [] [] at rows P a.element (delete_head id) (here h) in
      rw z (record {
        there = omega (arith, d.within);
        onward = omega arith;
        within = d.within;
        number = λ l. absurd (omega (arith, l));
        added = λ l exit used' m. absurd (omega (arith, l));
        closed = λ l exit used' m. record {
          origin = 0;
          element = rw (put_nil (4 * (rows - 1)) (entry 4 id a.origin 0)) at d.next;
          nested = omega (arith, a.nested);
          noted = noted_next step S s at (at + 5) (delete_ends S s (before_of P) at t) refl m a.noted;
          long = note_long m ∙ a.long;
          room = note_within m a.room;
        };
      })

  -- row data
  module _ {kind k id start : ℕ} (h : Ahead S s [] [] at rows P a.element kind k id start) (e : ℕ) (q : data_end (eqb kind 3) (columns_at S k) s start ≡ ok e)
      (exit : List ℕ) (used' : ℕ) (m : NotedAt sizes exit used (e - at) (in_step step (get_or s at 0)) used') where
    here_told : HeadTold S s (before_of P) at (data_head kind k id start)
    here_told = told S s [] [] at rows P a.element (data_head kind k id start) h.head

    more : AtNote step S s exit e used'
    more = noted_next step S s at e (data_ends S s (before_of P) at here_told q) refl m a.noted

    -- what is pending behind the row
    pending_kept : eqb kind 3 ≡ false → pending_after kind id start ≡ pending_in slots k start
    pending_kept t = by here_told t
      where
        by : {kind k id start : ℕ} → HeadTold S s (before_of P) at (data_head kind k id start) → eqb kind 3 ≡ false → pending_after kind id start ≡ pending_in slots k start
        by (told_parent i l) t = refl
        by (told_child {k = k} {id = id} {start = start} i c j z l) t =
            let (one, u, v) = child_slot slots n id k c in
            child_pending slots k id start one v
        by (told_change i b c j z l) t = let v : ◌≡◌ {A = ℕ} 0 1 = cc in absurd (omega arith)

    row_next : k < n → eqb kind 3 ≡ false → AtScan slots n s step sizes₀ exit e (rows + 1) k used'
    row_next l t =
        record {
          origin = start;
          element = rw (pending_kept t, put_nil (4 * rows) (entry kind id start 0)) at (row_ended S s [] [] at rows P a.element e h t q);
          nested = l;
          noted = more;
          long = note_long m ∙ a.long;
          room = note_within m a.room;
        }

    change_next : eqb kind 3 ≡ true → AtScan slots n s step sizes₀ exit e rows 0 used'
    change_next t =
        record {
          origin = 0;
          element =
              rw (put_nil (4 * (rows - 1)) (entry 3 id a.origin start)) at
              (change_ended S s [] [] at rows P a.element e a.origin (begun_in slots child a.origin) h t q).1;
          nested = omega (arith, a.nested);
          noted = more;
          long = note_long m ∙ a.long;
          room = note_within m a.room;
        }

  pub scan_next : {kind k e : ℕ} → 1 ≤ n → AreBytes s → ElementAt S s (before_in slots child) at kind k e → ScanNext kind k e
  scan_next one o (delete_element {number = k} {id = id} {end = e} h z) = deleted_next k id e o h z
  scan_next one o (data_element {kind = kind} {number = k} {id = id} {start = start} {end = e} h q) =
      let g = head_ahead S s [] [] at rows P a.element kind k id start (omega (arith, one, schemas_in_length 0 n slots)) o (here h) in
      let (x, y) = data_inside (eqb kind 3) (columns_at S k) s start e q in
      let l : k < n = omega (arith, g.number, schemas_in_length 0 n slots) in
      record {
        there = omega (arith, g.behind, g.within);
        onward = omega (arith, g.behind, x);
        within = y;
        number = λ _. l;
        added = λ t exit used' m. row_next g e q exit used' m l (ne_eqb kind 3 (λ z. omega (arith, z, t)));
        closed = λ t exit used' m. let z : kind ≡ 3 = omega (arith, t, g.low) in change_next g e q exit used' m (eq-eqb kind 3 z);
      }

  -- a refusal of the element is one of the section
  pub element_refused : {e : Error} → 1 ≤ n → AreBytes s → ElementRefused S s (before_in slots child) at e → all_rows S s ≡ refused e
  element_refused one o (by_head h) = scan_refused h
  element_refused one o (by_data {kind = kind} {number = k} {id = id} {start = start} h q) =
      data_refused S s [] [] at rows P a.element (head_ahead S s [] [] at rows P a.element kind k id start (omega (arith, one, schemas_in_length 0 n slots)) o (here h)) q

  -- what the pass answers at the done token
  pub scanned_rows : head_at S s (before_in slots child) at ≡ ok done_head → Scanned S s step sizes (Ok rows)
  scanned_rows e =
      let q : section S s ≡ ok (a.element.listed ++ flush P []) = rows_are_section S s ∙ head_done S s [] [] at rows P a.element (here e) in
      record { answers = rw q (ap (λ (x : ℕ). ok x) a.element.count); notes = λ rs r. a.noted.some }

-- what the pass answers at an error
pub scanned_refused : (S : List Schema) (s : Bytes) (step : ℕ) (sizes : List ℕ) (e : Error) → all_rows S s ≡ refused e → Scanned S s step sizes (Err e)
scanned_refused S s step sizes e q =
    let r : section S s ≡ refused e = rows_are_section S s ∙ q in
    record { answers = rw r refl; notes = λ rs p. absurd (bad_ok (sym r ∙ p)) }
