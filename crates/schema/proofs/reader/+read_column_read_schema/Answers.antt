-- The two readers as the definitions that fill a table: each exit is a law of these, and the loop goes on with the columns
-- that are left.
-- Assumes nothing.
use Rattle.std.proofs.Common.{◌≡◌, ℕ, suc, ◌+◌, ◌-◌, arith, refl, sym, ap, ◌∙◌}
use Rattle.wire.specs.Read.{ok, refused}
use Rattle.tree.specs.Filling.{filled, fill_schema}
use Rattle.entry.specs.Heads.{field_head, id_head, head_at}
use Rattle.schema.specs.Told.{placed, Onward}
use Rattle.entry.proofs.Heads.{InRange, head_inside, head_small, range_inside}
use Rattle.schema.proofs.Reading.{column_refused, column_filled, chapter_seen, chapter_new, moves_from, schema_deep, schema_refused, schema_over, loop-next, loop-refused, loop-ends, told_refused, told_passed}
use Rattle.schema.proofs.Running.{behind, run_on}
use Rattle.std.proofs.Common.{set}
use Rattle.schema.proofs.reader.+read_column_read_schema.Goals.{read_column-In-Field, read_column-In-Chapter, read_schema-In_ok-count, read_schema-Else-start-count-gt-MOST_FILE_COLUMNS}
use Rattle.schema.proofs.reader.+read_column_read_schema.Goals as goal

-- what the numbers of a column are
field : (t : ℕ) (c : read_column-In-Field t) → head_at c.args.file.now c.args.place.at ≡ ok (field_head c.in-Field.column.code c.in-Field.column.flags c.in-Field.column.maximum c.in-Field.end)
field t c = sym (rw c.in-Field.is at c.in_ok-head.ensures)

chapter : (t : ℕ) (c : read_column-In-Chapter t) → head_at c.args.file.now c.args.place.at ≡ ok (id_head c.in-Chapter.flags c.in-Chapter.id c.in-Chapter.id_at c.in-Chapter.end)
chapter t c = sym (rw c.in-Chapter.is at c.in_ok-head.ensures)

-- the count of a schema
count : (t : ℕ) (c : read_schema-In_ok-count t) → InRange 1 64 c.args.file.now c.args.place.at c.in_ok-count.field-0.value c.in_ok-count.field-0.end
count t c = range_inside 1 64 c.args.file.now c.args.place.at (sym c.in_ok-count.ensures)

pub read_column-returns-in_err-head : goal.read_column-returns-in_err-head
read_column-returns-in_err-head t c =
    told_passed _ _ c.from_residual.ensures.1
    (column_refused (fill_schema c.args.depth c.args.file.now) c.args.file.now c.args.slot (placed c.args.place c.args.table.now) _ (sym c.in_err-head.ensures))

pub read_column-returns-then-is_seen : goal.read_column-returns-then-is_seen
read_column-returns-then-is_seen t c =
    let h = chapter t (goal.at.read_column-returns-then-is_seen t c).In-Chapter in
    told_refused _
    (chapter_seen (fill_schema c.args.depth c.args.file.now) c.args.file.now c.args.slot (placed c.args.place c.args.table.now) _ _ _ _ h (sym c.if-is_seen.ensures)
    ∙ sym (ap refused c.at.ensures))

pub read_column-packed-requires-in-Chapter : goal.read_column-packed-requires-in-Chapter
read_column-packed-requires-in-Chapter t c =
    let h = chapter t (goal.at.read_column-packed-requires-in-Chapter t c).In-Chapter in
    (head_small c.args.file.now c.args.place.at h (λ i. (c.type_inv.file i).fits)).1

pub read_column-read_schema-requires : goal.read_column-read_schema-requires
read_column-read_schema-requires t c =
    let h = chapter t (goal.at.read_column-read_schema-requires t c).In-Chapter in
    let s = head_small c.args.file.now c.args.place.at h (λ i. (c.type_inv.file i).fits) in
    let n = head_inside c.args.file.now c.args.place.at h in
    (omega (arith, c.decreases, n.0, n.1), (record { inside = n.1; room = c.requires.0.room; fewer = c.requires.0.fewer }, s.1))

pub read_column-returns-in-Field : goal.read_column-returns-in-Field
read_column-returns-in-Field t c =
    let h = field t (goal.at.read_column-returns-in-Field t c).In-Field in
    let n = head_inside c.args.file.now c.args.place.at h in
    record {
      answers =
          ap (λ (v : ℕ). ok (filled c.in-Field.end c.args.place.columns c.args.place.schemas (set c.args.table.now c.args.slot v))) c.packed.ensures
          ∙ sym (column_filled (fill_schema c.args.depth c.args.file.now) c.args.file.now c.args.slot (placed c.args.place c.args.table.now) _ _ _ c.in-Field.end h);
      moves = record { ready = record { inside = n.1; room = c.requires.0.room; fewer = c.requires.0.fewer }; further = omega (arith, n.0); columns = omega arith; schemas = omega arith };
    }

pub read_column-returns-else-is_seen : goal.read_column-returns-else-is_seen
read_column-returns-else-is_seen t c =
    let h = chapter t (goal.at.read_column-returns-else-is_seen t c).In-Chapter in
    let n = head_inside c.args.file.now c.args.place.at h in
    record {
      answers =
          c.read_schema.ensures.answers
          ∙ ap (λ (v : ℕ). fill_schema c.args.depth c.args.file.now c.in-Chapter.id (filled c.in-Chapter.end c.args.place.columns c.args.place.schemas (set c.args.table.now c.args.slot v))) c.packed-in-Chapter.ensures
          ∙ sym (chapter_new (fill_schema c.args.depth c.args.file.now) c.args.file.now c.args.slot (placed c.args.place c.args.table.now) _ _ _ _ h (sym c.if-is_seen.ensures));
      moves = moves_from c.args.file.now c.args.place _ c.read_schema.result (omega (arith, n.0)) (omega arith) (omega arith) c.read_schema.ensures.moves;
    }

pub read_schema-returns-then-depth-eq0 : goal.read_schema-returns-then-depth-eq0
read_schema-returns-then-depth-eq0 t c =
    told_refused _
    (ap (λ (d : ℕ). fill_schema d c.args.file.now c.args.id (placed c.args.place c.args.table.now)) c.if-depth-eq0.true
    ∙ schema_deep c.args.file.now c.args.id (placed c.args.place c.args.table.now)
    ∙ sym (ap refused c.at.ensures))

pub read_schema-returns-in_err-count : goal.read_schema-returns-in_err-count
read_schema-returns-in_err-count t c =
    let z : c.args.depth ≡ suc (c.args.depth - 1) = omega (arith, c.if-depth-eq0.false) in
    told_passed _ _ c.from_residual.ensures.1
    (ap (λ (d : ℕ). fill_schema d c.args.file.now c.args.id (placed c.args.place c.args.table.now)) z
    ∙ schema_refused (c.args.depth - 1) c.args.file.now c.args.id (placed c.args.place c.args.table.now) _ (sym c.in_err-count.ensures))

pub read_schema-overflow_add-start : goal.read_schema-overflow_add-start
read_schema-overflow_add-start t c = omega (arith, (count t c).most, c.requires.0.room)

pub read_schema-returns-then-start-count-gt-MOST_FILE_COLUMNS : goal.read_schema-returns-then-start-count-gt-MOST_FILE_COLUMNS
read_schema-returns-then-start-count-gt-MOST_FILE_COLUMNS t c =
    let z : c.args.depth ≡ suc (c.args.depth - 1) = omega (arith, c.if-depth-eq0.false) in
    told_refused _
    (ap (λ (d : ℕ). fill_schema d c.args.file.now c.args.id (placed c.args.place c.args.table.now)) z
    ∙ schema_over (c.args.depth - 1) c.args.file.now c.args.id (placed c.args.place c.args.table.now) _ _ (sym c.in_ok-count.ensures) c.if-start-count-gt-MOST_FILE_COLUMNS.true
    ∙ sym (ap refused c.at-then-start-count-gt-MOST_FILE_COLUMNS.ensures))

pub read_schema-block-requires : goal.read_schema-block-requires
read_schema-block-requires t c = (c.requires.0.room, (count t (goal.at.read_schema-block-requires t c).In_ok-count).most, c.requires.1)

pub read_schema-bounds-table-number : goal.read_schema-bounds-table-number
read_schema-bounds-table-number t c =
    let r = count t (goal.at.read_schema-bounds-table-number t c).In_ok-count in
    omega (arith, r.least, c.requires.0.fewer, c.if-start-count-gt-MOST_FILE_COLUMNS.false)

pub read_schema-loop-i-init : goal.read_schema-loop-i-init
read_schema-loop-i-init t c =
    let r = count t (goal.at.read_schema-loop-i-init t c).In_ok-count in
    let x : c.in_ok-count.field-0.value - 0 ≡ c.in_ok-count.field-0.value = omega arith in
    let y : c.args.place.columns + 0 ≡ c.args.place.columns = omega arith in (
      omega arith,
      r.most,
      omega arith,
      r.after,
      record { inside = r.inside; room = c.if-start-count-gt-MOST_FILE_COLUMNS.false; fewer = omega (arith, r.least, c.requires.0.fewer) },
      omega arith,
      rw (x, y) refl,
    )

pub read_schema-returns-in_err-here : goal.read_schema-returns-in_err-here
read_schema-returns-in_err-here t c =
    told_passed _ _ c.from_residual-in_err-here.ensures.1
    (loop-refused c.args.file.now c.args.depth c.args.id (placed c.args.place c.args.table.now) c.in_ok-count.field-0.value c.in_ok-count.field-0.end c.block.result c.if-depth-eq0.false
    (sym c.in_ok-count.ensures) c.if-start-count-gt-MOST_FILE_COLUMNS.false c.block.ensures
    (c.loop-i.i + c.read_columns-run.result.count) (placed (behind c.loop-i.here c.read_columns-run.result) c.read_columns-run.new.table)
    (c.loop-i.invariant.6
    ∙ run_on (fill_schema (c.args.depth - 1) c.args.file.now) c.args.file.now c.args.place.columns c.in_ok-count.field-0.value c.loop-i.i c.loop-i.here c.loop-i.table c.read_columns-run.new.table c.read_columns-run.result c.read_columns-run.ensures)
    c.if-i-count.true _ (sym c.in_err-here.ensures.answers))

pub read_schema-loop-i-preserved-then-i-count : goal.read_schema-loop-i-preserved-then-i-count
read_schema-loop-i-preserved-then-i-count t c =
    let m : Onward c.args.file.now (behind c.loop-i.here c.read_columns-run.result) c.in_ok-here.here = c.in_ok-here.ensures.moves in (
      omega (arith, c.if-i-count.true),
      c.loop-i.invariant.1,
      omega (arith, c.loop-i.invariant.2, m.columns),
      omega (arith, c.loop-i.invariant.3, c.read_columns-run.ensures.further, m.further),
      m.ready,
      omega (arith, c.loop-i.invariant.5, m.schemas),
      loop-next c.args.file.now c.args.depth c.args.id (placed c.args.place c.args.table.now) c.in_ok-count.field-0.value c.in_ok-count.field-0.end c.block.result c.if-depth-eq0.false
          (sym c.in_ok-count.ensures) c.if-start-count-gt-MOST_FILE_COLUMNS.false c.block.ensures
          (c.loop-i.i + c.read_columns-run.result.count) (placed (behind c.loop-i.here c.read_columns-run.result) c.read_columns-run.new.table)
          (c.loop-i.invariant.6
          ∙ run_on (fill_schema (c.args.depth - 1) c.args.file.now) c.args.file.now c.args.place.columns c.in_ok-count.field-0.value c.loop-i.i c.loop-i.here c.loop-i.table c.read_columns-run.new.table c.read_columns-run.result c.read_columns-run.ensures)
          c.if-i-count.true (placed c.in_ok-here.here c.read_column.new.table) (sym c.in_ok-here.ensures.answers),
    )

pub read_schema-returns : goal.read_schema-returns
read_schema-returns t c =
    record {
      answers = sym (loop-ends c.args.file.now c.args.depth c.args.id (placed c.args.place c.args.table.now) c.in_ok-count.field-0.value c.in_ok-count.field-0.end c.block.result c.if-depth-eq0.false
          (sym c.in_ok-count.ensures) c.if-start-count-gt-MOST_FILE_COLUMNS.false c.block.ensures
          c.loop-i.i (placed c.loop-i.here c.loop-i.table) c.loop-i.invariant.6 c.loop-i-test.false);
      moves = record { ready = c.loop-i.invariant.4; further = omega (arith, c.loop-i.invariant.3); columns = omega (arith, c.loop-i.invariant.2); schemas = omega (arith, c.loop-i.invariant.5) };
    }
