-- Each way out is the definition's.
-- Assumes nothing.
use mathlib.Core.Path.{sym, ap, subst, ◌∙◌}
use Prim.Native.Nat.{ℕ}
use mathlib.Core.List.{List}
use mathlib.Core.Bool.{Bool}
use Rattle.wire.specs.Read.{Bytes, Read, refused}
use Rattle.column.specs.declared.column.Column.{Column}
use Rattle.encode.specs.Writers.{values_sized, WroteAt}
use Rattle.encode.proofs.Writing.{Task, answer, values_over, values_within, place_outside, entries_miscounted, entries_none, row_refused}
use Rattle.encode.proofs.writers.write_row.Goals.{then-entries-columns-via-then-entries-columns, then-entries-columns-via-else-entries-columns+then-not-are_entries}
use Rattle.encode.proofs.writers.write_row.Goals as goal

-- what is asked for
abbrev asked : Bool → List Column → (entries : List ℕ) (values out : Bytes) (place : ℕ) → Task
asked update columns entries values out place =
    record { update = update; columns = columns; numbers = entries; values = values; out = out; place = place }

pub returns-then-values-gt-LIMIT : goal.returns-then-values-gt-LIMIT
returns-then-values-gt-LIMIT c =
    let t : Task = asked c.args.update c.args.columns.now c.args.entries.now c.args.values.now c.args.out.now c.args.place in
    rw c.at_start.ensures (row_refused (values_sized t.values (answer t)) t.place t.out _ (values_over t.values (answer t) c.if-values-gt-LIMIT.true))

pub returns-then-place-out : goal.returns-then-place-out
returns-then-place-out c =
    let t : Task = asked c.args.update c.args.columns.now c.args.entries.now c.args.values.now c.args.out.now c.args.place in
    let w = values_within t.values (answer t) c.if-values-gt-LIMIT.false in
    row_refused (values_sized t.values (answer t)) t.place t.out _ (w ∙ place_outside t c.if-place-out.true ∙ sym (ap refused c.at_start-then-place-out.ensures))

pub returns-then-entries-columns : goal.returns-then-entries-columns
returns-then-entries-columns c =
    let t : Task = asked c.args.update c.args.columns.now c.args.entries.now c.args.values.now c.args.out.now c.args.place in
    let v = values_within t.values (answer t) c.if-values-gt-LIMIT.false in
    elim c.then-entries-columns.branch [
      | then-entries-columns-via-then-entries-columns w ↦
          row_refused (values_sized t.values (answer t)) t.place t.out _
          (v ∙ entries_miscounted t c.if-place-out.false w.if-entries-columns.true ∙ sym (ap refused c.at_start-then-entries-columns.ensures))
      | then-entries-columns-via-else-entries-columns+then-not-are_entries w ↦
          row_refused (values_sized t.values (answer t)) t.place t.out _
          (v ∙ entries_none t c.if-place-out.false w.if-entries-columns.false (sym w.are_entries.ensures ∙ w.if-not-are_entries.true)
          ∙ sym (ap refused c.at_start-then-entries-columns.ensures))
    ]

pub returns : goal.returns
returns c =
    let t : Task = asked c.args.update c.args.columns.now c.args.entries.now c.args.values.now c.args.out.now c.args.place in
    subst (λ (r : Read Bytes). WroteAt r t.place t.out c.write.new.out c.write.result) (sym (values_within t.values (answer t) c.if-values-gt-LIMIT.false)) c.write.ensures
