-- Each column is a step of the walk.
-- Assumes nothing.
use Prim.Native.Nat.{ℕ, ◌+◌, min}
use mathlib.Core.Path.{◌≡◌, refl, sym, ap, ◌∙◌}
use native.Mathlib.Omega.{arith}
use lib.ListN.{length, get_or}
use Rattle.std.proofs.lemmas.Result.{err_from_is_err_and}
use Rattle.wire.specs.Read.{ok}
use Rattle.column.specs.declared.column.Column.{Column}
use Rattle.column.specs.Columns.{width}
use Rattle.column.specs.Fields.{field_at}
use Rattle.column.specs.Packed.{packed_from}
use Rattle.walk.specs.Presence.{marks, mark_of, no_column, present}
use Rattle.walk.specs.Rows.{place, walk, step}
use Rattle.walk.proofs.Laws.{bit_zero, length_marks, walk_zero, walk_least, walk_ended, columns_next, step_absent, step_field, step_refused}
use Rattle.walk.proofs.Arrays.{few_prefixes}
use Rattle.walk.proofs.Slots.{length_from, asked, marked, bit_on, one_byte, whole_field}
use Rattle.row.proofs.rows.walk_row.Goals.{After-unpack_slot-column, After-is_present, then-is_present+then-is_whole, then-is_present+else-is_whole+in_ok-f, else-is_present}
use Rattle.row.proofs.rows.walk_row.Goals as goal

-- the walk up to column i goes on with a step
steps : (a : After-unpack_slot-column) → walk (present a.args.map.now) a.args.row.now (a.loop-i.i + 1) (marks 0 (packed_from (length a.args.slots.now) 0 a.args.slots.now)) (place a.args.start 0) ≡ step (present a.args.map.now) a.args.row.now (mark_of (packed_from (length a.args.slots.now) 0 a.args.slots.now) a.loop-i.i) (place a.loop-i.position a.loop-i.prefixes)
steps a = columns_next (present a.args.map.now) a.args.row.now (packed_from (length a.args.slots.now) 0 a.args.slots.now) a.loop-i.i (place a.args.start 0) (omega (arith, length_from a.args.slots.now (length a.args.slots.now) 0)) a.loop-i.invariant.3

-- whether the column has a field
stands : (a : After-is_present) → present a.args.map.now (mark_of (packed_from (length a.args.slots.now) 0 a.args.slots.now) a.loop-i.i) ≡ a.is_present.result
stands a = marked a.args.slots.now (present a.args.map.now) (length a.args.slots.now) a.loop-i.i _ _ (omega arith) a.unpack_slot-column.ensures a.loop-i.invariant.1 a.is_present.ensures

-- its field
read : (a : After-unpack_slot-column) → field_at (get_or (packed_from (length a.args.slots.now) 0 a.args.slots.now) a.loop-i.i no_column) a.args.row.now a.loop-i.position ≡ field_at a.unpack_slot-column.result a.args.row.now a.loop-i.position
read a = asked a.args.slots.now (λ (x : Column). field_at x a.args.row.now a.loop-i.position) (length a.args.slots.now) a.loop-i.i a.unpack_slot-column.result (omega arith) a.unpack_slot-column.ensures refl

pub loop-i-init : goal.loop-i-init
loop-i-init c = (omega arith, sym (bit_zero _), omega arith, walk_zero _ _ _ _)

pub overflow_add-prefixes : goal.overflow_add-prefixes
overflow_add-prefixes c = omega (arith, few_prefixes _ _ _ (sym c.in_ok-f.ensures))

pub returns-in_err-f : goal.returns-in_err-f
returns-in_err-f c =
    let p = err_from_is_err_and c.from_residual.result c.from_residual.ensures.1 in
    rw (p.1, p.2)
    (sym (walk_ended (present c.args.map.now) c.args.row.now (c.loop-i.i + 1) c.args.k (marks 0 (packed_from (length c.args.slots.now) 0 c.args.slots.now)) (place c.args.start 0) (omega arith)
    (steps (goal.at.returns-in_err-f c).After-unpack_slot-column
    ∙ step_refused _ _ _ (place c.loop-i.position c.loop-i.prefixes) (stands (goal.at.returns-in_err-f c).After-is_present ∙ c.if-is_present.true)
    (read (goal.at.returns-in_err-f c).After-unpack_slot-column ∙ sym c.in_err-f.ensures))))

pub loop-i-preserved : goal.loop-i-preserved
loop-i-preserved c =
    let e =
    bit_on c.args.slots.now (length c.args.slots.now) c.loop-i.i c.loop-i.bit c.unpack_slot-column.result (omega arith) c.loop-i.invariant.0 c.loop-i.invariant.1
    c.unpack_slot-column.ensures c.is_nullable.ensures (c.from-bit.ensures ∙ one_byte _) in
    let s = steps (goal.at.loop-i-preserved c).After-unpack_slot-column in
    let t = stands (goal.at.loop-i-preserved c).After-is_present in
    let r = read (goal.at.loop-i-preserved c).After-unpack_slot-column in
    elim c.if-is_present.branch [
      | then-is_present+then-is_whole w ↦
          let o = whole_field c.unpack_slot-column.result c.args.row.now c.loop-i.position w.is_whole.ensures w.if-is_whole.true in
          let z : c.loop-i.prefixes + 0 ≡ c.loop-i.prefixes = omega arith in (
            e.1,
            e.0,
            omega (arith, w.prefixes-is),
            rw (w.position-is, w.prefixes-is, w.width-position.ensures)
                (s ∙ step_field _ _ _ (place c.loop-i.position c.loop-i.prefixes) _ (t ∙ w.if-is_present.true) (r ∙ o.1)
                ∙ ap (λ (n : ℕ). ok (place (c.loop-i.position + width c.unpack_slot-column.result) n)) z),
          )
      | then-is_present+else-is_whole+in_ok-f w ↦
          let q = few_prefixes _ _ _ (sym w.in_ok-f.ensures) in (
            e.1,
            e.0,
            omega (arith, q, w.prefixes-is),
            rw (w.position-is, w.prefixes-is)
                (s ∙ step_field _ _ _ (place c.loop-i.position c.loop-i.prefixes) _ (t ∙ w.if-is_present.true) (r ∙ sym w.in_ok-f.ensures)),
          )
      | else-is_present w ↦ (
        e.1,
        e.0,
        omega (arith, w.prefixes-is),
        rw (w.position-is, w.prefixes-is) (s ∙ step_absent _ _ _ (place c.loop-i.position c.loop-i.prefixes) (t ∙ w.if-is_present.false)),
      )
    ]

pub returns : goal.returns
returns c =
    let n : length (marks 0 (packed_from (length c.args.slots.now) 0 c.args.slots.now)) ≡ length c.args.slots.now = length_marks 0 (packed_from (length c.args.slots.now) 0 c.args.slots.now) ∙ length_from c.args.slots.now (length c.args.slots.now) 0 in
    let e : min (length (marks 0 (packed_from (length c.args.slots.now) 0 c.args.slots.now))) c.args.k ≡ c.loop-i.i = omega arith in
    sym (walk_least (present c.args.map.now) c.args.row.now c.args.k (marks 0 (packed_from (length c.args.slots.now) 0 c.args.slots.now)) (place c.args.start 0)
    ∙ ap (λ (j : ℕ). walk (present c.args.map.now) c.args.row.now j (marks 0 (packed_from (length c.args.slots.now) 0 c.args.slots.now)) (place c.args.start 0)) e
    ∙ c.loop-i.invariant.3)
