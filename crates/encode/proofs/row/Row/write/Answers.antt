-- Each way out is the definition's.
-- Assumes nothing.
use Prim.Native.Nat.{ℕ, ◌+◌}
use mathlib.Core.Path.{◌≡◌, sym, ap, ◌∙◌}
use native.Mathlib.Omega.{arith}
use Rattle.std.proofs.lemmas.Result.{err_from_is_err_and}
use Rattle.wire.specs.declared.error.ErrorKind.TheVariants as kind
use Rattle.wire.specs.declared.error.Input.TheVariants as input
use Rattle.wire.specs.Read.{Bytes, ok, told}
use Rattle.column.specs.Layout.{blank_column}
use Rattle.encode.specs.declared.row.Row.{Row}
use Rattle.encode.proofs.Arrays.{fields_most}
use Rattle.encode.proofs.Writing.{Task, answer, sizes_of, Checked, entry_refused, fields_sized, row_over, maps_fit, fields_fit, row_written, row_refused}
use Rattle.encode.proofs.row.Row.write.Goals.{Start, In_ok-fields}
use Rattle.encode.proofs.row.Row.write.Goals as goal

-- what is asked for
abbrev asked : Row → Bytes → (place : ℕ) → Task
asked r out place =
    record {
      update = r.update;
      columns = r.columns.now;
      numbers = r.entries.now;
      values = r.values.now;
      out = out;
      place = place;
    }

abbrev task : Start → Task
task c = asked c.args.self.now c.args.out.now c.args.place

-- what a row of the program is
checked : (c : Start) → Checked (task c)
checked c = record { inside = c.requires; counted = c.args.self.now.counted; are = c.args.self.now.are }

-- and where each entry can stand
sized : (c : In_ok-fields) → ok c.in_ok-fields.fields ≡ sizes_of (asked c.args.self.now c.args.out.now c.args.place)
sized c = sym (ap told c.in_ok-fields.was) ∙ c.fields_size.ensures

pub returns-in_err-fields : goal.returns-in_err-fields
returns-in_err-fields c =
    let t : Task = asked c.args.self.now c.args.out.now c.args.place in
    let k : Checked t = checked (goal.at.returns-in_err-fields c).Start in
    let p = err_from_is_err_and c.from_residual.result c.from_residual.ensures.1 in
    rw (p.1, p.2) (row_refused (answer t) c.args.place c.args.out.now _ (entry_refused t k _ (sym (ap told c.in_err-fields.was) ∙ c.fields_size.ensures)))

pub overflow_add-size : goal.overflow_add-size
overflow_add-size c =
    let r = c.args.self.now in
    let t : Task = asked r c.args.out.now c.args.place in
    let at = goal.at.overflow_add-size c in
    let k : Checked t = checked at.Start in
    omega (arith, fields_sized t k (sized at.In_ok-fields), fields_most r.columns.now r.entries.now r.values.now blank_column r.within, r.few, c.maps_size.ensures.1)

pub returns-then-size-out : goal.returns-then-size-out
returns-then-size-out c =
    let t : Task = asked c.args.self.now c.args.out.now c.args.place in
    let at = goal.at.returns-then-size-out c in
    let k : Checked t = checked at.Start in
    rw (c.about.ensures, c.at.ensures)
    (row_refused (answer t) c.args.place c.args.out.now (record { kind = kind.Capacity; offset = c.maps_size.result + c.in_ok-fields.fields; input = input.Output }) (row_over t k (sized at.In_ok-fields) c.maps_size.ensures.0 c.if-size-out.true))

pub put_maps-maps-requires : goal.put_maps-maps-requires
put_maps-maps-requires c =
    let t : Task = asked c.args.self.now c.args.out.now c.args.place in
    let at = goal.at.put_maps-maps-requires c in
    maps_fit t (checked at.Start) (sized at.In_ok-fields) c.maps_size.ensures.0 c.if-size-out.false

pub put_fields-requires : goal.put_fields-requires
put_fields-requires c =
    let t : Task = asked c.args.self.now c.args.out.now c.args.place in
    let at = goal.at.put_fields-requires c in
    fields_fit t (checked at.Start) (sized at.In_ok-fields) c.maps_size.ensures.0 c.if-size-out.false c.put_maps-maps.ensures

pub returns : goal.returns
returns c =
    let t : Task = asked c.args.self.now c.args.out.now c.args.place in
    let at = goal.at.returns c in
    row_written t (checked at.Start) (sized at.In_ok-fields) c.maps_size.ensures.0 c.if-size-out.false c.put_maps-maps.ensures c.put_fields.ensures
