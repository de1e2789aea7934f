-- Two maps of one bit a column, or the presence map.
-- Assumes nothing.
use mathlib.Core.Path.{sym, ap, ◌∙◌}
use native.Mathlib.Omega.{arith}
use lib.ListN.{length}
use Rattle.encode.specs.Rows.{columns_of, row_entries}
use Rattle.encode.proofs.Maps.{few_bytes, held_size}
use Rattle.encode.proofs.Writing.{maps_two, maps_original}
use Rattle.encode.proofs.row.Row.maps_size.Goals as goal

pub overflow_mul-result : goal.overflow_mul-result
overflow_mul-result c = omega (arith, few_bytes c.args.self.now.few, c.map_bytes.ensures)

pub returns-then-self : goal.returns-then-self
returns-then-self c =
    let r = c.args.self.now in
    (omega (arith, maps_two r.columns.now (length r.columns.now) r.entries.now r.values.now c.if-self.true, c.map_bytes.ensures), omega (arith, few_bytes r.few, c.map_bytes.ensures))

pub returns-else-self : goal.returns-else-self
returns-else-self c =
    let r = c.args.self.now in (
      c.map_bytes-else-self.ensures ∙ held_size c.bits.ensures ∙ ap length (sym (maps_original (columns_of r) (row_entries r) c.if-self.false)),
      omega (arith, few_bytes c.bits.ensures.few, c.map_bytes-else-self.ensures),
    )
