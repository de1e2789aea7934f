-- By the kind of the row data.
-- Assumes nothing.
use mathlib.Core.Path.{sym, ◌∙◌}
use native.Mathlib.Omega.{arith}
use Rattle.incremental.specs.Steps.{schemas_of}
use Rattle.incremental.specs.Parts.{kind_told}
use Rattle.incremental.proofs.PieceLaws.{size_update, size_original}
use Rattle.incremental.proofs.pieces.maps_size.Goals as goal

pub overflow_mul-result : goal.overflow_mul-result
overflow_mul-result c =
    let u = size_update c.args.sheet.now.slots.now (schemas_of c.args.sheet.now) (kind_told c.args.kind) c.block_of-block.result c.block_of-block.ensures c.map_bytes.result (sym c.is_update.ensures ∙ c.if-is_update.true) c.map_bytes.ensures in
    omega (arith, u.1)

pub returns-then-is_update : goal.returns-then-is_update
returns-then-is_update c =
    size_update c.args.sheet.now.slots.now (schemas_of c.args.sheet.now) (kind_told c.args.kind) c.block_of-block.result c.block_of-block.ensures c.map_bytes.result (sym c.is_update.ensures ∙ c.if-is_update.true) c.map_bytes.ensures

pub returns-else-is_update : goal.returns-else-is_update
returns-else-is_update c =
    size_original c.args.sheet.now.slots.now (schemas_of c.args.sheet.now) (kind_told c.args.kind) c.block_of-block.result c.block_of-block.ensures _ _ (sym c.is_update.ensures ∙ c.if-is_update.false) c.bits_before.ensures.0 c.map_bytes-else-is_update.ensures
