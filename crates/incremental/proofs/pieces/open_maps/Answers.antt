-- The maps keep their rules or not.
-- Assumes nothing.
use mathlib.Core.Path.{sym, ap, ◌∙◌}
use lib.ListN.{length}
use Rattle.incremental.specs.Steps.{schemas_of}
use Rattle.incremental.specs.Parts.{kind_told}
use Rattle.feeding.specs.Machine.{from}
use Rattle.incremental.specs.Record.{kind_in, held_in}
use Rattle.incremental.proofs.PieceLaws.{columns_open, map_opened, maps_stopped, maps_kept, reached_exit}
use Rattle.incremental.proofs.pieces.open_maps.Goals.{then-update+in_ok-from, else-update+else-not-opens}
use Rattle.incremental.proofs.pieces.open_maps.Goals as goal

pub returns-in_err-from : goal.returns-in_err-from
returns-in_err-from c =
    let d = columns_open c.args.sheet.now.slots.now (schemas_of c.args.sheet.now) (kind_told c.row_kind-kind.result) c.block_of-block.result c.block_of-block.ensures c.piece-piece.result.now c.columns_in-columns.ensures (sym c.is_update-update.ensures) c.open_data.ensures in
    let e = rw (c.row_kind-kind.ensures, c.piece-piece.ensures.0) at d in
    reached_exit _ _ _ c.in_err-from.field-0.0 c.from_residual.ensures.1
    (sym (maps_stopped (schemas_of c.args.sheet.now) c.args.r.now.rows c.args.r.now.at (held_in c.args.r.now) (kind_in c.args.r.now) (ap (from c.args.r.now.at) e ∙ sym c.in_err-from.ensures)))

pub returns : goal.returns
returns c =
    let l = sym (ap length c.piece-piece.ensures.0) ∙ c.piece-piece.ensures.1 in
    elim c.if-update.branch [
      | then-update+in_ok-from w ↦
          let d = columns_open c.args.sheet.now.slots.now (schemas_of c.args.sheet.now) (kind_told c.row_kind-kind.result) c.block_of-block.result c.block_of-block.ensures c.piece-piece.result.now w.columns_in-columns.ensures (sym c.is_update-update.ensures) w.open_data.ensures in
          let e = rw (c.row_kind-kind.ensures, c.piece-piece.ensures.0) at d in
          rw (maps_kept (schemas_of c.args.sheet.now) c.args.r.now.rows c.args.r.now.at (held_in c.args.r.now) (kind_in c.args.r.now) (ap (from c.args.r.now.at) e ∙ sym w.in_ok-from.ensures), l) c.from_maps.ensures
      | else-update+else-not-opens w ↦
          let d = map_opened c.args.sheet.now.slots.now (schemas_of c.args.sheet.now) (kind_told c.row_kind-kind.result) c.block_of-block.result c.block_of-block.ensures c.piece-piece.result.now (sym c.is_update-update.ensures) (w.if-update.false, w.opens.ensures w.if-not-opens.false) in
          let e = rw (c.row_kind-kind.ensures, c.piece-piece.ensures.0) at d in
          rw (maps_kept (schemas_of c.args.sheet.now) c.args.r.now.rows c.args.r.now.at (held_in c.args.r.now) (kind_in c.args.r.now) (ap (from c.args.r.now.at) e), l) c.from_maps.ensures
    ]
