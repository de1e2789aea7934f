-- One map behind the other, or the presence map.
-- Assumes nothing.
use mathlib.Core.Path.{sym, ap}
use native.Mathlib.Omega.{arith}
use lib.ListN.{length}
use Rattle.encode.specs.declared.map.Map.TheVariants as maps
use Rattle.encode.specs.Encoding.{pack}
use Rattle.encode.specs.Rows.{columns_of, row_entries}
use Rattle.encode.specs.Steps.{bits_of}
use Rattle.encode.proofs.Laws.{laid_as}
use Rattle.encode.proofs.Writing.{maps_update, maps_original, laid_next}
use Rattle.encode.proofs.row.Row.put_maps.Goals as goal

pub returns-then-self : goal.returns-then-self
returns-then-self c =
    let r = c.args.self.now in
    let e = maps_update (columns_of r) (row_entries r) c.if-self.true in
    laid_as (sym e)
    (laid_next (pack (bits_of maps.Update (columns_of r) (row_entries r))) (pack (bits_of maps.Force (columns_of r) (row_entries r))) c.args.at c.args.out.now (omega (arith, c.requires, ap length e)) c.put_map-first.ensures.0 c.put_map-second.ensures.0)

pub returns-else-self : goal.returns-else-self
returns-else-self c =
    let r = c.args.self.now in
    laid_as (sym (maps_original (columns_of r) (row_entries r) c.if-self.false)) c.put_map.ensures.0
