-- All rows have one size; or the map is whole and keeps the mask.
-- Assumes nothing.
use Prim.Native.Nat.{◌*◌}
use mathlib.Core.Path.{refl}
use lib.ListN.{get_or}
use Rattle.quick.proofs.WayLaws.{row_says, rigid_both, rigid_says}
use Rattle.quick.proofs.ends.quick_row.Goals as goal

pub returns-then-is_rigid : goal.returns-then-is_rigid
returns-then-is_rigid c =
    let (n, z) = rigid_both (get_or c.args.shapes.now (8 * c.args.k) 0) c.is_rigid.ensures c.if-is_rigid.true in
    rigid_says c.args.shapes.now c.args.k c.args.section.now c.args.start (λ i. (c.type_inv.section i).fits) c.rigid_end.result refl n z c.rigid_end.ensures

pub returns-then-bits-shapes-eq0 : goal.returns-then-bits-shapes-eq0
returns-then-bits-shapes-eq0 c =
    row_says c.args.shapes.now c.args.k c.args.section.now c.args.start (λ i. (c.type_inv.section i).fits) c.over.result c.map_in-size.ensures.0 c.bits_at-bits.ensures refl c.if-bits-shapes-eq0.true (c.holds.ensures c.if-holds.true).1 c.always_in.ensures c.over.ensures
