-- Both maps are whole and keep the masks.
-- Assumes nothing.
use mathlib.Core.Path.{refl}
use Rattle.quick.proofs.WayLaws.{update_says}
use Rattle.quick.proofs.ends.quick_update.Goals as goal

pub returns-then-keeps : goal.returns-then-keeps
returns-then-keeps c =
    update_says c.args.shapes.now c.args.k c.args.section.now c.args.start (λ i. (c.type_inv.section i).fits) c.over.result c.map_in-size.ensures.0 c.bits_at-bits.ensures refl c.bits_at-forced.ensures (c.keeps.ensures c.if-keeps.true) (c.holds.ensures c.if-holds.true).1 c.over.ensures
