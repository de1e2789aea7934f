-- The bit of the mask is on or off.
-- Assumes nothing.
use mathlib.Core.Path.{◌∙◌}
use borrow.Author.Tests.{ne_eqb}
use Rattle.maps.specs.Maps.{top_bit}
use Rattle.jump.proofs.Laws.{marked_set, marked_none}
use Rattle.jump.proofs.look.is_marked.Goals as goal

pub returns-then-mask-b-eq1 : goal.returns-then-mask-b-eq1
unfolding top_bit
returns-then-mask-b-eq1 c = marked_set c.args.row.now c.args.mask c.args.b c.if-mask-b-eq1.true c.is_set.ensures

pub returns-else-mask-b-eq1 : goal.returns-else-mask-b-eq1
unfolding top_bit
returns-else-mask-b-eq1 c = ne_eqb _ _ c.if-mask-b-eq1.false ∙ marked_none c.args.row.now c.args.mask c.args.b c.if-mask-b-eq1.false
