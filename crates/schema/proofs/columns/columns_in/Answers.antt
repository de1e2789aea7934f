-- The loop goes on with one more column in the arrays.
-- Assumes nothing.
use mathlib.Core.Path.{refl, ◌∙◌}
use native.Mathlib.Omega.{arith}
use Rattle.tree.proofs.Layouts.{fill_start, fill_next, fill_end}
use Rattle.schema.proofs.columns.columns_in.Goals as goal

pub loop-i-init : goal.loop-i-init
loop-i-init c = (omega (arith, c.min-first.ensures), omega (arith, c.min-n.ensures), fill_start _ _ _)

pub loop-i-preserved : goal.loop-i-preserved
loop-i-preserved c =
    (c.loop-i.invariant.0, c.loop-i.invariant.1, fill_next _ _ _ c.loop-i.invariant.1 c.loop-i.invariant.2 c.loop-i-test.true _ (cc))

pub returns : goal.returns
returns c = fill_end _ _ _ c.loop-i.invariant.2 c.loop-i-test.false ∙ rw (c.min-first.ensures, c.min-n.ensures) refl
