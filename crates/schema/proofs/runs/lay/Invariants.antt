-- One slot after the other.
-- Assumes nothing.
use mathlib.Core.Path.{◌≡◌}
use Rattle.schema.specs.Runs.{laid_from}
use Rattle.schema.proofs.runs.lay.Given as goal

abbrev pub invariant-loop-i : goal.invariant-loop-i
invariant-loop-i l = l.table ≡ laid_from l.slot l.i l.slots l.initial.table
