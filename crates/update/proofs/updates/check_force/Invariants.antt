-- What is left to check from column i on is what there was from the start.
-- Assumes nothing.
use mathlib.Core.Path.{◌≡◌}
use lib.ListN.{drop}
use Rattle.walk.specs.Presence.{clear}
use Rattle.walk.specs.Updates.{numbered, force_broken}
use Rattle.update.proofs.updates.check_force.Given as goal

abbrev pub invariant-loop-i : goal.invariant-loop-i
invariant-loop-i l =
    clear (force_broken l.update l.force) 13 l.at (numbered 0 l.columns) ≡ clear (force_broken l.update l.force) 13 l.at (drop l.i (numbered 0 l.columns))
