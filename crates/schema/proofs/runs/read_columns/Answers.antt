-- The slots are laid into the table.
-- Assumes nothing.
use mathlib.Core.Path.{refl}
use native.Mathlib.Omega.{arith}
use Rattle.schema.proofs.Running.{run_laid}
use Rattle.schema.proofs.runs.read_columns.Goals as goal

pub read_run-run-requires : goal.read_run-run-requires
read_run-run-requires c =
    (c.requires.0, omega (arith, c.min.ensures), refl)

pub lay-requires : goal.lay-requires
lay-requires c =
    (omega (arith, c.read_run-run.ensures.few, c.min.ensures), omega (arith, c.read_run-run.ensures.few, c.min.ensures, c.requires.1))

pub returns : goal.returns
returns c =
    run_laid _ _ _ _ _ _ _ _ _ c.read_run-run.ensures (omega (arith, c.min.ensures)) c.lay.ensures
