-- Nothing is written where the columns are refused.
-- Assumes nothing.
use mathlib.Core.Path.{refl, ◌∙◌}
use Rattle.adtg.proofs.Laws.{original_listed}
use Rattle.adtg.proofs.Writing.{wrote_exit}
use Rattle.adtg.proofs.writers.write_original.Goals as goal

pub returns-in_err-columns : goal.returns-in_err-columns
returns-in_err-columns c = wrote_exit _ _ _ _ _ c.from_residual.ensures.1 (original_listed _ _ _ _ _ _ ∙ rw (← c.in_err-columns.ensures) refl)
