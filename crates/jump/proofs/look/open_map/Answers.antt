-- The bits that must not be set are refused.
-- Assumes nothing.
use mathlib.Core.Path.{sym, ap, ◌∙◌}
use Rattle.wire.specs.Read.{told}
use Rattle.plan.specs.Plans.{lent}
use Rattle.jump.proofs.Laws.{handed}
use Rattle.jump.proofs.Answers.{open_marked}
use Rattle.jump.proofs.look.open_map.Goals as goal

pub returns-in_err-check_mask : goal.returns-in_err-check_mask
returns-in_err-check_mask c =
    ap told (handed _ c.from_residual.ensures.1) ∙ sym (open_marked (lent c.args.plan.now) c.args.row.now c.if-row-plan.false (sym c.in_err-check_mask.ensures))
