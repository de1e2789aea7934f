-- By the stage.
-- Assumes nothing.
use Rattle.incremental.specs.Steps.{schemas_of}
use Rattle.incremental.proofs.StateLaws.{stage_delete}
use Rattle.incremental.proofs.pieces.judge.Goals as goal

pub returns-in-3 : goal.returns-in-3
returns-in-3 c = rw (stage_delete c.args.r.now c.in-3.is) (c.judge_delete.ensures (schemas_of c.args.sheet.now))
