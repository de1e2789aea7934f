-- The column behind its code.
-- Assumes nothing.
use Rattle.entry.proofs.usual.usual_at.Goals as goal

pub returns : goal.returns
returns c = rw c.in_ok-behind.ensures.1 (c.usual_by.ensures c.args.at)
