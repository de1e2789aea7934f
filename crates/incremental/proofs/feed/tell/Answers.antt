-- By the state.
-- Assumes nothing.
use Rattle.incremental.proofs.FeedLaws.{tells_open}
use Rattle.incremental.proofs.feed.tell.Goals as goal

pub returns-in-Ok : goal.returns-in-Ok
returns-in-Ok c = λ st h. tells_open c.in-Ok.r st _ _ (rw c.in-Ok.is at h) c.tidy.ensures c.rows_of.ensures
