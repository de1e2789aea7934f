-- Inner: what the contracts of inner functions cite: the look-up that a batch makes.
-- Assumes nothing.
use Rattle.wire.specs.Read.{Bytes, Read}
use Rattle.walk.specs.Rows.{Answer}
use Rattle.plan.specs.Plans.{lent}
use Rattle.batch.specs.declared.search.Search.{Search}
use Rattle.batch.specs.Spans.{planned}

abbrev pub look_of : Search → Bytes → Read Answer
look_of s = planned (lent s.plan.now) s.column
