-- What is ahead of a row, behind what was found so far, is the page.
-- Assumes nothing.
use Rattle.batch.specs.Search.{look_of}
use Rattle.batch.proofs.PagePass.{AtRow}
use Rattle.batch.proofs.page.scan.Given as goal

abbrev pub invariant-loop-i : goal.invariant-loop-i
invariant-loop-i l = AtRow (look_of l.search) l.search.section.now l.table l.rows l.from l.search.owner l.initial.spans l.spans l.i l.count
