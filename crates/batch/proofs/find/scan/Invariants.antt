-- What is ahead of a row, with what was found so far, is what was ahead of the first.
-- Assumes nothing.
use Rattle.batch.specs.Search.{look_of}
use Rattle.batch.proofs.Pass.{AtRow}
use Rattle.batch.proofs.find.scan.Given as goal

abbrev pub invariant-loop-i : goal.invariant-loop-i
invariant-loop-i l = AtRow (look_of l.search) l.search.section.now l.search.owner l.rows l.initial.spans l.spans l.i l.count
