-- The loop stands at column i: the answer from there is the answer, with the fields before it counted.
-- Assumes nothing.
use Rattle.encode.specs.Steps.{stands_in}
use Rattle.encode.proofs.Arrays.{Standing}
use Rattle.encode.proofs.row.Row.fields_size.Given as goal

abbrev pub invariant-loop-i : goal.invariant-loop-i
invariant-loop-i l = Standing l.self.columns.now l.self.entries.now l.self.values.now (stands_in l.self.update) l.size l.i
