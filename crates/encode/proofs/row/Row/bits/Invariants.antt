-- The loop goes on with one more column's bit in the array, where it has one.
-- Assumes nothing.
use Rattle.encode.proofs.Arrays.{Filling}
use Rattle.encode.proofs.row.Row.bits.Given as goal

abbrev pub invariant-loop-i : goal.invariant-loop-i
invariant-loop-i l = Filling l.self.columns.now l.self.entries.now l.self.values.now l.map l.bits l.count l.i
