-- The loop lays field after field.
-- Assumes nothing.
use Rattle.encode.proofs.Arrays.{Laying}
use Rattle.encode.proofs.row.Row.put_fields.Given as goal

abbrev pub invariant-loop-i : goal.invariant-loop-i
invariant-loop-i l = Laying l.self.columns.now l.self.entries.now l.self.values.now l.at l.initial.out l.out l.position l.i
