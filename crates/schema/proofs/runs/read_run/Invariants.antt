-- Each column that is read goes into its slot; what is left to read is the rest.
-- Assumes nothing.
use Rattle.schema.specs.Runs.{RanInto}
use Rattle.schema.proofs.runs.read_run.Given as goal

abbrev pub invariant-loop-count : goal.invariant-loop-count
invariant-loop-count l = RanInto l.file l.from l.most l.slots (record { count = l.count; at = l.at })
