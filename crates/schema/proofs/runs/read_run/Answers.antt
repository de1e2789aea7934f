-- Each column that is read goes into its slot; what is left to read is the rest.
-- Assumes nothing.
use native.Mathlib.Omega.{arith}
use Rattle.entry.specs.Heads.{head_at}
use Rattle.entry.specs.Usual.{Slotted}
use Rattle.schema.proofs.Running.{run_start, run_next}
use Rattle.schema.proofs.runs.read_run.Goals as goal

pub loop-count-init : goal.loop-count-init
loop-count-init c = run_start c.args.file.now c.args.from c.args.most _ c.requires.2 c.requires.0

pub overflow_cast-slots : goal.overflow_cast-slots
overflow_cast-slots c =
    let reads : Slotted (head_at c.args.file.now c.loop-count.at) c.in-Some.field-0.slot c.in-Some.field-0.end = c.in-Some.ensures in
    omega (arith, reads.small)

pub loop-count-preserved : goal.loop-count-preserved
loop-count-preserved c =
    let reads : Slotted (head_at c.args.file.now c.loop-count.at) c.in-Some.field-0.slot c.in-Some.field-0.end = c.in-Some.ensures in
    run_next c.args.file.now c.args.from c.args.most _ _ c.requires.1 c.loop-count.invariant c.loop-count-test.true reads
