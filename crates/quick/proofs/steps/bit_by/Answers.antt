-- The mask and the bits have a bit in common, or none.
-- Assumes nothing.
use native.Mathlib.Omega.{arith}
use Rattle.quick.proofs.StepLaws.{bit_off, bit_on}
use Rattle.quick.proofs.steps.bit_by.Goals as goal

pub returns-then-bits-mask-eq0 : goal.returns-then-bits-mask-eq0
returns-then-bits-mask-eq0 c =
    (bit_off c.args.bits c.args.mask c.if-bits-mask-eq0.true, omega arith)

pub returns-else-bits-mask-eq0 : goal.returns-else-bits-mask-eq0
returns-else-bits-mask-eq0 c =
    (bit_on c.args.bits c.args.mask c.if-bits-mask-eq0.false, omega arith)
