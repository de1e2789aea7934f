-- The columns that there are.
-- Assumes nothing.
use Prim.Native.Nat.{ℕ}
use mathlib.Core.Path.{ap, ◌∙◌}
use native.Mathlib.Omega.{arith}
use Rattle.column.specs.Packed.{packed_from}
use Rattle.column.proofs.PackedLaws.{packed_taken}
use Rattle.plan.specs.Plans.{plan_of}
use Rattle.plan.proofs.make.make_into.Goals as goal

pub returns : goal.returns
returns c =
    c.fill.ensures ∙ ap plan_of (packed_taken c.min.result c.args.slots.now (omega (arith, c.min.ensures)) ∙ ap (λ (n : ℕ). packed_from n 0 c.args.slots.now) c.min.ensures)
