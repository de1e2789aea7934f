-- The first 64 slots at most.
-- Assumes nothing.
use Prim.Native.Nat.{ℕ}
use mathlib.Core.Path.{ap, ◌∙◌}
use native.Mathlib.Omega.{arith}
use lib.ListN.{length-take}
use Rattle.column.specs.Packed.{packed_from}
use Rattle.column.proofs.PackedLaws.{packed_taken}
use Rattle.row.proofs.rows.few.Goals as goal

pub returns : goal.returns
returns c = (simp length-take (omega arith), packed_taken _ _ (omega arith) ∙ ap (λ (n : ℕ). packed_from n 0 c.args.slots.now) c.min.ensures)
