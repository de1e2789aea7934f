-- The bytes, where they are whole.
-- Assumes nothing.
use Rattle.section.proofs.HeadLaws.{id_or_zero}
use Rattle.section.proofs.table.id_behind.Goals as goal

pub returns : goal.returns
returns c =
    id_or_zero c.args.section.now c.args.at (λ x. (c.shared_slice_known-1.given x).fits) c.u32_or_zero.ensures
