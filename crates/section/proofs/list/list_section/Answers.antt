-- The schema file, and then the rows.
-- Assumes nothing.
use native.Mathlib.Omega.{arith}
use Rattle.section.proofs.list.list_section.Goals as goal

pub list_rows-requires : goal.list_rows-requires
list_rows-requires c =
    let o = (c.in_ok-p.ensures) in (o.sound, omega (arith, o.columns), omega (arith, o.columns, o.sound.total), o.sized)
