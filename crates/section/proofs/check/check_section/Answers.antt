-- The schema file, and then the rows.
-- Assumes nothing.
use native.Mathlib.Omega.{arith}
use Rattle.section.proofs.check.check_section.Goals as goal

pub check_rows-requires : goal.check_rows-requires
check_rows-requires c =
    let o = (c.in_ok-p.ensures) in (o.sound, omega (arith, o.columns), omega (arith, o.columns, o.sound.total), o.sized)
