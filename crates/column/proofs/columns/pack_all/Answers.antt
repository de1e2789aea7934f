-- Each column goes into its slot.
-- Assumes nothing.
use mathlib.Core.Path.{◌≡◌}
use native.Mathlib.Omega.{arith}
use lib.ListN.{length}
use Rattle.column.proofs.PackedLaws.{pack_start, pack_next, pack_end}
use Rattle.column.proofs.columns.pack_all.Goals as goal

pub loop-i-init : goal.loop-i-init
loop-i-init c = pack_start _

pub loop-i-preserved : goal.loop-i-preserved
loop-i-preserved c = pack_next c.loop-i.invariant c.loop-i-test.true _ c.pack.ensures.2

pub returns : goal.returns
returns c =
    let l : length c.args.columns.columns ≡ 64 = omega arith in
    let z = pack_end c.loop-i.invariant (omega arith) c.args.columns.count in
    rw l at z
