-- The loop lays number after number.
-- Assumes nothing.
use Prim.Native.Nat.{◌+◌}
use lib.ListN.{length, get_or}
use Rattle.wire.proofs.Laws.{lacked_lt, enough_le}
use Rattle.numbers.proofs.Coding.{coding_start, coding_next, coded_part, coded_whole, coded_bytewise}
use native.Mathlib.Omega.{arith}
use Rattle.numbers.proofs.writer.code_numbers.Goals as goal

pub loop-n-init : goal.loop-n-init
loop-n-init c = coding_start c.args.numbers.now c.args.buffer.now

pub returns-then-lacks : goal.returns-then-lacks
returns-then-lacks c = coded_part _ _ _ _ _ c.loop-n.invariant (lacked_lt (length c.loop-n.buffer) (c.loop-n.at + 3) c.lacks.ensures c.if-lacks.true)

pub overflow_add-at : goal.overflow_add-at
overflow_add-at c =
    omega (arith, enough_le (length c.loop-n.buffer) (c.loop-n.at + 3) c.lacks.ensures c.if-lacks.false, (coded_bytewise (get_or c.args.numbers.now c.loop-n.n-index 0)).short, c.put_number-at.ensures.0)

pub loop-n-preserved : goal.loop-n-preserved
loop-n-preserved c =
    coding_next _ _ _ _ _ c.loop-n.invariant _ _ c.loop-n-test.true
    (enough_le (length c.loop-n.buffer) (c.loop-n.at + 3) c.lacks.ensures c.if-lacks.false) c.put_number-at.ensures.0 c.put_number-at.ensures.1

pub returns : goal.returns
returns c = coded_whole _ _ _ _ _ c.loop-n.invariant c.loop-n-test.false
