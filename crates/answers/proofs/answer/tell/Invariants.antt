-- The numbers so far, and zeros.
-- Assumes nothing.
use Rattle.std.proofs.Common.{◌≡◌, ◌++◌, ◌-◌, take}
use lib.ListN.{replicate}
use Rattle.answers.proofs.answer.tell.Given as goal

abbrev pub invariant-loop-i : goal.invariant-loop-i
invariant-loop-i l = l.numbers ≡ take l.i l.values ++ replicate (16 - l.i) 0
