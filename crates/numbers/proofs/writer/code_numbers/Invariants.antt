-- The loop lays number after number.
-- Assumes nothing.
use Rattle.numbers.proofs.Coding.{Coding}
use Rattle.numbers.proofs.writer.code_numbers.Given as goal

abbrev pub invariant-loop-n : goal.invariant-loop-n
invariant-loop-n l = Coding l.numbers l.initial.buffer l.buffer l.at l.n-index
