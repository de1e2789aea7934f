-- The table has as many numbers as its slots that were filled, and the others are left.
-- Assumes nothing.
use Rattle.numbers.specs.Listing.{numbers_left}
use Rattle.numbers.proofs.Walking.{Filled}
use Rattle.numbers.proofs.listing.fill_numbers.Given as goal

abbrev pub invariant-loop-slot : goal.invariant-loop-slot
invariant-loop-slot l = Filled (numbers_left l.fn.file 0) l.initial.table l.table (numbers_left l.numbers.file.now l.numbers.at) l.slot-index
