-- The loop goes over one word more.
-- Assumes nothing.
use Rattle.quick.proofs.WordLaws.{AtWord}
use Rattle.quick.proofs.ends.over.Given as goal

abbrev pub invariant-loop-i : goal.invariant-loop-i
invariant-loop-i l = AtWord l.shapes l.form l.bits l.section l.fields l.lead l.lengths l.i
