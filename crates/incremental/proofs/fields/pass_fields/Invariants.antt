-- Up to column i all fields were passed (`Passing`).
-- Assumes nothing.
use Rattle.shapes.proofs.Slots.{in_slots}
use Rattle.incremental.proofs.FieldLaws.{Passing}
use Rattle.incremental.proofs.fields.pass_fields.Given as goal

abbrev pub invariant-loop-i : goal.invariant-loop-i
invariant-loop-i l = Passing l.update (in_slots l.slots l.block.first l.block.count) l.bits l.j l.fragment l.start l.i l.bit l.at
