-- A run, or an element, keeps what holds before it; so does a turn over row data.
-- Assumes nothing.
use Prim.Native.Nat.{◌-◌, ◌<◌}
use lib.ListN.{length}
use Rattle.shapes.specs.Shapes.{slot_columns}
use Rattle.section.proofs.Scanning.{AtScan}
use Rattle.section.proofs.Turns.{AtTurn}
use Rattle.section.proofs.read.scan.Given as goal

abbrev pub invariant-section : goal.invariant-section
invariant-section l = AtScan l.sheet.slots.now l.sheet.schemas l.sheet.section.now l.sheet.step l.initial.sizes l.sizes l.at l.rows l.child l.used × (l.last < l.sheet.schemas)

abbrev pub decreases-section : goal.decreases-section
decreases-section l = length l.sheet.section.now - l.at

abbrev pub invariant-loop-i : goal.invariant-loop-i
invariant-loop-i l = AtTurn l.update (slot_columns l.sheet.slots.now l.number) l.sheet.section.now l.start l.end l.i
