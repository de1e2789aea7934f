-- The element before, by its schema.
-- Assumes nothing.
use Rattle.incremental.proofs.TakeLaws.{behind_child, behind_other}
use Rattle.incremental.proofs.take.behind_elements.Goals.{then-child-gt0, else-child-gt0}
use Rattle.incremental.proofs.take.behind_elements.Goals as goal

pub returns : goal.returns
returns c =
    rw (c.behind.ensures, c.plain.ensures)
    (elim c.if-child-gt0.branch [
      | then-child-gt0 w ↦ rw (w.before-is, w.id_in.ensures) (behind_child c.args.slots.now c.args.child c.args.rows c.args.at w.if-child-gt0.true c.requires.0)
      | else-child-gt0 w ↦ rw w.before-is (behind_other c.args.slots.now c.args.child c.args.rows c.args.at w.if-child-gt0.false c.requires.0)
    ])
