-- The id is read or not; there is a schema with it, or not.
-- Assumes nothing.
use mathlib.Core.Path.{sym}
use Prim.Native.Nat.{◌-◌}
use Rattle.incremental.specs.Steps.{schemas_of}
use Rattle.incremental.specs.Record.{held_in}
use Rattle.incremental.proofs.PieceLaws.{child_known}
use Rattle.incremental.proofs.pieces.judge_child.Goals as goal

pub returns-in-Some : goal.returns-in-Some
returns-in-Some c = rw (child_known (schemas_of c.args.sheet.now) c.args.r.now.rows c.args.r.now.at (held_in c.args.r.now) (c.args.r.now.at - 1) (sym c.in_ok-id.ensures.0) (sym (c.in-Some.ensures c.args.sheet.now.sound.top c.args.sheet.now.sound.all)), c.in_ok-id.ensures.1) c.start_row.ensures
