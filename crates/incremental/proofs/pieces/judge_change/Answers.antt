-- The id is read or not; it is that of the element before, or not; there is a schema with it, or not.
-- Assumes nothing.
use mathlib.Core.Path.{sym, ◌∙◌}
use Prim.Native.Nat.{◌-◌}
use Rattle.incremental.specs.Steps.{schemas_of}
use Rattle.incremental.specs.Record.{before_by, held_in}
use Rattle.incremental.proofs.PieceLaws.{change_known}
use Rattle.incremental.proofs.pieces.judge_change.Goals as goal

pub returns-in-Some : goal.returns-in-Some
returns-in-Some c = rw (change_known (schemas_of c.args.sheet.now) c.args.r.now.rows c.args.r.now.at (held_in c.args.r.now) (c.args.r.now.at - 1) (before_by c.args.r.now.paired c.args.r.now.id) (sym c.in_ok-id.ensures.0) (rw c.before-2.ensures at (sym c.follows.ensures ∙ c.if-not-follows.false)) (sym (c.in-Some.ensures c.args.sheet.now.sound.top c.args.sheet.now.sound.all)), c.in_ok-id.ensures.1) c.start_row.ensures
