-- The id is read or not; it is that of the element before, or not.
-- Assumes nothing.
use mathlib.Core.Path.{sym, ◌∙◌}
use Prim.Native.Nat.{◌+◌, ◌-◌}
use native.Mathlib.Omega.{arith}
use Rattle.incremental.specs.Record.{before_by, held_in}
use Rattle.incremental.proofs.PieceLaws.{delete_read, between_read}
use Rattle.incremental.proofs.pieces.judge_delete.Goals as goal

pub returns : goal.returns
returns c = λ S. rw (delete_read S c.args.r.now.rows c.args.r.now.at (held_in c.args.r.now) (c.args.r.now.at - 1) (before_by c.args.r.now.paired c.args.r.now.id) (sym c.in_ok-id.ensures.0) (rw c.before-2.ensures at (sym c.follows.ensures ∙ c.if-not-follows.false)), c.in_ok-id.ensures.1, c.plain.ensures) (between_read c.args.r.now.rows (c.args.r.now.at + c.args.r.now.filled) (omega (arith, c.requires)))
