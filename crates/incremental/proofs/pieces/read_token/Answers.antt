-- Each token has its state.
-- Assumes nothing.
use Prim.Native.Nat.{◌+◌}
use native.Mathlib.Omega.{arith}
use Rattle.incremental.specs.Steps.{schemas_of}
use Rattle.incremental.specs.Parts.{before_told}
use Rattle.incremental.proofs.PieceLaws.{done_read, token_done}
use Rattle.incremental.proofs.pieces.read_token.Goals as goal

pub returns-in-15 : goal.returns-in-15
returns-in-15 c = rw (token_done (schemas_of c.args.sheet.now) c.args.rows c.args.at (before_told c.args.before) c.args.token c.in-15.is, c.plain.ensures) (done_read c.args.rows (c.args.at + 1) (omega (arith, c.requires)))
