-- A refusal leaves the output; else the header's bytes are copied.
-- Assumes nothing.
use mathlib.Core.Path.{sym}
use Rattle.wire.proofs.Laws.{wrote_exit, wrote_piece}
use borrow.Author.Rules.{rules}
use Rattle.header.proofs.header.write_header.Goals as goal

pub returns-in_err-bytes : goal.returns-in_err-bytes
returns-in_err-bytes c = wrote_exit _ c.args.out.now _ _ c.from_residual.ensures.1 (sym c.in_err-bytes.ensures)

pub returns : goal.returns
returns c = wrote_piece _ c.in_ok-bytes.bytes c.args.out.now _ 9 (sym c.in_ok-bytes.ensures) (search rules) c.copy_into.ensures
