-- The length is read or not, and allowed or not.
-- Assumes nothing.
use mathlib.Core.Path.{sym, ap, ◌∙◌}
use native.Mathlib.Omega.{arith}
use Rattle.incremental.specs.Steps.{schemas_of}
use Rattle.column.specs.Columns.{told_length}
use Rattle.column.proofs.Laws.{code_positive}
use Rattle.feeding.specs.Machine.{from}
use Rattle.incremental.specs.Record.{kind_in, held_in, map_in}
use Rattle.incremental.proofs.PieceLaws.{prefix_long}
use Rattle.incremental.proofs.pieces.judge_prefix.Goals as goal

pub returns-in-Err : goal.returns-in-Err
returns-in-Err c =
    let d = rw c.piece.ensures.0 at c.length_at.ensures in
    let p = code_positive c.in-Err.kind in
    rw c.at.ensures (sym (prefix_long (schemas_of c.args.sheet.now) c.args.r.now.rows c.args.r.now.at (held_in c.args.r.now) (kind_in c.args.r.now) (map_in c.args.r.now) c.args.r.now.column (rw c.row_kind.ensures at c.column_at-column.ensures) (ap (from c.args.r.now.at) (sym d) ∙ sym c.in_ok-size.ensures) (sym (ap told_length c.in-Err.is) ∙ c.length_error.ensures) (omega (arith, p))))
