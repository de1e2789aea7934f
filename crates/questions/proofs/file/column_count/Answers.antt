-- The length of the columns that were found.
-- Assumes nothing.
use Prim.Native.Nat.{ℕ}
use mathlib.Core.Path.{sym, ap, ◌∙◌}
use Rattle.std.proofs.lemmas.Result.{err_from_is_err_and}
use Rattle.wire.specs.Read.{ok}
use Rattle.questions.specs.Questions.{column_count_of}
use Rattle.questions.proofs.Questions.{select_refused, select_found}
use Rattle.tree.proofs.TableSays.{entries_length}
use Rattle.questions.proofs.file.column_count.Goals as goal

pub returns-in_err-block : goal.returns-in_err-block
unfolding column_count_of
returns-in_err-block c =
    let p = err_from_is_err_and c.from_residual.result c.from_residual.ensures.1 in
    rw (p.1, p.2) (sym (select_refused c.args.file.now c.args.number _ _ (sym c.in_err-block.ensures.answers)))

pub returns : goal.returns
unfolding column_count_of
returns c =
    sym (select_found c.args.file.now c.args.number _ _ _ (sym c.in_ok-block.ensures.answers)
    ∙ ap (λ (n : ℕ). ok n) (entries_length c.in_ok-block.block.start c.in_ok-block.block.count c.open_schema.new.table))
