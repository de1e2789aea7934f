-- What the reader counted is what the file has.
-- Assumes nothing.
use mathlib.Core.Path.{refl, sym}
use lib.ListN.{replicate}
use Rattle.std.proofs.lemmas.Result.{err_from_is_err_and}
use Rattle.questions.proofs.Questions.{counts_refused, counts_read}
use Rattle.questions.proofs.file.count_file.Goals as goal

pub returns-in_err-p : goal.returns-in_err-p
returns-in_err-p c =
    let p = err_from_is_err_and c.from_residual.result c.from_residual.ensures.1 in
    rw (p.1, p.2) (sym (counts_refused c.args.file.now (replicate 512 0) (λ i. (c.type_inv.file i).fits) refl _ (sym c.in_err-p.ensures)))

pub returns : goal.returns
returns c = sym (counts_read c.args.file.now (replicate 512 0) (λ i. (c.type_inv.file i).fits) refl _ (sym c.in_ok-p.ensures))
