-- Each way out is the definition's: the reader's errors, the room, the numbers.
-- Assumes nothing.
use mathlib.Core.Path.{refl, sym, ◌∙◌}
use lib.ListN.{length, replicate}
use Rattle.std.proofs.lemmas.Result.{err_from_is_err_and}
use Rattle.schema.proofs.Named.{named_read, named_refused}
use Rattle.numbers.proofs.Listed.{lists_error, listed_refused, listed_room, lists_all}
use Rattle.numbers.proofs.listing.list_numbers.Goals as goal

pub returns-in_err-about : goal.returns-in_err-about
returns-in_err-about c =
    let p = err_from_is_err_and c.from_residual.result c.from_residual.ensures.1 in
    let (d, f, g) = named_refused _ c.read_file.result c.about.result c.read_file.new.table c.read_file.ensures c.about.ensures c.in_err-about.was in
    rw (p.1, p.2)
    (lists_error _ c.args.table.now _
    (listed_refused c.args.file.now (λ i. (c.type_inv.file i).fits) (replicate 512 0) refl (length c.args.table.now) d f ∙ sym g))

pub returns-then-table-n : goal.returns-then-table-n
returns-then-table-n c =
    rw (c.about-then-table-n.ensures, c.at.ensures)
    (lists_error _ c.args.table.now _
    (listed_room c.args.file.now (λ i. (c.type_inv.file i).fits) (replicate 512 0) refl _
    (named_read _ c.read_file.result c.about.result c.read_file.new.table c.read_file.ensures c.about.ensures c.in_ok-about.was)
    _ c.count_numbers-n.ensures (length c.args.table.now) c.if-table-n.true))

pub returns : goal.returns
returns c =
    lists_all c.args.file.now (λ i. (c.type_inv.file i).fits) (replicate 512 0) refl _
    (named_read _ c.read_file.result c.about.result c.read_file.new.table c.read_file.ensures c.about.ensures c.in_ok-about.was)
    _ c.count_numbers-n.ensures c.args.table.now _ c.if-table-n.false c.fill_numbers.ensures
