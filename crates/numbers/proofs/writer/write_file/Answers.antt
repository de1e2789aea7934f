-- Each way out is the definition's: the reader's answer on the buffer is its answer on all of the numbers' bytes.
-- Assumes nothing.
use mathlib.Core.Path.{refl, sym, ap, ◌∙◌}
use lib.ListN.{length, replicate}
use Rattle.wire.proofs.Laws.{wrote_error, wrote_piece, fitting_fits}
use Rattle.numbers.proofs.Writing.{numbers_many, held_count, file_unwritten, file_written_lem, file_room}
use Rattle.wire.specs.Read.{refused}
use borrow.Author.Rules.{rules}
use Rattle.numbers.proofs.writer.write_file.Goals as goal

pub returns-then-numbers-gt-NUMBERS : goal.returns-then-numbers-gt-NUMBERS
returns-then-numbers-gt-NUMBERS c = wrote_error _ c.args.out.now _ (numbers_many c.args.numbers.now (length c.args.out.now) c.if-numbers-gt-NUMBERS.true ∙ sym (ap refused c.at_start.ensures))

pub returns-in-Err : goal.returns-in-Err
returns-in-Err c =
    wrote_error _ c.args.out.now _
    (file_unwritten _ _ _ c.code_numbers-size.ensures (search rules) (replicate 512 0) refl c.if-numbers-gt-NUMBERS.false (length c.args.out.now) c.in-Err.e c.of_numbers.result
    (sym c.in-Err.ensures) c.of_numbers.ensures)

pub returns-then-out-size : goal.returns-then-out-size
returns-then-out-size c =
    rw (c.about.ensures, c.at.ensures)
    (wrote_error _ c.args.out.now _
    (file_room _ _ _ c.code_numbers-size.ensures (search rules) (replicate 512 0) refl c.if-numbers-gt-NUMBERS.false (length c.args.out.now) _
    (sym c.in_default.ensures) c.if-out-size.true))

pub returns : goal.returns
returns c =
    let k = held_count c.code_numbers-size.ensures in
    wrote_piece _ _ c.args.out.now _ _
    (file_written_lem _ _ _ c.code_numbers-size.ensures (search rules) (replicate 512 0) refl c.if-numbers-gt-NUMBERS.false (length c.args.out.now) _ (sym c.in_default.ensures)
    ∙ fitting_fits _ (length c.args.out.now) (rw k at c.if-out-size.false)) k c.copy_into.ensures
