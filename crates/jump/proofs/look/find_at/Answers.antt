-- By the column's type; else by the width held.
-- Assumes nothing.
use mathlib.Core.Path.{◌≡◌, sym, ap, ◌∙◌}
use native.Mathlib.Omega.{arith}
use Rattle.column.specs.declared.column.Column.{Column}
use Rattle.column.specs.Columns.{is_variable}
use Rattle.column.specs.Fields.{variable_at}
use Rattle.column.specs.Packed.{unpacked_column}
use Rattle.walk.specs.Rows.{place}
use Rattle.jump.specs.Lent.{found_in}
use Rattle.jump.proofs.Answers.{found_variable, found_short, found_fixed}
use Rattle.jump.proofs.look.find_at.Goals as goal

pub returns-then-is_variable : goal.returns-then-is_variable
returns-then-is_variable c =
    let v : is_variable (unpacked_column c.args.word) ≡ c.is_variable.result = ap is_variable (sym c.unpack-column.ensures) ∙ sym c.is_variable.ensures in
    c.find_variable.ensures ∙ ap (λ (d : Column). found_in (place c.args.walked.position c.args.walked.prefixes) (variable_at d c.args.row.now c.args.walked.position)) c.unpack-column.ensures ∙ sym (found_variable c.args.word c.args.row.now (place c.args.walked.position c.args.walked.prefixes) (v ∙ c.if-is_variable.true))

pub returns-then-row-end : goal.returns-then-row-end
returns-then-row-end c =
    let v : is_variable (unpacked_column c.args.word) ≡ c.is_variable.result = ap is_variable (sym c.unpack-column.ensures) ∙ sym c.is_variable.ensures in
    rw (c.about.ensures, c.at.ensures) (sym (found_short c.args.word c.args.row.now (place c.args.walked.position c.args.walked.prefixes) (v ∙ c.if-is_variable.false) (omega (arith, c.if-row-end.true, c.width_in.ensures.0))))

pub returns : goal.returns
returns c =
    let v : is_variable (unpacked_column c.args.word) ≡ c.is_variable.result = ap is_variable (sym c.unpack-column.ensures) ∙ sym c.is_variable.ensures in
    rw c.width_in.ensures.0 (sym (found_fixed c.args.word c.args.row.now (place c.args.walked.position c.args.walked.prefixes) (v ∙ c.if-is_variable.false) (omega (arith, c.if-row-end.false, c.width_in.ensures.0))))
