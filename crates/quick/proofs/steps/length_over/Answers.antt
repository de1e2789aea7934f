-- By the test of the length.
-- Assumes nothing.
use mathlib.Core.Path.{sym, ◌∙◌}
use native.Mathlib.Omega.{arith}
use Rattle.column.specs.Stops.{stop_in}
use Rattle.quick.proofs.StepLaws.{length_allowed, length_refused, length_none}
use Rattle.quick.proofs.steps.length_over.Goals as goal

pub returns-then-allows : goal.returns-then-allows
returns-then-allows c =
    let (said, few) = length_allowed (stop_in c.args.word) c.args.has c.args.section.now c.args.p (sym c.is_variable_in.ensures ∙ c.if-is_variable_in.true) c.length_at.ensures c.kept-length.ensures.0 c.most_in.ensures.0 c.is_even_in.ensures (sym c.allows.ensures ∙ c.if-allows.true) in (said, omega (arith, few, c.most_in.ensures.1))

pub returns-then-is_variable_in : goal.returns-then-is_variable_in
returns-then-is_variable_in c =
    (length_refused (stop_in c.args.word) c.args.has c.args.section.now c.args.p (sym c.is_variable_in.ensures ∙ c.if-is_variable_in.true) c.length_at.ensures c.kept-length.ensures.0 c.most_in.ensures.0 c.is_even_in.ensures (sym c.allows.ensures ∙ c.if-allows.false), omega arith)

pub returns : goal.returns
returns c =
    (length_none (stop_in c.args.word) c.args.has c.args.section.now c.args.p (sym c.is_variable_in.ensures ∙ c.if-is_variable_in.false), omega arith)
