-- The prefix has room.
-- Assumes nothing.
use mathlib.Core.Path.{sym, ◌∙◌}
use Rattle.stops.proofs.StopLaws.{size_prefix}
use Rattle.stops.proofs.stop.size_of.Goals as goal

pub returns-then-is_variable : goal.returns-then-is_variable
returns-then-is_variable c =
    let s = size_prefix _ (sym c.is_variable.ensures ∙ c.if-is_variable.true) c.prefix_size.ensures in (λ e. s.0, s.1)
