-- Promise: the number of a schema as code answers it.
-- Assumes nothing.
use Rattle.std.specs.Prelude.{ℕ, Option, Some, None}
use Rattle.std.proofs.Math.Option as found

abbrev pub told_child : Option ℕ → found.Option ℕ
told_child None = found.none
told_child (Some n) = found.some n
