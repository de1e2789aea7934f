-- Promise: answers about places and look-ups through a plan, as C and Rust see them.
-- Assumes nothing.
use Rattle.std.specs.Prelude.{ℕ, List, [], ◌∷◌}
use Rattle.wire.specs.Errors.{input_number}
use Rattle.wire.specs.Read.{Read, ok, bad}
use Rattle.walk.specs.Rows.{Answer, field, null, chapter}
use Rattle.plan.specs.Plans.{FixedPlace, fixed, moving}
use Rattle.answers.specs.declared.plans.FoundAnswer.{FoundAnswer}

-- what a look-up through a plan answers: the kinds are 1 a field, 2 null, 3 a chapter; with an error its offset and its input
abbrev pub found_answer : Read Answer → FoundAnswer
found_answer (ok (field f)) = record { code = 0; kind = 1; first = f.start; second = f.end; prefixes = f.prefixes }
found_answer (ok null) = record { code = 0; kind = 2; first = 0; second = 0; prefixes = 0 }
found_answer (ok chapter) = record { code = 0; kind = 3; first = 0; second = 0; prefixes = 0 }
found_answer (bad code offset about) = record { code = code; kind = 0; first = offset; second = input_number about; prefixes = 0 }

-- the values of a place: 1 and the place where it is fixed, else 2
abbrev pub place_values : FixedPlace → List ℕ
place_values (fixed place) = 1 ∷ place ∷ []
place_values moving = 2 ∷ []
