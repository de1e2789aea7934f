-- Promise: plans, with the schema file and the schema number that they are made from or compared with.
-- Assumes nothing.
use Rattle.std.specs.Prelude.{ℕ, ◌≡◌, List, [], Result}
use Rattle.wire.specs.declared.error.Input.{Input}
use Rattle.wire.specs.declared.error.Input.TheVariants as input
use Rattle.wire.specs.declared.error.Error.{Error}
use Rattle.wire.specs.Read.{Bytes, Read, ok, bad, ◌>>=◌, told}
use Rattle.column.specs.declared.column.Column.{Column}
use Rattle.questions.specs.Questions.{alone}
use Rattle.plan.specs.declared.plan.Plan.{Plan}
use Rattle.plan.specs.Plans.{plan_of}
use Rattle.adtg.specs.InSchema.{in_schema}

-- the columns of a schema, no other input having a size
unfoldable pub columns_of : (file : Bytes) (number : ℕ) → Read (List Column)
columns_of file number = in_schema file alone number (λ columns. ok columns)

-- the plan that a schema makes
unfoldable pub plan_in : (file : Bytes) (number : ℕ) → Read Plan
plan_in file number = in_schema file alone number (λ columns. ok (plan_of columns))

-- the plan of no columns
abbrev pub blank : Plan
blank = plan_of []

-- beside an error stands the blank plan
abbrev pub plan_beside : Read Plan → Plan
plan_beside (ok plan) = plan
plan_beside (bad code offset about) = blank

-- the plan that is lent to such a call, after it: an error leaves it as it was
abbrev pub plan_after : Read Plan → Plan → Plan
plan_after (ok plan) entry = plan
plan_after (bad code offset about) entry = entry

-- What making a plan into one that is lent promises: the file's errors and the schema number's; else the plan that the schema makes.
pub record MadeInto (made : Read Plan) (entry exit : Plan) (answer : Result (Unit {0}) Error) : Type 0 where
  pub answers : told answer ≡ (made >>= λ plan. ok tt)
  pub leaves : exit ≡ plan_after made entry

-- What comparing promises: the file's errors and the schema number's; then a plan is accepted if and only if it is the plan that the
-- schema makes, and any other is refused with 17 at 0.
pub record Checked (p : Plan) (made : Read Plan) (answer : Read (Unit {0})) : Type 0 where
  pub errors : {e o : ℕ} {i : Input} → made ≡ bad e o i → answer ≡ bad e o i
  pub accepts : answer ≡ ok tt → made ≡ ok p
  pub equal : made ≡ ok p → answer ≡ ok tt
  pub differs : (q : Plan) → made ≡ ok q → (p ≡ q → ⊥) → answer ≡ bad 17 0 input.Plan
