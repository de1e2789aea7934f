-- Promise: answers of calls that make or compare plans, as C and Rust see them.
-- Assumes nothing.
use Rattle.std.specs.Prelude.{ℕ, List}
use Rattle.wire.specs.Errors.{input_number}
use Rattle.wire.specs.Read.{Read, ok, bad}
use Rattle.plan.specs.declared.plan.Plan.{Plan}
use Rattle.adtg.specs.Plans.{plan_beside, Checked}
use Rattle.answers.specs.Answers.{status_of, Answered, unit_values}
use Rattle.adtg_c.specs.declared.plans.PlanAnswer.{PlanAnswer}

-- the offset of an error, and its input; 0 where there is none
abbrev pub offset_of : {A : Type 0} → Read A → ℕ
offset_of (ok a) = 0
offset_of (bad code offset about) = offset

abbrev pub input_of : {A : Type 0} → Read A → ℕ
input_of (ok a) = 0
input_of (bad code offset about) = input_number about

-- what a call that makes a plan answers
abbrev pub plan_answer : Read Plan → PlanAnswer
plan_answer made = record { code = status_of made; offset = offset_of made; input = input_of made; plan = plan_beside made }

-- what comparing a plan promises: an answer as `Checked` says, told by the status and the numbers
pub record CheckTold (p : Plan) (made : Read Plan) (status : ℕ) (numbers : List ℕ) : Type 0 where
  pub answer : Read (Unit {0})
  pub checked : Checked p made answer
  pub told : Answered unit_values answer status numbers
