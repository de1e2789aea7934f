-- Promise: an answer as C and Rust see it: a status, and sixteen numbers.
-- Assumes nothing.
use Rattle.std.specs.Prelude.{ℕ, ◌-◌, ◌≡◌, List, [], ◌∷◌, ◌++◌, length, replicate}
use Rattle.wire.specs.Errors.{input_number}
use Rattle.wire.specs.Read.{Read, ok, bad}

-- 0, or the code of the error
abbrev pub status_of : {A : Type 0} → Read A → ℕ
status_of (ok a) = 0
status_of (bad code offset about) = code

-- sixteen numbers: these, and zeros
abbrev pub padded : List ℕ → List ℕ
padded l = l ++ replicate (16 - length l) 0

-- the values of an answer, or the offset and the input of an error
abbrev pub numbers_of : {A : Type 0} → (A → List ℕ) → Read A → List ℕ
numbers_of values (ok a) = padded (values a)
numbers_of values (bad code offset about) = padded (offset ∷ input_number about ∷ [])

-- what a call promises of its status and of the sixteen numbers, where each answer has these values
pub record Answered {A : Type 0} (values : A → List ℕ) (answer : Read A) (status : ℕ) (numbers : List ℕ) : Type 0 where
  pub answers : status ≡ status_of answer
  pub holds : numbers ≡ numbers_of values answer

-- the values of a writer's answer: how many bytes it wrote
abbrev pub size_values : ℕ → List ℕ
size_values n = n ∷ []

-- an answer that has no values
abbrev pub no_values : ℕ → List ℕ
no_values n = []

abbrev pub unit_values : Unit {0} → List ℕ
unit_values u = []
