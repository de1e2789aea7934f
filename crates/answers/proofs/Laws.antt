-- Laws of an answer as sixteen numbers.
-- Assumes nothing.
use Prim.Native.Nat.{ℕ}
use mathlib.Core.List.{List}
use mathlib.Core.Path.{◌≡◌, sym, ap, ◌∙◌}
use Rattle.wire.specs.declared.error.Error.{Error}
use Rattle.wire.specs.Read.{Read, ok, refused}
use Rattle.answers.specs.Answers.{Answered, status_of, padded, numbers_of, no_values}

-- an error says the same whatever the values would have been
pub answered_error :
    {A : Type 0} (values : A → List ℕ) (x : Read A) (e : Error) {status : ℕ} {numbers : List ℕ} → x ≡ refused e →
    Answered no_values (refused e) status numbers → Answered values x status numbers
answered_error values x e h a = record { answers = a.answers ∙ ap status_of (sym h); holds = a.holds ∙ ap (numbers_of values) (sym h) }

pub answered_value :
    {A : Type 0} (values : A → List ℕ) (x : Read A) (v : A) {numbers : List ℕ} → x ≡ ok v → numbers ≡ padded (values v) → Answered values x 0 numbers
answered_value values x v h e = record { answers = ap status_of (sym h); holds = e ∙ ap (numbers_of values) (sym h) }
