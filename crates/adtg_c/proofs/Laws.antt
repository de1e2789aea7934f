-- Answers of calls by those of the calls below.
-- Assumes nothing.
use Prim.Native.Nat.{ℕ}
use mathlib.Core.List.{List}
use mathlib.Core.Path.{◌≡◌, ap, ◌∙◌}
use Rattle.std.specs.Prelude.{Result}
use Rattle.wire.specs.declared.error.Error.{Error}
use Rattle.wire.specs.Read.{Bytes, Read, told}
use Rattle.wire.specs.Output.{size_of, Wrote}
use Rattle.encode.specs.Writers.{WroteAt}
use Rattle.answers.specs.Answers.{Answered, status_of, numbers_of, size_values}

-- a writer's answer is that of its piece
pub answered_writer :
    (w : Result ℕ Error) (p : Read Bytes) (entry exit : Bytes) {status : ℕ} {numbers : List ℕ} → Wrote p entry exit w →
    Answered size_values (told w) status numbers → Answered size_values (size_of p) status numbers
answered_writer w p entry exit wrote a = rw wrote.answers at a

-- a row writer's answer is that of its row
pub answered_row_writer :
    (w : Result ℕ Error) (p : Read Bytes) (place : ℕ) (entry exit : Bytes) {status : ℕ} {numbers : List ℕ} → WroteAt p place entry exit w →
    Answered size_values (told w) status numbers → Answered size_values (size_of p) status numbers
answered_row_writer w p place entry exit wrote a = rw wrote.answers at a

-- the same answer, said otherwise
pub answered_same :
    {A : Type 0} {values : A → List ℕ} {x y : Read A} {status : ℕ} {numbers : List ℕ} → x ≡ y → Answered values x status numbers →
    Answered values y status numbers
answered_same {values = values} e a = record { answers = a.answers ∙ ap status_of e; holds = a.holds ∙ ap (numbers_of values) e }
