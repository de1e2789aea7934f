-- Promise: what a writer leaves in the output that it was lent.
-- Assumes nothing.
use Rattle.std.specs.Prelude.{ℕ, List, ◌+◌, ◌≡◌, ◌++◌, length, take, drop, leb, Result}
use Rattle.wire.specs.declared.error.Input.TheVariants as input
use Rattle.wire.specs.declared.error.Error.{Error}
use Rattle.wire.specs.Read.{Bytes, Read, ok, bad, ◌>>=◌, pick, check, about, told}

-- an output with a piece laid over it from `at` on; as it was, where the piece does not fit
unfoldable pub put : {A : Type 0} → List A → ℕ → List A → List A
put out at piece =
    pick (leb (at + length piece) (length out)) (take at out ++ piece ++ drop (at + length piece) out) out

-- the output after a writer: the piece at its start and then what it held; after an error all that it held
unfoldable pub output_after : Read Bytes → Bytes → Bytes
unfolding put
output_after (ok piece) out = put out 0 piece
output_after (bad code offset about) out = out

-- what a writer answers: how many bytes it wrote
unfoldable pub size_of : Read Bytes → Read ℕ
size_of (ok piece) = ok (length piece)
size_of (bad code offset about) = bad code offset about

-- A piece to be written, where the output has so much capacity; else error 16, with the bytes that the piece needs.
unfoldable pub fitting : Bytes → ℕ → Read Bytes
fitting piece capacity = do
  _ ← about input.Output (check (leb (length piece) capacity) 16 (length piece))
  ok piece

-- What a writer of a piece promises: the size of the piece or the error, and what the output then holds.
pub record Wrote (piece : Read Bytes) (entry exit : Bytes) (answer : Result ℕ Error) : Type 0 where
  pub answers : told answer ≡ size_of piece
  pub leaves : exit ≡ output_after piece entry
