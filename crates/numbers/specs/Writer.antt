-- Promise: the writer of a schema file from its numbers, and the numbers of a file (document 01, "Column sheet" and the writers).
-- Assumes nothing.
use Rattle.std.specs.Prelude.{ℕ, ◌+◌, ◌*◌, ◌≤◌, ◌≡◌, List, [], ◌∷◌, ◌++◌, length, take, leb, ltb, eqb, Result}
use Rattle.wire.specs.declared.error.Error.{Error}
use Rattle.wire.specs.declared.error.Input.TheVariants as input
use Rattle.wire.specs.Read.{Bytes, Read, ok, bad, ◌>>=◌, pick, check, about, sized_by, told}
use Rattle.wire.specs.Output.{put, fitting, size_of, output_after}
use Rattle.tree.specs.Numbers.{number_limit, groups}
use Rattle.tree.specs.Tree.{Tree, numbers}
use Rattle.tree.specs.Reader.{read_file, file_of}

-- What stands for a number over three groups: no form of a number, so that the reader refuses it (5) where it would read it.
abbrev pub no_number : Bytes
no_number = 0x80 ∷ 0x80 ∷ 0x80 ∷ []

-- the bytes of a number
unfoldable pub coded_number : ℕ → Bytes
unfolding groups
coded_number n = pick (ltb n number_limit) (groups n) no_number

-- numbers one after the other
unfoldable pub coded : List ℕ → Bytes
coded [] = []
coded (n ∷ ns) = coded_number n ++ coded ns

-- What a wrong form tells of numbers to be written: as these are written in their shortest forms, the number is over three
-- groups, which is out of range (6).
unfoldable pub in_range : {A : Type 0} → Read A → Read A
in_range (ok a) = ok a
in_range (bad code offset about) = bad (pick (eqb code 5) 6 code) offset about

-- an answer of the reader, told of the numbers
abbrev pub of_numbers : Read Tree → Read Tree
of_numbers r = about input.Numbers (in_range r)

-- The bytes of a file with these numbers: their size first (19: four bytes a number), then what the reader refuses, then room.
unfoldable pub file_written : List ℕ → ℕ → Read Bytes
file_written ns capacity = do
  _ ← about input.Numbers (sized_by (4 * length ns))
  _ ← of_numbers (read_file (coded ns))
  fitting (coded ns) capacity

-- The numbers of a file, for a table of so many: what the reader refuses, then room (16, with the numbers that there are).
unfoldable pub numbers_listed : Bytes → ℕ → Read (List ℕ)
numbers_listed b capacity = do
  t ← about input.Schema (file_of b)
  _ ← about input.Table (check (leb (length (numbers t)) capacity) 16 (length (numbers t)))
  ok (numbers t)

-- What a list of numbers in a caller's table promises: how many there are or the error, and what the table then holds.
pub record Lists (ns : Read (List ℕ)) (entry exit : List ℕ) (answer : Result ℕ Error) : Type 0 where
  pub answers : told answer ≡ size_of ns
  pub leaves : exit ≡ output_after ns entry

-- Inner.

-- What a buffer holds of the numbers' bytes: the first r, and all of them unless it has less than three bytes of room left.
pub record Coded (ns : List ℕ) (buffer : Bytes) (r : ℕ) : Type 0 where
  pub inside : r ≤ length buffer
  pub rest : Bytes
  pub splits : coded ns ≡ take r buffer ++ rest
  pub all : r + 3 ≤ length buffer → rest ≡ []

-- how many numbers these bytes have, if they are a file
abbrev pub CountIs : Bytes → ℕ → Type 0
CountIs b n = (t : Tree) → file_of b ≡ ok t → n ≡ length (numbers t)

-- a table with their numbers at its start, if they are a file and it has room for all
abbrev pub ListIs : Bytes → (entry exit : List ℕ) → Type 0
ListIs b entry exit = (t : Tree) → file_of b ≡ ok t → length (numbers t) ≤ length entry → exit ≡ put entry 0 (numbers t)
