-- Promise: what every reader is made of: an answer or the first error, and bytes that are there or not.
-- Assumes nothing.
use Rattle.std.specs.Prelude.{ℕ, ◌+◌, ◌<◌, List, [], ◌∷◌, Bool, true, false, length, get_or, take, drop, leb, eqb, Result, Ok, Err}
use Rattle.wire.specs.declared.error.Error.{Error}
use Rattle.wire.specs.declared.error.Input.{Input}
use Rattle.wire.specs.declared.error.Input.TheVariants as input
use Rattle.wire.specs.Errors.{code_of}

abbrev pub Bytes : Type 0
Bytes = List ℕ

-- Each number is a byte, as those of a slice are.
abbrev pub AreBytes : Bytes → Type 0
AreBytes s = (i : ℕ) → get_or s i 0 < 256

-- A reader answers a value, or the first error: its code and offset (the paper's number and place) and its input.
pub data Read (A : Type 0) : Type 0 where
  ok : A → Read A
  bad : ℕ → ℕ → Input → Read A

infixl 20 ◌>>=◌
-- One after the other: the first error is the answer. A `do` block is made of these.
abbrev pub ◌>>=◌ : {A B : Type 0} → Read A → (A → Read B) → Read B
◌>>=◌ (ok a) next = next a
◌>>=◌ (bad code offset about) next = bad code offset about

abbrev pub pick : {A : Type 0} → Bool → A → A → A
pick true a b = a
pick false a b = b

-- goes on where the test holds
unfoldable pub check : Bool → ℕ → ℕ → Read (Unit {0})
check true code offset = ok tt
check false code offset = bad code offset input.Single

-- an error of a single input, by the name that the input has in a call with several
unfoldable pub about : {A : Type 0} → Input → Read A → Read A
about name (ok a) = ok a
about name (bad code offset _) = bad code offset name

-- an error value, in the paper's numbers
abbrev pub refused : {A : Type 0} → Error → Read A
refused e = bad (code_of e.kind) e.offset e.input

-- what a reader's `Result` says
abbrev pub told : {A : Type 0} → Result A Error → Read A
told (Ok a) = ok a
told (Err e) = refused e

-- the size limit of an input (the paper's 16,777,216 bytes), checked first
abbrev pub limit : ℕ
limit = 16777216

unfoldable pub sized_by : ℕ → Read (Unit {0})
unfolding check
sized_by n = check (leb n limit) 19 0

unfoldable pub sized : Bytes → Read (Unit {0})
unfolding sized_by
sized s = sized_by (length s)

-- the n bytes from `at` on
abbrev pub cut : Bytes → ℕ → ℕ → Bytes
cut s at n = take n (drop at s)

-- The input has n bytes from `at` on: where they end. Else error 1, at the length of the input.
unfoldable pub whole : Bytes → ℕ → ℕ → Read ℕ
whole s at n = do
  _ ← check (leb (at + n) (length s)) 1 (length s)
  ok (at + n)

-- those bytes
unfoldable pub read_bytes : Bytes → ℕ → ℕ → Read Bytes
read_bytes s at n = do
  _ ← whole s at n
  ok (cut s at n)

-- the byte at `at`
unfoldable pub byte_at : Bytes → ℕ → Read ℕ
byte_at s at = do
  _ ← whole s at 1
  ok (get_or s at 0)

-- The bytes from `at` on are the constant ones: each is there and equal, or error 2 at the first that differs.
unfoldable pub constants : Bytes → ℕ → Bytes → Read (Unit {0})
constants s at [] = ok tt
constants s at (expected ∷ rest) = do
  b ← byte_at s at
  _ ← check (eqb b expected) 2 at
  constants s (at + 1) rest
