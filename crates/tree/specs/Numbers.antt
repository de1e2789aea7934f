-- Promise: the numbers that a schema file is made of, seven bits a byte (document 01, "Column sheet": its numbers and their groups).
-- Assumes nothing.
use Rattle.std.specs.Prelude.{ℕ, ◌+◌, ◌*◌, ◌-◌, ◌/◌, ◌%◌, List, [], ◌∷◌, ◌++◌, length, get_or, leb, ltb}
use Rattle.wire.specs.declared.error.Input.TheVariants.{Single}
use Rattle.wire.specs.Read.{Bytes, Read, ok, bad, ◌>>=◌, pick, check}

-- the first number that three groups cannot say
abbrev pub number_limit : ℕ
number_limit = 0x200000

-- The groups of a number, a byte each, lowest bits first; a byte with a group behind it has its top bit. No more groups than
-- the number needs (the shortest form).
unfoldable pub groups : ℕ → Bytes
groups n =
    pick (ltb n 0x80) (n ∷ [])
    (pick (ltb n 0x4000) ((n % 0x80 + 0x80) ∷ ((n / 0x80) ∷ []))
    ((n % 0x80 + 0x80) ∷ ((n / 0x80 % 0x80 + 0x80) ∷ ((n / 0x4000) ∷ []))))

-- A number that was read: its value, the bytes behind it, and their offset.
pub record Number : Type 0 where
  pub value : ℕ
  pub left : Bytes
  pub at : ℕ

abbrev pub number : ℕ → Bytes → ℕ → Number
number n l at = record { value = n; left = l; at = at }

-- The number at the start of what is left, which stands at `at` of the input. Error 1 at the end of the input where it lacks a
-- group, error 5 at its start where it is too long or not in the shortest form.
-- Its third group, behind the groups a and b:
unfoldable pub third_group : ℕ → ℕ → Bytes → ℕ → Read Number
third_group a b [] at = bad 1 (at + 2) Single
third_group a b (c ∷ l) at = do
  _ ← check (leb 1 c) 5 at
  _ ← check (ltb c 0x80) 5 at
  ok (number ((a - 0x80) + 0x80 * (b - 0x80) + 0x4000 * c) l (at + 3))

-- its second group, behind the group a:
unfoldable pub second_group : ℕ → Bytes → ℕ → Read Number
second_group a [] at = bad 1 (at + 1) Single
second_group a (b ∷ l) at = do
  _ ← check (leb 1 b) 5 at
  pick (ltb b 0x80) (ok (number ((a - 0x80) + 0x80 * b) l (at + 2))) (third_group a b l at)

-- the number:
unfoldable pub number_in : Bytes → ℕ → Read Number
number_in [] at = bad 1 at Single
number_in (a ∷ l) at = pick (ltb a 0x80) (ok (number a l (at + 1))) (second_group a l at)

-- The same by offsets into the whole input, as code reads it. A number that was found: its value, and the offset behind it.
pub record Found : Type 0 where
  pub value : ℕ
  pub at : ℕ

abbrev pub found : ℕ → ℕ → Found
found n at = record { value = n; at = at }

-- the third group of the number at `at`
unfoldable pub third_at : Bytes → ℕ → Read Found
third_at b at = do
  _ ← check (ltb (at + 2) (length b)) 1 (length b)
  _ ← check (leb 1 (get_or b (at + 2) 0)) 5 at
  _ ← check (ltb (get_or b (at + 2) 0) 0x80) 5 at
  ok (found ((get_or b at 0 - 0x80) + 0x80 * (get_or b (at + 1) 0 - 0x80) + 0x4000 * get_or b (at + 2) 0) (at + 3))

-- its second group
unfoldable pub second_at : Bytes → ℕ → Read Found
second_at b at = do
  _ ← check (ltb (at + 1) (length b)) 1 (length b)
  _ ← check (leb 1 (get_or b (at + 1) 0)) 5 at
  pick (ltb (get_or b (at + 1) 0) 0x80) (ok (found ((get_or b at 0 - 0x80) + 0x80 * get_or b (at + 1) 0) (at + 2))) (third_at b at)

-- the number at `at`
unfoldable pub number_at : Bytes → ℕ → Read Found
number_at b at = do
  _ ← check (ltb at (length b)) 1 (length b)
  pick (ltb (get_or b at 0) 0x80) (ok (found (get_or b at 0) (at + 1))) (second_at b at)

-- Inner.

-- the groups of numbers, one number after the other
unfoldable pub all_groups : List ℕ → Bytes
all_groups [] = []
all_groups (n ∷ ns) = groups n ++ all_groups ns
