-- Promise: what is read off a row, as what a writer is given; and which rows are written back as they were.
-- Assumes nothing.
use Rattle.std.specs.Prelude.{ℕ, zero, suc, ◌+◌, ◌*◌, ◌<◌, ◌≤◌, ◌≡◌, List, [], ◌∷◌, ◌++◌, true, false, length, drop}
use Rattle.wire.specs.Read.{Bytes, Read, ok, bad, cut}
use Rattle.wire.specs.Bits.{bit_set}
use Rattle.column.specs.declared.column.Column.{Column}
use Rattle.column.specs.Columns.{is_chapter}
use Rattle.column.specs.Fields as fields
use Rattle.walk.specs.Presence.{nullables, presence_bytes}
use Rattle.walk.specs.Rows as rows
use Rattle.walk.specs.Updates as updates
use Rattle.encode.specs.Entries.{Entry, value, null, unchanged, null_kind, value_kind, unchanged_kind}

-- An answer of a look-up in a row says what an entry says: a field in the row that holds the value's bytes, null, a chapter.
pub data Says (row : Bytes) (c : Column) : Entry → Read rows.Answer → Type 0 where
  says_value : {v : Bytes} {s e n : ℕ} → is_chapter c ≡ false → e ≡ s + length v → e ≤ length row → cut row s (length v) ≡ v → Says row c (value v) (ok (rows.field (fields.field s e n)))
  says_null : is_chapter c ≡ false → Says row c null (ok rows.null)
  says_chapter : is_chapter c ≡ true → Says row c null (ok rows.chapter)

-- The same of a look-up in update data: a new field, null by force, or unchanged.
pub data SaysUpdate (row : Bytes) (c : Column) : Entry → Read updates.UpdateAnswer → Type 0 where
  says_new : {v : Bytes} {s e n : ℕ} → is_chapter c ≡ false → e ≡ s + length v → e ≤ length row → cut row s (length v) ≡ v → SaysUpdate row c (value v) (ok (updates.field (fields.field s e n)))
  says_forced : is_chapter c ≡ false → SaysUpdate row c null (ok updates.null)
  says_unchanged : is_chapter c ≡ false → SaysUpdate row c unchanged (ok updates.unchanged)
  says_chapter_unchanged : is_chapter c ≡ true → SaysUpdate row c unchanged (ok updates.chapter)

-- what an answer is given as: a field by its two ends in the row itself, so that the row is the values
abbrev pub numbers_of : Read rows.Answer → List ℕ
numbers_of (ok (rows.field f)) = value_kind ∷ f.start ∷ f.end ∷ []
numbers_of (ok rows.null) = null_kind ∷ 0 ∷ 0 ∷ []
numbers_of (ok rows.chapter) = null_kind ∷ 0 ∷ 0 ∷ []
numbers_of (bad code offset about) = unchanged_kind ∷ 0 ∷ 0 ∷ []

abbrev pub numbers_of_update : Read updates.UpdateAnswer → List ℕ
numbers_of_update (ok (updates.field f)) = value_kind ∷ f.start ∷ f.end ∷ []
numbers_of_update (ok updates.null) = null_kind ∷ 0 ∷ 0 ∷ []
numbers_of_update (ok updates.unchanged) = unchanged_kind ∷ 0 ∷ 0 ∷ []
numbers_of_update (ok updates.chapter) = unchanged_kind ∷ 0 ∷ 0 ∷ []
numbers_of_update (bad code offset about) = unchanged_kind ∷ 0 ∷ 0 ∷ []

-- the numbers of n columns from column k on, joined
unfoldable pub numbers_from : (ℕ → List ℕ) → (n k : ℕ) → List ℕ
numbers_from of zero k = []
numbers_from of (suc n) k = of k ++ numbers_from of n (suc k)

-- The reserved bits of a row's map, and of both maps of update data, are 0.
abbrev pub ReservedZero : List Column → Bytes → Type 0
ReservedZero columns row = (k : ℕ) → nullables columns ≤ k → k < 8 * presence_bytes columns → bit_set row k ≡ false

abbrev pub UpdateReservedZero : List Column → Bytes → Type 0
UpdateReservedZero columns update =
    (k : ℕ) → length columns ≤ k → k < 8 * updates.update_bytes columns →
    (bit_set update k ≡ false) × (bit_set (drop (updates.update_bytes columns) update) k ≡ false)

-- Inner.

-- what is read off a row, column by column, as it is given to a writer; and off update data
unfoldable pub read_original : List Column → Bytes → List ℕ
read_original columns row = numbers_from (λ (k : ℕ). numbers_of (rows.look_up columns row k)) (length columns) 0

unfoldable pub read_update : List Column → Bytes → List ℕ
read_update columns update = numbers_from (λ (k : ℕ). numbers_of_update (updates.look_update columns update k)) (length columns) 0
