-- Promise: what can be wrong with a row section (document 01, "Rows", and its table of refusals), exactly.
-- Assumes nothing.
use Rattle.std.specs.Prelude.{ℕ, ◌+◌, ◌≤◌, ◌<◌, ◌≡◌, List, [], length, get_or}
use Rattle.std.proofs.Math.Option.{none, some}
use Rattle.wire.specs.declared.error.Input.TheVariants as input
use Rattle.wire.specs.Read.{Bytes, Read, ok, bad}
use Rattle.walk.specs.Rows.{row_end}
use Rattle.walk.specs.Updates.{update_end}
use Rattle.tree.specs.Schemas.{Schema, child_number}
use Rattle.grammar.specs.Grammar.{Before, other, after, columns_at, Row}
use Rattle.grammar.specs.Reader.{id_at, section}
use Rattle.section.specs.Table.{room_for}
use Rattle.demands.specs.Checks.{Refusals, ◌then◌, Of, NoRoom}
use Rattle.demands.specs.FileFaults.{FileFault, schemas_in}
use Rattle.demands.specs.RowFaults.{RowFaults, UpdateFaults}

-- a byte that is no token
pub record NoToken (b : ℕ) : Type 0 where
  pub no_parent : b ≡ 0x07 → ⊥
  pub no_child : b ≡ 0x87 → ⊥
  pub no_change : b ≡ 0x8A → ⊥
  pub no_delete : b ≡ 0x8C → ⊥
  pub no_done : b ≡ 0x0F → ⊥

-- a token with a child id behind it
pub data HasId (b : ℕ) : Type 0 where
  of_child : b ≡ 0x87 → HasId b
  of_change : b ≡ 0x8A → HasId b
  of_delete : b ≡ 0x8C → HasId b

-- 8A and 8C
pub data Follows (b : ℕ) : Type 0 where
  a_change : b ≡ 0x8A → Follows b
  a_delete : b ≡ 0x8C → Follows b

-- The elements from `at` on, with `before` directly before them. All places are counted from the section's first byte.
pub data SectionFault (S : List Schema) (s : Bytes) : Before → (at code offset : ℕ) → Type 0 where
  -- 1: the section ends where a token is to stand
  no_token : {before : Before} {at : ℕ} → length s ≤ at → SectionFault S s before at 1 (length s)
  -- 9: an unknown token
  unknown_token_lem : {before : Before} {at : ℕ} → at < length s → NoToken (get_or s at 0) → SectionFault S s before at 9 at
  -- 15: bytes after the done token
  bytes_after : {before : Before} {at : ℕ} → get_or s at 0 ≡ 0x0F → at + 1 < length s → SectionFault S s before at 15 (at + 1)
  -- 1: the section ends inside a child id
  in_id : {before : Before} {at : ℕ} → at < length s → HasId (get_or s at 0) → length s < at + 5 → SectionFault S s before at 1 (length s)
  -- 10: 87 with an unknown id, at the token
  unknown_id : {before : Before} {at : ℕ} → get_or s at 0 ≡ 0x87 → at + 5 ≤ length s → child_number S (id_at s at) ≡ none → SectionFault S s before at 10 at
  -- 11: 8A or 8C without an 87 of the same id directly before, at the token
  alone : {before : Before} {at : ℕ} → Follows (get_or s at 0) → at + 5 ≤ length s → (before ≡ after (id_at s at) → ⊥) → SectionFault S s before at 11 at
  -- the data of an element
  in_parent : {before : Before} {at code offset : ℕ} → at < length s → get_or s at 0 ≡ 0x07 → RowFaults input.Single (columns_at S 0) s (at + 1) code offset input.Single →
      SectionFault S s before at code offset
  in_child : {before : Before} {at k code offset : ℕ} → get_or s at 0 ≡ 0x87 → at + 5 ≤ length s → child_number S (id_at s at) ≡ some k →
      RowFaults input.Single (columns_at S k) s (at + 5) code offset input.Single → SectionFault S s before at code offset
  in_change : {at k code offset : ℕ} → get_or s at 0 ≡ 0x8A → at + 5 ≤ length s → child_number S (id_at s at) ≡ some k →
      UpdateFaults input.Single (columns_at S k) s (at + 5) code offset input.Single → SectionFault S s (after (id_at s at)) at code offset
  -- what follows an element that is whole
  behind_parent : {before : Before} {at e code offset : ℕ} → at < length s → get_or s at 0 ≡ 0x07 → row_end (columns_at S 0) s (at + 1) ≡ ok e → SectionFault S s other e code offset →
      SectionFault S s before at code offset
  behind_child : {before : Before} {at e k code offset : ℕ} → get_or s at 0 ≡ 0x87 → at + 5 ≤ length s → child_number S (id_at s at) ≡ some k →
      row_end (columns_at S k) s (at + 5) ≡ ok e → SectionFault S s (after (id_at s at)) e code offset → SectionFault S s before at code offset
  behind_change : {at e k code offset : ℕ} → get_or s at 0 ≡ 0x8A → at + 5 ≤ length s → child_number S (id_at s at) ≡ some k →
      update_end (columns_at S k) s (at + 5) ≡ ok e → SectionFault S s other e code offset → SectionFault S s (after (id_at s at)) at code offset
  behind_delete : {at code offset : ℕ} → get_or s at 0 ≡ 0x8C → at + 5 ≤ length s → SectionFault S s other (at + 5) code offset →
      SectionFault S s (after (id_at s at)) at code offset

-- the rows of a section; none where it is refused
abbrev pub rows_told : Read (List Row) → List Row
rows_told (ok rs) = rs
rows_told (bad code offset name) = []

unfoldable pub rows_in : List Schema → Bytes → List Row
rows_in schemas s = rows_told (section schemas s)

-- A section under a schema file, behind the sizes: the file, and then the section.
abbrev pub CheckFaults : (file section : Bytes) → Refusals
CheckFaults file s = Of input.Schema (FileFault file) then Of input.Section (SectionFault (schemas_in file) s other 0)

-- With a table of so many numbers: the same, and last the room for the rows.
abbrev pub ListFaults : (file section : Bytes) (numbers : ℕ) → Refusals
ListFaults file s numbers =
    Of input.Schema (FileFault file) then Of input.Section (SectionFault (schemas_in file) s other 0)
    then Of input.Table (NoRoom (length (rows_in (schemas_in file) s)) (room_for numbers))
