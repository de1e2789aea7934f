-- Promise: masks of the bits of maps, as numbers like those of maps; what is kept of a schema, whole.
-- Assumes nothing.
use Rattle.std.specs.Prelude.{ℕ, ◌+◌, ◌*◌, ◌<◌, ◌≤◌, ◌≡◌, ◌⊎◌, List, Bool, true, false, not, length, get_or}
use Rattle.wire.specs.Read.{pick}
use Rattle.maps.specs.Maps.{top_bit}
use Rattle.column.specs.declared.column.Column.{Column}
use Rattle.column.specs.Columns.{is_chapter, is_nullable}
use Rattle.walk.specs.Presence.{Mark, no_mark, marks}
use Rattle.walk.specs.Updates.{numbered}
use Rattle.tree.specs.Schemas.{column_count}
use Rattle.tree.specs.Table.{schemas_in}
use Rattle.shapes.specs.Shapes.{first_in, form_at, Formed, slot_columns, Sound}

-- in a mask the bits of all marks that pass a test are set
abbrev pub Covers : (mask : ℕ) → (test : Mark → Bool) → List Mark → Type 0
Covers mask test ms = (i : ℕ) → i < length ms → test (get_or ms i no_mark) ≡ true → top_bit mask (get_or ms i no_mark).bit ≡ 1

-- a nullable chapter: its bit in a presence map must not be set
abbrev pub is_marked : Mark → Bool
is_marked m = pick (is_chapter m.column) (is_nullable m.column) false

-- a column of any kind
abbrev pub is_any : Mark → Bool
is_any m = true

-- a chapter: its bit in an update map must not be set
abbrev pub is_nested : Mark → Bool
is_nested m = is_chapter m.column

-- a chapter, or a column that is not nullable: its bit in a force-null map must not be set
abbrev pub is_unforced : Mark → Bool
is_unforced m = pick (is_chapter m.column) true (not (is_nullable m.column))

-- The three masks of update data of schema number k, whose columns these are.
pub record Forced (shapes : List ℕ) (k : ℕ) (cs : List Column) : Type 0 where
  pub chapters : Covers (get_or shapes (8 * k + 3) 0) is_nested (numbered 0 cs)
  pub unforced : Covers (get_or shapes (8 * k + 4) 0) is_unforced (numbered 0 cs)
  pub all : Covers (get_or shapes (8 * k + 5) 0) is_any (numbered 0 cs)

-- Its masks; no row of the top schema has update data.
pub record Masked (shapes : List ℕ) (k : ℕ) (cs : List Column) : Type 0 where
  pub present : Covers (get_or shapes (8 * k + 2) 0) is_marked (marks 0 cs)
  pub forced : 1 ≤ k → Forced shapes k cs

-- What is kept of schema number k, whose columns these are; no row of the top schema has update data.
pub record Shape (shapes : List ℕ) (k : ℕ) (cs : List Column) : Type 0 where
  pub few : length cs ≤ 64
  pub room : 8 * k + 8 ≤ length shapes
  pub row : Formed shapes (get_or shapes (form_at false k) 0) false cs
  pub update : 1 ≤ k → Formed shapes (get_or shapes (form_at true k) 0) true cs
  pub masked : Masked shapes k cs

-- of n schemas in a table of slots
abbrev pub Shaped : (slots shapes : List ℕ) (n : ℕ) → Type 0
Shaped slots shapes n = (k : ℕ) → k < n → Shape shapes k (slot_columns slots k)

-- the numbers that n schemas need
abbrev pub shapes_needed : (slots : List ℕ) (n : ℕ) → ℕ
shapes_needed slots n = 8 * n + 4 * column_count (schemas_in 0 n slots)

-- What keeping the schemas of a table leaves: where the table is sound and there is room, their shapes.
pub record Kept (slots : List ℕ) (n : ℕ) (entry exit : List ℕ) : Type 0 where
  pub long : length exit ≡ length entry
  pub shaped : Sound slots n → shapes_needed slots n ≤ length entry → Shaped slots exit n

-- Inner.

-- a mask with bit i set where `on` says so; no other bit goes
pub record BitAdded (mask i : ℕ) (on : Bool) (r : ℕ) : Type 0 where
  pub kept : (j : ℕ) → j < 64 → top_bit mask j ≡ 1 → top_bit r j ≡ 1
  pub added : on ≡ true → top_bit r i ≡ 1

-- What making those of update data leaves: them, and all other numbers.
pub record ForcedAdded (cs : List Column) (k : ℕ) (entry exit : List ℕ) : Type 0 where
  pub forced : Forced exit k cs
  pub long : length exit ≡ length entry
  pub others : (i : ℕ) → (i < 8 * k + 3) ⊎ (8 * k + 6 ≤ i) → get_or exit i 0 ≡ get_or entry i 0

-- What making the masks of one schema leaves: those, and all other numbers.
pub record MasksAdded (cs : List Column) (k : ℕ) (entry exit : List ℕ) : Type 0 where
  pub masked : Masked exit k cs
  pub long : length exit ≡ length entry
  pub others : (i : ℕ) → (i < 8 * k + 2) ⊎ (8 * k + 6 ≤ i) → get_or exit i 0 ≡ get_or entry i 0

-- the slots of a schema lie in the table, and its stops have so much room
pub record HasRoom (first count next room : ℕ) : Type 0 where
  pub few : count ≤ 64
  pub inside : first + count ≤ 256
  pub words : next + 4 * count ≤ room

-- What keeping one schema leaves: its shape, with its stops from `next` on, and all numbers of those before it.
pub record SchemaAdded (cs : List Column) (k next : ℕ) (entry exit : List ℕ) : Type 0 where
  pub shape : Shape exit k cs
  pub first : first_in (get_or exit (form_at false k) 0) ≡ next
  pub changes : 1 ≤ k → first_in (get_or exit (form_at true k) 0) ≡ next + 2 * length cs
  pub long : length exit ≡ length entry
  pub others : (i : ℕ) → (i < 8 * k) ⊎ ((8 * k + 8 ≤ i) × (i < next)) → get_or exit i 0 ≡ get_or entry i 0
