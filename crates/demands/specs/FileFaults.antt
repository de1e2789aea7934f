-- Promise: what can be wrong with a schema file (document 01, "Column sheet", and its table of refusals), exactly. `State` is where the reader
-- stands: what is left of the file, its offset, the counts so far added up, the child ids so far.
-- Assumes nothing.
use Rattle.std.specs.Prelude.{ℕ, zero, suc, ◌+◌, ◌≤◌, ◌<◌, ◌≡◌, List, [], ◌∷◌, ◌++◌, true, false, length, get_or}
use Rattle.wire.specs.Read.{Bytes, Read, ok, bad}
use Rattle.column.specs.declared.column.Column.{Column}
use Rattle.column.specs.declared.types.Kind.TheVariants.{Chapter, Unknown}
use Rattle.column.specs.Types.{kind_of, variable_kind}
use Rattle.tree.specs.Numbers.{number_limit}
use Rattle.column.specs.Layout.{most_columns}
use Rattle.tree.specs.Tree.{most_file_columns, most_depth, most_flags, most_maximum, Tree, numbers, member}
use Rattle.tree.specs.Reader.{State, state_at, Got, counting, seeing, Node, read_number, read_range, read_column, read_schema, file_of}
use Rattle.tree.specs.Schemas.{Schema, schema, read_schemas}
use Rattle.numbers.specs.Writer.{coded}
use Rattle.grammar.specs.Grammar.{columns_at}

-- A number in what is left, which stands at `at`. 1: it lacks a group, at the end of the input. 5: it has a group more than it needs, or more
-- than three groups, at its start.
pub data NumberFault : (left : Bytes) → (at code offset : ℕ) → Type 0 where
  no_group : {at : ℕ} → NumberFault [] at 1 at
  no_second : {a at : ℕ} → 0x80 ≤ a → NumberFault (a ∷ []) at 1 (at + 1)
  no_third : {a b at : ℕ} → 0x80 ≤ a → 0x80 ≤ b → NumberFault (a ∷ b ∷ []) at 1 (at + 2)
  second_zero : {a at : ℕ} {l : Bytes} → 0x80 ≤ a → NumberFault (a ∷ 0 ∷ l) at 5 at
  third_zero : {a b at : ℕ} {l : Bytes} → 0x80 ≤ a → 0x80 ≤ b → NumberFault (a ∷ b ∷ 0 ∷ l) at 5 at
  too_long : {a b c at : ℕ} {l : Bytes} → 0x80 ≤ a → 0x80 ≤ b → 0x80 ≤ c → NumberFault (a ∷ b ∷ c ∷ l) at 5 at

-- A number, then its range (6).
pub data RangeFault (low high : ℕ) (s : State) : (code offset : ℕ) → Type 0 where
  in_number : {code offset : ℕ} → NumberFault s.left s.at code offset → RangeFault low high s code offset
  below : {n : Got ℕ} → read_number s ≡ ok n → n.value < low → RangeFault low high s 6 s.at
  above : {n : Got ℕ} → read_number s ≡ ok n → high < n.value → RangeFault low high s 6 s.at

-- what is read of a file: a schema, so many columns, one column, where so many depths are left to schemas from there on
pub data Part : Type 0 where
  a_schema : (depths : ℕ) → Part
  some_columns : (depths count : ℕ) → Part
  a_column : (depths : ℕ) → Part

pub data SchemaFault : Part → State → (code offset : ℕ) → Type 0 where
  -- 7: depth 5, where its count would start
  too_deep : {s : State} → SchemaFault (a_schema zero) s 7 s.at
  -- a schema: its count
  in_count : {d code offset : ℕ} {s : State} → RangeFault 1 most_columns s code offset → SchemaFault (a_schema (suc d)) s code offset
  -- 7: column 257 by the counts added up, at the count
  too_many : {d : ℕ} {s : State} {n : Got ℕ} → read_range 1 most_columns s ≡ ok n → most_file_columns < n.next.total + n.value → SchemaFault (a_schema (suc d)) s 7 s.at
  -- and its columns
  in_columns : {d code offset : ℕ} {s : State} {n : Got ℕ} → read_range 1 most_columns s ≡ ok n → n.next.total + n.value ≤ most_file_columns →
      SchemaFault (some_columns d n.value) (counting n.value n.next) code offset → SchemaFault (a_schema (suc d)) s code offset
  -- columns one after the other
  in_first : {d n code offset : ℕ} {s : State} → SchemaFault (a_column d) s code offset → SchemaFault (some_columns d (suc n)) s code offset
  in_rest : {d n code offset : ℕ} {s : State} {c : Got Node} → read_column (read_schema d) s ≡ ok c → SchemaFault (some_columns d n) c.next code offset →
      SchemaFault (some_columns d (suc n)) s code offset
  -- a column: its type code
  in_code : {d code offset : ℕ} {s : State} → NumberFault s.left s.at code offset → SchemaFault (a_column d) s code offset
  unknown_type : {d : ℕ} {s : State} {n : Got ℕ} → read_number s ≡ ok n → kind_of n.value ≡ Unknown → SchemaFault (a_column d) s 6 s.at
  -- its flags
  in_flags : {d code offset : ℕ} {s : State} {n : Got ℕ} → read_number s ≡ ok n → (kind_of n.value ≡ Unknown → ⊥) → RangeFault 0 most_flags n.next code offset →
      SchemaFault (a_column d) s code offset
  -- a maximum, where its type has one
  in_maximum : {d code offset : ℕ} {s : State} {n f : Got ℕ} → read_number s ≡ ok n → variable_kind (kind_of n.value) ≡ true → read_range 0 most_flags n.next ≡ ok f →
      RangeFault 1 most_maximum f.next code offset → SchemaFault (a_column d) s code offset
  -- a chapter's id
  in_id : {d code offset : ℕ} {s : State} {n f : Got ℕ} → read_number s ≡ ok n → kind_of n.value ≡ Chapter → read_range 0 most_flags n.next ≡ ok f →
      NumberFault f.next.left f.next.at code offset → SchemaFault (a_column d) s code offset
  -- 8: it is repeated
  repeated : {d : ℕ} {s : State} {n f i : Got ℕ} → read_number s ≡ ok n → kind_of n.value ≡ Chapter → read_range 0 most_flags n.next ≡ ok f →
      read_number f.next ≡ ok i → member i.value i.next.seen ≡ true → SchemaFault (a_column d) s 8 f.next.at
  -- and its schema
  in_nested : {d code offset : ℕ} {s : State} {n f i : Got ℕ} → read_number s ≡ ok n → kind_of n.value ≡ Chapter → read_range 0 most_flags n.next ≡ ok f →
      read_number f.next ≡ ok i → member i.value i.next.seen ≡ false → SchemaFault (a_schema d) (seeing i.value i.next) code offset →
      SchemaFault (a_column d) s code offset

-- A file within the limit: its top schema, and 15 at the first byte after it.
pub data FileFault (b : Bytes) : (code offset : ℕ) → Type 0 where
  in-schema : {code offset : ℕ} → SchemaFault (a_schema most_depth) (state_at b 0 0 []) code offset → FileFault b code offset
  bytes_after : {t : Got Tree} → read_schema most_depth (state_at b 0 0 []) ≡ ok t → 0 < length t.next.left → FileFault b 15 t.next.at

-- the schemas that were read; none where there is an error
abbrev pub schemas_told : Read (List Schema) → List Schema
schemas_told (ok schemas) = schemas
schemas_told (bad code offset name) = []

-- the schemas of a file; none where it is refused
unfoldable pub schemas_in : Bytes → List Schema
schemas_in b = schemas_told (read_schemas b)

-- the columns of its schema number k; none where there is no such schema
unfoldable pub columns_in : Bytes → ℕ → List Column
columns_in b k = columns_at (schemas_in b) k

-- the numbers of the file that was read; none where there is an error
abbrev pub numbers_told : Read Tree → List ℕ
numbers_told (ok t) = numbers t
numbers_told (bad code offset name) = []

-- the numbers of a file; none where it is refused
unfoldable pub numbers_in : Bytes → List ℕ
numbers_in b = numbers_told (file_of b)

-- 18: no nested schema has this child id; at 0
pub data NoChild (schemas : List Schema) (id : ℕ) : (code offset : ℕ) → Type 0 where
  no_child : ((k : ℕ) → 1 ≤ k → k < length schemas → (get_or schemas k (schema 0 [])).id ≡ id → ⊥) → NoChild schemas id 18 0

-- Numbers to be written.
pub data WrittenFault (ns : List ℕ) : (code offset : ℕ) → Type 0 where
  -- 6: a number over three groups, where the reader would read it: there it refuses what stands for the number
  over_groups : (before : List ℕ) (n : ℕ) (behind : List ℕ) → ns ≡ before ++ (n ∷ behind) → number_limit ≤ n → FileFault (coded ns) 5 (length (coded before)) →
      WrittenFault ns 6 (length (coded before))
  -- all else that the reader refuses of their bytes
  as_read : {code offset : ℕ} → FileFault (coded ns) code offset → (code ≡ 5 → ⊥) → WrittenFault ns code offset
