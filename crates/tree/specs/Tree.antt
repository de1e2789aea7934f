-- Promise: a schema file (document 01's column sheet) as a tree: its numbers, its bytes, and which trees are well formed.
-- Assumes nothing.
use Rattle.std.specs.Prelude.{ℕ, suc, ◌+◌, ◌≤◌, ◌<◌, max, ◌≡◌, List, [], ◌∷◌, ◌++◌, Bool, true, false, eqb}
use Rattle.wire.specs.Read.{Bytes, pick}
use Rattle.column.specs.declared.types.Kind.{Kind}
use Rattle.column.specs.declared.types.Kind.TheVariants.{Fixed, Variable, Wide, Chapter, Unknown}
use Rattle.column.specs.Types.{chapter_code, kind_of, variable_kind}
use Rattle.column.specs.Layout.{most_columns}
use Rattle.tree.specs.Numbers.{number_limit, all_groups}

-- The paper's limits, beside that of the columns of one schema (`column`, specs/Layout.antt).
-- columns of a file
abbrev pub most_file_columns : ℕ
most_file_columns = 256

-- depth of a file; the top schema has depth 1
abbrev pub most_depth : ℕ
most_depth = 4

-- flags of a column: 0, or 1 for nullable
abbrev pub most_flags : ℕ
most_flags = 1

-- maximum length of a column of variable length, at least 1
abbrev pub most_maximum : ℕ
most_maximum = 32767

-- The columns of a schema, in order. A chapter holds the columns of its nested schema.
pub data Tree : Type 0 where
  none : Tree
  field : (code flags maximum : ℕ) (rest : Tree) → Tree
  chapter : (flags id : ℕ) (nested rest : Tree) → Tree

-- how many columns the schema itself has: its count
unfoldable pub columns : Tree → ℕ
columns none = 0
columns (field code flags maximum rest) = suc (columns rest)
columns (chapter flags id nested rest) = suc (columns rest)

-- the numbers after a field's flags, by its type: a maximum or nothing
abbrev pub maximum_of : Kind → ℕ → List ℕ
maximum_of (Fixed w) maximum = []
maximum_of Variable maximum = maximum ∷ []
maximum_of Wide maximum = maximum ∷ []
maximum_of Chapter maximum = []
maximum_of Unknown maximum = []

-- The numbers of the columns: type code, flags, and then a maximum, an id with a whole nested schema, or nothing.
unfoldable pub column_numbers : Tree → List ℕ
column_numbers none = []
column_numbers (field code flags maximum rest) = code ∷ flags ∷ (maximum_of (kind_of code) maximum ++ column_numbers rest)
column_numbers (chapter flags id nested rest) = chapter_code ∷ flags ∷ id ∷ ((columns nested ∷ column_numbers nested) ++ column_numbers rest)

-- the numbers of a schema: its count, then its columns
unfoldable pub numbers : Tree → List ℕ
numbers t = columns t ∷ column_numbers t

-- a number stands in a list
unfoldable pub member : ℕ → List ℕ → Bool
member x [] = false
member x (y ∷ l) = pick (eqb x y) true (member x l)

-- Inner.

-- the bytes of a file
unfoldable pub encode : Tree → Bytes
encode t = all_groups (numbers t)

-- What the rules for a whole file speak of.
-- the child ids, in the order of the bytes
unfoldable pub ids : Tree → List ℕ
ids none = []
ids (field code flags maximum rest) = ids rest
ids (chapter flags id nested rest) = id ∷ (ids nested ++ ids rest)

-- the counts of all nested schemas together
unfoldable pub nested_counts : Tree → ℕ
nested_counts none = 0
nested_counts (field code flags maximum rest) = nested_counts rest
nested_counts (chapter flags id nested rest) = (columns nested + nested_counts nested) + nested_counts rest

-- the columns of a file: the sum of its counts
unfoldable pub counts : Tree → ℕ
counts t = columns t + nested_counts t

-- how many chapters stand in a file, at any depth: so many schemas are nested in it
unfoldable pub chapters : Tree → ℕ
chapters none = 0
chapters (field code flags maximum rest) = chapters rest
chapters (chapter flags id nested rest) = suc (chapters nested + chapters rest)

-- how deep the schemas go, with the top one at depth 1
unfoldable pub depth : Tree → ℕ
depth none = 1
depth (field code flags maximum rest) = depth rest
depth (chapter flags id nested rest) = max (1 + depth nested) (depth rest)

-- no number stands twice in a list
pub data Distinct : List ℕ → Type 0 where
  no_number : Distinct []
  new : {x : ℕ} {l : List ℕ} → member x l ≡ false → Distinct l → Distinct (x ∷ l)

-- a count in its range
pub record Count (n : ℕ) : Type 0 where
  pub some : 1 ≤ n
  pub few : n ≤ most_columns

-- Every column is right in itself: a known type, flags and by type a maximum in their range (a type of fixed width has
-- none: 0 stands for it), an id that a number can say; and every nested schema has its columns, all right.
pub data Right : Tree → Type 0 where
  no_column_lem : Right none
  fixed_field : {code flags w : ℕ} {rest : Tree} → kind_of code ≡ Fixed w → flags ≤ most_flags → Right rest → Right (field code flags 0 rest)
  variable_field :
      {code flags maximum : ℕ} {rest : Tree} → variable_kind (kind_of code) ≡ true → flags ≤ most_flags → 1 ≤ maximum → maximum ≤ most_maximum →
      Right rest → Right (field code flags maximum rest)
  a_chapter :
      {flags id : ℕ} {nested rest : Tree} → flags ≤ most_flags → id < number_limit → Count (columns nested) → Right nested → Right rest →
      Right (chapter flags id nested rest)

-- A well-formed file: a count in its range, right columns, no schema too deep, no column too many, no child id twice.
pub record WellFormed (t : Tree) : Type 0 where
  pub count : Count (columns t)
  pub right : Right t
  pub shallow : depth t ≤ most_depth
  pub few : counts t ≤ most_file_columns
  pub once : Distinct (ids t)
