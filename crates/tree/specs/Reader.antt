-- Promise: the reader of a schema file, in document 01's order of checks.
-- Assumes nothing.
use Rattle.std.specs.Prelude.{ℕ, zero, suc, ◌+◌, List, [], ◌∷◌, ◌++◌, not, drop, leb}
use Rattle.wire.specs.declared.error.Input.TheVariants.{Single}
use Rattle.wire.specs.Read.{Bytes, Read, ok, bad, ◌>>=◌, check, sized}
use Rattle.column.specs.declared.types.Kind.{Kind}
use Rattle.column.specs.declared.types.Kind.TheVariants.{Fixed, Variable, Wide, Chapter, Unknown}
use Rattle.column.specs.Types.{kind_of}
use Rattle.tree.specs.Numbers.{Number, number_in}
use Rattle.column.specs.Layout.{most_columns}
use Rattle.tree.specs.Tree.{most_file_columns, most_depth, most_flags, most_maximum, Tree, none, field, chapter, member}

-- Where the reader stands: what is left of the input, its offset, the counts read so far added up, the ids read so far.
pub record State : Type 0 where
  pub left : Bytes
  pub at : ℕ
  pub total : ℕ
  pub seen : List ℕ

-- the state at an offset of the input
abbrev pub state_at : Bytes → ℕ → ℕ → List ℕ → State
state_at b at total seen = record { left = drop at b; at = at; total = total; seen = seen }

-- Something that was read, and where the reader stands then.
pub record Got (A : Type 0) : Type 0 where
  pub value : A
  pub next : State

abbrev pub got : {A : Type 0} → A → State → Got A
got a s = record { value = a; next = s }

-- the state behind a number
abbrev pub beyond : Number → State → State
beyond n s = record { left = n.left; at = n.at; total = s.total; seen = s.seen }

-- with a count added
abbrev pub counting : ℕ → State → State
counting n s = record { left = s.left; at = s.at; total = s.total + n; seen = s.seen }

-- with one more id
abbrev pub seeing : ℕ → State → State
seeing id s = record { left = s.left; at = s.at; total = s.total; seen = s.seen ++ (id ∷ []) }

-- a number: short or form (1, 5)
unfoldable pub read_number : State → Read (Got ℕ)
read_number s = do
  n ← number_in s.left s.at
  ok (got n.value (beyond n s))

-- a number, then its range (6)
unfoldable pub read_range : (low high : ℕ) → State → Read (Got ℕ)
read_range low high s = do
  n ← read_number s
  _ ← check (leb low n.value) 6 s.at
  _ ← check (leb n.value high) 6 s.at
  ok n

-- A column, apart from those behind it.
pub data Node : Type 0 where
  field_node : (code flags maximum : ℕ) → Node
  chapter_node : (flags id : ℕ) (nested : Tree) → Node

-- a column and those behind it
abbrev pub attach : Node → Tree → Tree
attach (field_node code flags maximum) rest = field code flags maximum rest
attach (chapter_node flags id nested) rest = chapter flags id nested rest

-- A column behind its type code.
-- of fixed width: its flags
unfoldable pub read_fixed : ℕ → State → Read (Got Node)
read_fixed code s = do
  flags ← read_range 0 most_flags s
  ok (got (field_node code flags.value 0) flags.next)

-- of variable length: its flags and its maximum
unfoldable pub read_variable : ℕ → State → Read (Got Node)
read_variable code s = do
  flags ← read_range 0 most_flags s
  maximum ← read_range 1 most_maximum flags.next
  ok (got (field_node code flags.value maximum.value) maximum.next)

-- a chapter: its flags, its id, which must be a new one (8), and its schema, which `nest` reads
unfoldable pub read_chapter : (nest : State → Read (Got Tree)) → State → Read (Got Node)
read_chapter nest s = do
  flags ← read_range 0 most_flags s
  id ← read_number flags.next
  _ ← check (not (member id.value id.next.seen)) 8 flags.next.at
  nested ← nest (seeing id.value id.next)
  ok (got (chapter_node flags.value id.value nested.value) nested.next)

-- by the kind of its type, whose code stands at `at`; an unknown one is out of range (6)
unfoldable pub read_kind : (nest : State → Read (Got Tree)) → Kind → (code at : ℕ) → State → Read (Got Node)
read_kind nest (Fixed w) code at s = read_fixed code s
read_kind nest Variable code at s = read_variable code s
read_kind nest Wide code at s = read_variable code s
read_kind nest Chapter code at s = read_chapter nest s
read_kind nest Unknown code at s = bad 6 at Single

-- a column: its type code, then by its kind
unfoldable pub read_column : (nest : State → Read (Got Tree)) → State → Read (Got Node)
read_column nest s = do
  code ← read_number s
  read_kind nest (kind_of code.value) code.value s.at code.next

-- n columns, one after the other
unfoldable pub read_columns : (nest : State → Read (Got Tree)) → ℕ → State → Read (Got Tree)
read_columns nest zero s = ok (got none s)
read_columns nest (suc n) s = do
  column ← read_column nest s
  rest ← read_columns nest n column.next
  ok (got (attach column.value rest.value) rest.next)

-- A schema, where d depths are left, its own the first of them: the depth (7), with nothing read; the count; the counts added
-- up (7); the columns.
unfoldable pub read_schema : ℕ → State → Read (Got Tree)
read_schema zero s = bad 7 s.at Single
read_schema (suc d) s = do
  n ← read_range 1 most_columns s
  _ ← check (leb (n.next.total + n.value) most_file_columns) 7 s.at
  read_columns (read_schema d) n.value (counting n.value n.next)

-- nothing stands behind the top schema (15)
unfoldable pub ended : Bytes → ℕ → Read (Unit {0})
ended [] at = ok tt
ended (b ∷ l) at = bad 15 at Single

-- a file, whatever its size
unfoldable pub read_file : Bytes → Read Tree
read_file b = do
  t ← read_schema most_depth (state_at b 0 0 [])
  _ ← ended t.next.left t.next.at
  ok t.value

-- a file: its size first (19)
unfoldable pub file_of : Bytes → Read Tree
file_of b = do
  _ ← sized b
  read_file b
