-- Promise: the numbers of one column up to a nested schema, by offsets into the whole input, as code reads them.
-- Assumes nothing.
use Rattle.std.specs.Prelude.{ℕ, length, get_or, ltb, Result, Ok, Err}
use Rattle.entry.specs.declared.number.Number.{Number}
use Rattle.wire.specs.declared.error.Error.{Error}
use Rattle.entry.specs.declared.head.ColumnHead.{ColumnHead}
use Rattle.wire.specs.declared.error.Input.TheVariants.{Single}
use Rattle.wire.specs.Read.{Bytes, Read, ok, bad, ◌>>=◌, check, refused}
use Rattle.column.specs.declared.types.Kind.{Kind}
use Rattle.column.specs.declared.types.Kind.TheVariants.{Fixed, Variable, Wide, Chapter, Unknown}
use Rattle.column.specs.Types.{kind_of}
use Rattle.entry.specs.declared.head.ColumnHead.TheVariants as head
use Rattle.tree.specs.Numbers.{Found, found, number_at}
use Rattle.tree.specs.Tree.{most_flags, most_maximum}
use Rattle.tree.specs.Filling.{range_at}

-- The numbers of a column. Of a chapter also where its id stands.
pub data Head : Type 0 where
  field_head : (code flags maximum end : ℕ) → Head
  id_head : (flags id id_at end : ℕ) → Head

-- behind the code: of fixed width, of variable length, a chapter
unfoldable pub fixed_head : Bytes → (code at : ℕ) → Read Head
fixed_head b code at = do
  flags ← range_at 0 most_flags b at
  ok (field_head code flags.value 0 flags.at)

unfoldable pub variable_head : Bytes → (code at : ℕ) → Read Head
variable_head b code at = do
  flags ← range_at 0 most_flags b at
  maximum ← range_at 1 most_maximum b flags.at
  ok (field_head code flags.value maximum.value maximum.at)

unfoldable pub chapter_head : Bytes → (at : ℕ) → Read Head
chapter_head b at = do
  flags ← range_at 0 most_flags b at
  id ← number_at b flags.at
  ok (id_head flags.value id.value flags.at id.at)

-- by the kind of the type whose code stands at `at`
unfoldable pub head_by : Kind → Bytes → (code at behind : ℕ) → Read Head
head_by (Fixed w) b code at behind = fixed_head b code behind
head_by Variable b code at behind = variable_head b code behind
head_by Wide b code at behind = variable_head b code behind
head_by Chapter b code at behind = chapter_head b behind
head_by Unknown b code at behind = bad 6 at Single

unfoldable pub head_at : Bytes → ℕ → Read Head
head_at b at = do
  code ← number_at b at
  head_by (kind_of code.value) b code.value at code.at

-- what the answers say
abbrev pub told_number : Result Number Error → Read Found
told_number (Ok n) = ok (found n.value n.end)
told_number (Err e) = refused e

abbrev pub told_head : Result ColumnHead Error → Read Head
told_head (Ok (head.Field c end)) = ok (field_head c.code c.flags c.maximum end)
told_head (Ok (head.Chapter flags id id_at end)) = ok (id_head flags id id_at end)
told_head (Err e) = refused e

-- Inner.

-- the byte at `at`, or error 1 at the length of the input
unfoldable pub group_at : Bytes → ℕ → Read ℕ
group_at b at = do
  _ ← check (ltb at (length b)) 1 (length b)
  ok (get_or b at 0)
