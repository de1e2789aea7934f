-- Promise: columns in the usual form, which code reads quickly. What it says is what the reader says; of a column it may say nothing.
-- Assumes nothing.
use Rattle.std.specs.Prelude.{ℕ, ◌+◌, ◌≤◌, ◌<◌, ◌≡◌, get_or, Option, Some, None}
use Rattle.wire.specs.Read.{Bytes, Read, ok}
use Rattle.column.specs.declared.column.Column.{Column}
use Rattle.column.specs.Types.{kind_of}
use Rattle.entry.specs.declared.usual.Usual.{Usual}
use Rattle.tree.specs.Table.{packed}
use Rattle.entry.specs.Heads.{Head, field_head, head_by, head_at}

-- a column that was read is in the one number `slot` and ends at `end`
pub record Slotted (h : Read Head) (slot end : ℕ) : Type 0 where
  pub code : ℕ
  pub flags : ℕ
  pub maximum : ℕ
  pub head : h ≡ ok (field_head code flags maximum end)
  pub holds : slot ≡ packed code flags maximum 0
  pub small : slot < 4294967296

-- what is said of a column: the number and the end, or nothing
abbrev pub Says : Read Head → Option Usual → Type 0
Says h (Some u) = Slotted h u.slot u.end
Says h None = Unit {0}

-- Inner.

-- a column in one number
pub record Holding (c : Column) (end : ℕ) (u : Usual) : Type 0 where
  pub holds : u.slot ≡ packed c.code c.flags c.maximum 0
  pub small : u.slot < 4294967296
  pub ends : u.end ≡ end

-- Behind the code at `at` stands what says the rest of its column, or nothing is said.
abbrev pub Behind : Bytes → (at : ℕ) → Option ℕ → Type 0
Behind b at None = Unit {0}
Behind b at (Some behind) = (behind ≤ at + 2) × (head_at b at ≡ head_by (kind_of (get_or b at 0)) b (get_or b at 0) at behind)

-- the same of a column behind its code, wherever that stands
abbrev pub SaysBehind : Bytes → (code at : ℕ) → Option Usual → Type 0
SaysBehind b code at r = (from : ℕ) → Says (head_by (kind_of code) b code from at) r
