-- Promise: whole elements, one after the other, as the quick way passes them.
-- Assumes nothing.
use Rattle.std.specs.Prelude.{ℕ, ◌+◌, ◌-◌, ◌<◌, ◌≤◌, ◌≡◌, List, length, eqb}
use Rattle.wire.specs.Read.{Bytes, ok, pick}
use Rattle.tree.specs.Schemas.{Schema}
use Rattle.tree.specs.Table.{schemas_in}
use Rattle.walk.specs.Data.{data_end}
use Rattle.grammar.specs.Grammar.{Before, other, after, columns_at}
use Rattle.section.specs.declared.pass.Passed.{Passed}
use Rattle.section.specs.Heads.{delete_head, data_head, head_at, before_in}

-- the rows that an element of a kind adds: an 8A changes the row before it
abbrev pub adds_by : (kind : ℕ) → ℕ
adds_by kind = pick (eqb kind 3) 0 1

-- what it is to the element behind it
abbrev pub behind_by : (kind id : ℕ) → Before
behind_by kind id = pick (eqb kind 2) (after id) other

-- Whole elements from `at` to `to`, of which the first stands behind `before`: so many rows, and what stands before the next.
pub data Passes (S : List Schema) (s : Bytes) (at : ℕ) (before : Before) : (rows to : ℕ) → Before → Type 0 where
  none : Passes S s at before 0 at before
  next : {rows to kind number id start e : ℕ} {behind : Before} → Passes S s at before rows to behind → head_at S s behind to ≡ ok (data_head kind number id start) →
      data_end (eqb kind 3) (columns_at S number) s start ≡ ok e → Passes S s at before (rows + adds_by kind) e (behind_by kind id)
  deleted : {rows to id : ℕ} {behind : Before} → Passes S s at before rows to behind → head_at S s behind to ≡ ok (delete_head id) → Passes S s at before rows (to + 5) other

-- What is passed from `start` on, where `first` is the schema number of an 87 element directly before, else 0: such elements.
pub record PassedTo (slots : List ℕ) (n : ℕ) (s : Bytes) (start first : ℕ) (r : Passed) : Type 0 where
  pub passes : Passes (schemas_in 0 n slots) s start (before_in slots first) r.rows r.at (before_in slots r.child)
  pub child : r.child < n
  pub inside : r.at ≤ length s
  pub forward : start ≤ r.at
  pub few : r.rows ≤ r.at - start

-- What holds of the numbers in any case, whatever the slots and the shapes are: no more rows than bytes, a place in the section, a schema's number.
pub record PassedIn (n size start first : ℕ) (r : Passed) : Type 0 where
  pub few : start + r.rows ≤ r.at
  pub inside : start ≤ size → r.at ≤ size
  pub child : first < n → r.child < n

-- Inner.

-- the numbers that a pass is given keep to their bounds
pub record InBounds (n child size start step : ℕ) : Type 0 where
  pub all : n ≤ 256
  pub nested : child < n
  pub sized : size ≤ 16777216
  pub inside : start ≤ size
  pub short : step ≤ 65536
