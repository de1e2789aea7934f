-- Inner: what the quick way says of an element's head.
-- Assumes nothing.
use Rattle.std.specs.Prelude.{ℕ, ◌<◌, ◌≡◌, List}
use Rattle.wire.specs.Read.{Bytes, ok}
use Rattle.tree.specs.Table.{schemas_in}
use Rattle.shapes.specs.Shapes.{Sound}
use Rattle.grammar.specs.Grammar.{Before}
use Rattle.section.specs.declared.elements.Said.{Said}
use Rattle.section.specs.Heads.{data_head, head_at, kind_number}

-- it is one of row data
pub record SaidHead (slots : List ℕ) (n : ℕ) (s : Bytes) (before : Before) (at : ℕ) (r : Said) : Type 0 where
  pub id : ℕ
  pub head : head_at (schemas_in 0 n slots) s before at ≡ ok (data_head (kind_number r.kind) r.number id r.start)

-- This is said where the table of slots is sound; the number is that of a schema in any case.
pub record SaidIn (slots : List ℕ) (n : ℕ) (s : Bytes) (before : Before) (at : ℕ) (r : Said) : Type 0 where
  pub number : r.number < n
  pub says : Sound slots n → SaidHead slots n s before at r
