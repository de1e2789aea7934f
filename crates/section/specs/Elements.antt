-- Inner: which element stands at a position, as code asks.
-- Assumes nothing.
use Rattle.std.specs.Prelude.{ℕ, ◌+◌, ◌<◌, ◌≤◌, ◌≡◌, List, length, eqb}
use Rattle.wire.specs.declared.error.Error.{Error}
use Rattle.wire.specs.Read.{Bytes, ok, refused}
use Rattle.tree.specs.Schemas.{Schema}
use Rattle.tree.specs.Table.{schemas_in}
use Rattle.walk.specs.Data.{data_end}
use Rattle.shapes.specs.Shapes.{Sound}
use Rattle.shapes.specs.Masks.{Shaped}
use Rattle.grammar.specs.Grammar.{Before, columns_at}
use Rattle.section.specs.declared.elements.Element.{Element}
use Rattle.section.specs.Heads.{delete_head, data_head, head_at, before_in, kind_number}

-- An element of a kind, under a schema number, ends here: one with row data, or an 8C.
pub data ElementAt (S : List Schema) (s : Bytes) (before : Before) (at : ℕ) : (kind number end : ℕ) → Type 0 where
  data_element : {kind number id start end : ℕ} → head_at S s before at ≡ ok (data_head kind number id start) → data_end (eqb kind 3) (columns_at S number) s start ≡ ok end → ElementAt S s before at kind number end
  delete_element : {number id end : ℕ} → head_at S s before at ≡ ok (delete_head id) → end ≡ at + 5 → ElementAt S s before at 4 number end

-- What the quick way says where slots and shapes belong together; the number is that of a schema in any case.
pub record ElementIn (slots shapes : List ℕ) (n : ℕ) (s : Bytes) (before : Before) (at : ℕ) (e : Element) : Type 0 where
  pub number : e.number < n
  pub says : Sound slots n → Shaped slots shapes n → ElementAt (schemas_in 0 n slots) s before at (kind_number e.kind) e.number e.end

-- a refusal: of the head, or of row data behind it
pub data ElementRefused (S : List Schema) (s : Bytes) (before : Before) (at : ℕ) (e : Error) : Type 0 where
  by_head : head_at S s before at ≡ refused e → ElementRefused S s before at e
  by_data : {kind number id start : ℕ} → head_at S s before at ≡ ok (data_head kind number id start) → data_end (eqb kind 3) (columns_at S number) s start ≡ refused e → ElementRefused S s before at e

-- A whole 8C element stands at `at`, behind its 87 element, whose schema has the number `child`.
pub record DeletedAt (slots : List ℕ) (s : Bytes) (child at : ℕ) : Type 0 where
  pub id : ℕ
  pub head : (S : List Schema) → head_at S s (before_in slots child) at ≡ ok (delete_head id)
  pub inside : at + 5 ≤ length s
