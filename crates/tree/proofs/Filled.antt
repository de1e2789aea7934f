-- What the table that the reader filled says of the file.
-- Assumes nothing.
use Prim.Native.Nat.{ℕ, zero, suc, ◌+◌, ◌≤◌, ◌<◌}
use mathlib.Core.Path.{◌≡◌, refl, sym, ap, subst, ◌∙◌}
use mathlib.Core.List.{List, []}
use native.Mathlib.Omega.{arith}
use lib.ListN.{length, get_or}
use Rattle.wire.specs.declared.error.Error.{Error}
use Rattle.wire.specs.Read.{Bytes, AreBytes, ok, refused}
use Rattle.wire.proofs.Pieces.{bind_ok, ok_ok}
use Rattle.column.specs.Layout.{most_columns}
use Rattle.tree.specs.Tree.{most_file_columns, Tree, chapters, WellFormed}
use Rattle.tree.specs.Reader.{file_of}
use Rattle.tree.specs.Schemas.{Schema, schema, schemas_of, read_schemas, schema_count}
use Rattle.tree.specs.Table.{table_size, schema_slot, start_in, count_in, lay_file, schemas_in, Slots}
use Rattle.tree.specs.Filling.{Filled, fill_file}
use Rattle.tree.proofs.SchemaLists.{schemas_length, schemas_few, SchemaRange, SchemasRange, no_schema, a_schema_lem, schemas_range}
use Rattle.tree.proofs.Packed.{block_start, block_count}
use Rattle.tree.proofs.Laid.{schema_laid}
use Rattle.tree.proofs.Agreement.{laid_file, fill_file_lem, fill_schemas}
use Rattle.tree.proofs.Theorem.{file_of_iff}

module _ (b : Bytes) (table : List ℕ) (bytes : AreBytes b) (long : length table ≡ table_size) where
  -- a file that is refused has no schemas
  pub schemas_refused : (e : Error) → fill_file b table ≡ refused e → read_schemas b ≡ refused e
  schemas_refused e h = fill_schemas b table bytes long ∙ rw h refl

  pub schemas_read : (f : Filled) → fill_file b table ≡ ok f → read_schemas b ≡ ok (schemas_in 0 f.schemas f.table)
  schemas_read f h = fill_schemas b table bytes long ∙ rw h refl

  -- the tree of a file that was read
  pub record Read-file (f : Filled) : Type 0 where
    pub tree : Tree
    pub reads : file_of b ≡ ok tree
    pub fills : laid_file b table tree ≡ f
    pub good : WellFormed tree

  pub file_read : (f : Filled) → fill_file b table ≡ ok f → Read-file f
  file_read f h =
      let (t, e, g) = bind_ok (file_of b) (λ t. ok (laid_file b table t)) f (sym (fill_file_lem b table bytes long) ∙ h) in
      record { tree = t; reads = e; fills = ok_ok g; good = ((file_of_iff b t bytes).0 e).1 }

range_at : {ss : List Schema} → SchemasRange ss → (k : ℕ) → k < length ss → SchemaRange (get_or ss k (schema 0 []))
range_at no_schema k h = absurd (omega arith)
range_at (a_schema_lem r rs) zero h = r
range_at (a_schema_lem r rs) (suc k) h = range_at rs k (omega arith)

laid_slots :
    (t : Tree) (table : List ℕ) → WellFormed t → length table ≡ table_size → (k : ℕ) → k < suc (chapters t) →
    Slots (start_in (get_or (lay_file t table) (schema_slot k) 0)) (count_in (get_or (lay_file t table) (schema_slot k) 0)) (suc (chapters t))
laid_slots t table good long k l =
    let m : k < schema_count (schemas_of t) = rw (schemas_length t) l in
    let d = schema_laid t table good long k m in
    let c = (range_at (schemas_range good) k m).count in
    let n : ℕ = length (get_or (schemas_of t) k (schema 0 [])).columns in
    let id : ℕ = (get_or (schemas_of t) k (schema 0 [])).id in
    let few : n ≤ most_columns = c.few in
    let in_table : d.start + n ≤ most_file_columns = d.below in
    let x : start_in (get_or (lay_file t table) (schema_slot k) 0) ≡ d.start = ap (λ (v : ℕ). start_in v) d.told ∙ block_start d.start n id (omega arith) (omega arith) in
    let y : count_in (get_or (lay_file t table) (schema_slot k) 0) ≡ n = ap (λ (v : ℕ). count_in v) d.told ∙ block_count d.start n id (omega arith) (omega arith) in
    record { few = rw y few; inside = rw (x, y) in_table; some = omega arith; all = omega (arith, schemas_few good) }

-- the slots of a schema's columns lie inside the table
pub slots_of :
    (b : Bytes) (table : List ℕ) → AreBytes b → length table ≡ table_size → (f : Filled) → fill_file b table ≡ ok f → (k : ℕ) → k < f.schemas →
    Slots (start_in (get_or f.table (schema_slot k) 0)) (count_in (get_or f.table (schema_slot k) 0)) f.schemas
slots_of b table bytes long f h k l =
    let r = file_read b table bytes long f h in
    subst
    (λ (g : Filled). k < g.schemas → Slots (start_in (get_or g.table (schema_slot k) 0)) (count_in (get_or g.table (schema_slot k) 0)) g.schemas)
    r.fills (laid_slots r.tree table r.good long k) l

-- a file that was read has a schema
pub some_schema :
    (b : Bytes) (table : List ℕ) → AreBytes b → length table ≡ table_size → (f : Filled) → fill_file b table ≡ ok f → (1 ≤ f.schemas) × (f.schemas ≤ most_file_columns)
some_schema b table bytes long f h =
    let r = file_read b table bytes long f h in
    subst (λ (g : Filled). (1 ≤ g.schemas) × (g.schemas ≤ most_file_columns)) r.fills (omega arith, omega (arith, schemas_few r.good))
