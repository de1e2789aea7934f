-- The table of a file that reads is sound, and says the file's schemas.
-- Assumes nothing.
use Prim.Native.Nat.{ℕ, ◌+◌, ◌≤◌, ◌<◌}
use mathlib.Core.Path.{◌≡◌, sym, ap, ◌∙◌}
use mathlib.Core.List.{List, []}
use mathlib.Core.Option.{some}
use native.Mathlib.Omega.{arith}
use lib.ListN.{length, get_or, length-replicate}
use Rattle.wire.specs.declared.error.Error.{Error}
use Rattle.wire.specs.Read.{Bytes, AreBytes, Read, ok, refused, ◌>>=◌}
use Rattle.wire.proofs.Pieces.{bind_ok, ok_ok}
use Rattle.tree.specs.Tree.{Tree, WellFormed, counts}
use Rattle.tree.specs.Reader.{file_of}
use Rattle.tree.specs.Schemas.{Schema, schema, schemas_of, read_schemas, column_count, child_number}
use Rattle.tree.specs.Table.{schema_slot, id_in, start_in, count_in, schema_in, schemas_in, Slots}
use Rattle.schema.specs.declared.reader.Place.{Place}
use Rattle.schema.specs.Told.{placed, blank}
use Rattle.tree.specs.Filling.{Filled, fill_file}
use Rattle.tree.proofs.SchemaLists.{schemas_length, column_total, schemas_few}
use Rattle.tree.proofs.Children.{child_only}
use Rattle.tree.proofs.TableSays.{schemas_in_length, schemas_in_at}
use Rattle.tree.proofs.Theorem.{file_of_iff}
use Rattle.tree.proofs.Filled.{schemas_refused, schemas_read, file_read, slots_of}
use Rattle.tree.specs.Table.{table_size}
use Rattle.shapes.specs.Shapes.{Sound}

blank_long : length blank ≡ table_size
blank_long = length-replicate {A = ℕ} table_size 0

-- A table that says the schemas of a well-formed file.
module _ (t : Tree) (good : WellFormed t) (n : ℕ) (slots : List ℕ) (says : schemas_of t ≡ schemas_in 0 n slots) where
  -- it has as many schemas as the file
  same_count : n ≡ length (schemas_of t)
  same_count = sym (schemas_in_length 0 n slots) ∙ sym (ap length says)

  -- and as many columns
  same_total : column_count (schemas_in 0 n slots) ≤ 256
  same_total =
      let e : column_count (schemas_in 0 n slots) ≡ counts t = sym (ap column_count says) ∙ column_total t in
      omega (arith, good.few)

  -- the slot of a schema has the schema's id
  same_id : (k : ℕ) → k < n → id_in (get_or slots (schema_slot k) 0) ≡ (get_or (schemas_of t) k (schema 0 [])).id
  unfolding schema_in
  same_id k h =
      let z : 0 + k ≡ k = omega arith in
      let e : (get_or (schemas_in 0 n slots) k (schema 0 [])).id ≡ (schema_in k slots).id =
      ap (λ (s : Schema). s.id) (schemas_in_at 0 n slots k h ∙ ap (λ (j : ℕ). schema_in j slots) z) in
      sym (ap (λ (ss : List Schema). (get_or ss k (schema 0 [])).id) says ∙ e)

  -- each nested schema is found by its id
  same_child : (k : ℕ) → 1 ≤ k → k < n → child_number (schemas_in 0 n slots) (id_in (get_or slots (schema_slot k) 0)) ≡ some k
  same_child k l h =
      ap (child_number (schemas_in 0 n slots)) (same_id k h)
      ∙ sym (ap (λ (ss : List Schema). child_number ss (get_or (schemas_of t) k (schema 0 [])).id) says)
      ∙ child_only t good k l (omega (arith, same_count))

-- The table that a file was read into, from zeros.
module _ (b : Bytes) (table : List ℕ) (p : Place) (bytes : AreBytes b) (h : fill_file b blank ≡ ok (placed p table)) where
  -- The schemas of the file are those of the table.
  pub schemas_of_lem : read_schemas b ≡ ok (schemas_in 0 p.schemas table)
  schemas_of_lem = schemas_read b blank bytes blank_long (placed p table) h

  -- The table is sound.
  pub sound_of : Sound table p.schemas
  unfolding read_schemas
  sound_of =
      let (t, e, g) = bind_ok (file_of b) (λ t. ok (schemas_of t)) (schemas_in 0 p.schemas table) schemas_of_lem in
      let good : WellFormed t = ((file_of_iff b t bytes).0 e).1 in
      let says : schemas_of t ≡ schemas_in 0 p.schemas table = ok_ok g in
      let n : p.schemas ≡ length (schemas_of t) = same_count t good p.schemas table says in
      record {
        top = omega (arith, n, schemas_length t);
        all = omega (arith, n, schemas_length t, schemas_few good);
        few = λ k l. (slots k l).few;
        inside = λ k l. (slots k l).inside;
        total = same_total t good p.schemas table says;
        once = same_child t good p.schemas table says;
      }
    where
      slots : (k : ℕ) → k < p.schemas → Slots (start_in (get_or table (schema_slot k) 0)) (count_in (get_or table (schema_slot k) 0)) p.schemas
      slots k l = slots_of b blank bytes blank_long (placed p table) h k l

  -- It has as many columns as were counted.
  pub columns_of : column_count (schemas_in 0 p.schemas table) ≡ p.columns
  unfolding read_schemas
  columns_of =
      let r = file_read b blank bytes blank_long (placed p table) h in
      let says : schemas_of r.tree ≡ schemas_in 0 p.schemas table = ok_ok (sym (ap (λ (x : Read Tree). x >>= λ t. ok (schemas_of t)) r.reads) ∙ schemas_of_lem) in
      ap column_count (sym says) ∙ column_total r.tree ∙ ap (λ (f : Filled). f.columns) r.fills

pub file_bad : (b : Bytes) (e : Error) → AreBytes b → refused e ≡ fill_file b blank → read_schemas b ≡ refused e
file_bad b e bytes h = schemas_refused b blank bytes blank_long e (sym h)
