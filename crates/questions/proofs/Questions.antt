-- Laws of what is asked of a file: each answer is read off the table that the reader filled.
-- Assumes nothing.
use Prim.Native.Nat.{ℕ, ◌+◌, ◌≤◌, ◌<◌}
use mathlib.Core.Path.{◌≡◌, refl, sym, ap, ◌∙◌}
use mathlib.Core.List.{List}
use lib.ListN.{length, get_or}
use borrow.Author.Tests.{lt-ltb, le-ltb, eq-eqb, ne_eqb}
use Rattle.wire.specs.declared.error.Error.{Error}
use Rattle.wire.specs.declared.error.Input.{Input}
use Rattle.wire.specs.declared.error.Input.TheVariants as input
use Rattle.wire.specs.Errors.{code_of}
use Rattle.wire.specs.Read.{Bytes, AreBytes, Read, ok, bad, ◌>>=◌, check, about, refused, sized}
use Rattle.tree.specs.Reader.{file_of}
use Rattle.tree.specs.Schemas.{Entry, child_number, Schema, read_schemas, schema_at, or0}
use Rattle.tree.specs.Table.{table_size, schema_slot, start_in, count_in, entry_in, entries_in, schema_in, schemas_in, code_in, id_in}
use Rattle.tree.specs.Filling.{Filled, fill_file}
use Rattle.questions.specs.Questions.{with_schema, alone, counts_of, Selected, selected, selected_of, found_child, child_of, nested_of, entry_at, column_of}
use Rattle.tree.proofs.SchemaLists.{schemas_length, column_total}
use Rattle.tree.proofs.Laws.{schema_missing, schema_at_lem}
use Rattle.tree.proofs.TableSays.{entries_length, entries_at}
use Rattle.tree.proofs.Filled.{schemas_refused, file_read}
use native.Mathlib.Omega.{arith}
use mathlib.Core.Option.{Option, none, some}
use Rattle.column.specs.Types.{chapter_code}
use Rattle.tree.proofs.Children.{child_found}

module _ (b : Bytes) (table : List ℕ) (bytes : AreBytes b) (long : length table ≡ table_size) where
  -- how much a file has
  pub counts_refused : (e : Error) → fill_file b table ≡ refused e → counts_of b ≡ refused e
  unfolding counts_of
  counts_refused e h = rw (schemas_refused b table bytes long e h) refl

  pub counts_read : (f : Filled) → fill_file b table ≡ ok f → counts_of b ≡ ok (record { schemas = f.schemas; columns = f.columns })
  unfolding counts_of read_schemas
  counts_read f h =
      let r = file_read b table bytes long f h in
      rw r.reads (rw (schemas_length r.tree, column_total r.tree) (ap (λ (g : Filled). ok (record { schemas = g.schemas; columns = g.columns })) r.fills))

-- the size comes first
sized_first : (b : Bytes) (c o : ℕ) (i : Input) → sized b ≡ bad c o i → read_schemas b ≡ bad c o i
unfolding read_schemas file_of
sized_first b c o i e = rw e refl

-- The common order of checks, where no other input has a size.
module _ {A : Type 0} (b : Bytes) (k : ℕ) (rest : List Schema → List Entry → Read A) where
  pub with_alone :
      with_schema b alone k rest
      ≡ (about input.Schema (read_schemas b) >>= λ schemas. about input.SchemaNumber (schema_at schemas k) >>= λ s. rest schemas s.columns)
  unfolding with_schema about
  with_alone = go (sized b) refl
    where
      go : (r : Read (Unit {0})) → sized b ≡ r →
          with_schema b alone k rest ≡ (about input.Schema (read_schemas b) >>= λ schemas. about input.SchemaNumber (schema_at schemas k) >>= λ s. rest schemas s.columns)
      go (ok u) e = rw e refl
      go (bad c o i) e = let z : read_schemas b ≡ bad c o i = sized_first b c o i e in rw (e, z) refl

  pub with_refused : (e : Error) → read_schemas b ≡ refused e → with_schema b alone k rest ≡ bad (code_of e.kind) e.offset input.Schema
  unfolding about
  with_refused e h = with_alone ∙ rw h refl

  module _ (n : ℕ) (table : List ℕ) (h : read_schemas b ≡ ok (schemas_in 0 n table)) where
    pub with_missing : n ≤ k → with_schema b alone k rest ≡ bad 18 0 input.SchemaNumber
    unfolding about
    with_missing l = with_alone ∙ rw h (rw (schema_missing n table k l) refl)

    pub with_found :
        k < n → with_schema b alone k rest
        ≡ rest (schemas_in 0 n table) (entries_in (start_in (get_or table (schema_slot k) 0)) (count_in (get_or table (schema_slot k) 0)) table)
    unfolding about schema_in
    with_found l = with_alone ∙ rw h (rw (schema_at_lem n table k l) refl)

-- A question of one schema by what the schema's selection says.
module _ {A : Type 0} (b : Bytes) (k : ℕ) (rest : List Schema → List Entry → Read A) where
  pub answer_by : with_schema b alone k rest ≡ (selected_of b k >>= λ x. rest x.schemas x.columns)
  unfolding selected_of
  answer_by =
      with_alone b k rest
      ∙ sym (ap (λ (r : Read Selected). r >>= λ x. rest x.schemas x.columns) (with_alone b k (λ schemas columns. ok (selected schemas columns)))
      ∙ go (about input.Schema (read_schemas b)))
    where
      one : (ss : List Schema) (s : Read Schema) →
          ((s >>= λ x. ok (selected ss x.columns)) >>= λ x. rest x.schemas x.columns) ≡ (s >>= λ x. rest ss x.columns)
      one ss (ok s) = refl
      one ss (bad c o i) = refl

      go : (r : Read (List Schema)) →
          ((r >>= λ ss. about input.SchemaNumber (schema_at ss k) >>= λ s. ok (selected ss s.columns)) >>= λ x. rest x.schemas x.columns)
          ≡ (r >>= λ ss. about input.SchemaNumber (schema_at ss k) >>= λ s. rest ss s.columns)
      go (ok ss) = one ss (about input.SchemaNumber (schema_at ss k))
      go (bad c o i) = refl

  pub select_refused : (e : Error) → selected_of b k ≡ refused e → with_schema b alone k rest ≡ refused e
  select_refused e h = answer_by ∙ rw h refl

  pub select_found : (ss : List Schema) (cs : List Entry) → selected_of b k ≡ ok (selected ss cs) → with_schema b alone k rest ≡ rest ss cs
  select_found ss cs h = answer_by ∙ rw h refl

-- The schema of a child id.
module _ (b : Bytes) (id : ℕ) where
  pub child_refused : (e : Error) → read_schemas b ≡ refused e → child_of b id ≡ bad (code_of e.kind) e.offset input.Schema
  unfolding child_of about
  child_refused e h = rw h refl

  pub child_read : (ss : List Schema) → read_schemas b ≡ ok ss → child_of b id ≡ found_child (child_number ss id)
  unfolding child_of about
  child_read ss h = rw h refl

  pub child_none_of : (ss : List Schema) → read_schemas b ≡ ok ss → or0 (child_number ss id) ≡ 0 → child_of b id ≡ bad 18 0 input.ChildId
  child_none_of ss h z = child_read ss h ∙ go (child_number ss id) refl z
    where
      go : (r : Option ℕ) → child_number ss id ≡ r → or0 r ≡ 0 → found_child r ≡ bad 18 0 input.ChildId
      go none e q = refl
      go (some n) e q = absurd (omega (arith, (child_found ss id n e).0))

  pub child_some_of : (ss : List Schema) (n : ℕ) → read_schemas b ≡ ok ss → n ≡ or0 (child_number ss id) → (n ≡ 0 → ⊥) → child_of b id ≡ ok n
  child_some_of ss n h z p = child_read ss h ∙ go (child_number ss id) z
    where
      go : (r : Option ℕ) → n ≡ or0 r → found_child r ≡ ok n
      go none q = absurd (p q)
      go (some m) q = ap (λ (x : ℕ). ok x) (sym q)

-- A column by its slot.
pub entry_missing : (start count j : ℕ) (table : List ℕ) → count ≤ j → entry_at (entries_in start count table) j ≡ bad 18 0 input.Column
unfolding entry_at about check
entry_missing start count j table h = rw (entries_length start count table, le-ltb j count h) refl

pub entry_at_lem : (start count j : ℕ) (table : List ℕ) → j < count → entry_at (entries_in start count table) j ≡ ok (entry_in (get_or table (start + j) 0))
unfolding entry_at about check
entry_at_lem start count j table h = rw (entries_length start count table, lt-ltb j count h, entries_at start count table j h) refl

-- A column of a schema that was found in slots of a table.
module _ (b : Bytes) (k j : ℕ) (ss : List Schema) (start count : ℕ) (table : List ℕ) (h : selected_of b k ≡ ok (selected ss (entries_in start count table))) where
  pub column_none : count ≤ j → column_of b k j ≡ bad 18 0 input.Column
  unfolding column_of
  column_none l = select_found b k _ ss (entries_in start count table) h ∙ rw (entry_missing start count j table l) refl

  module _ (l : j < count) where
    pub column_some :
        column_of b k j ≡ ok (record { column = entry_in (get_or table (start + j) 0); nested = nested_of ss (entry_in (get_or table (start + j) 0)) })
    unfolding column_of
    column_some = select_found b k _ ss (entries_in start count table) h ∙ rw (entry_at_lem start count j table l) refl

    pub column_chapter :
        (n : ℕ) → code_in (get_or table (start + j) 0) ≡ chapter_code → n ≡ or0 (child_number ss (id_in (get_or table (start + j) 0))) →
        column_of b k j ≡ ok (record { column = entry_in (get_or table (start + j) 0); nested = n })
    column_chapter n c e = column_some ∙ rw (eq-eqb (code_in (get_or table (start + j) 0)) chapter_code c, e) refl

    pub column_plain :
        (code_in (get_or table (start + j) 0) ≡ chapter_code → ⊥) →
        column_of b k j ≡ ok (record { column = entry_in (get_or table (start + j) 0); nested = 0 })
    column_plain c = column_some ∙ rw (ne_eqb (code_in (get_or table (start + j) 0)) chapter_code c) refl
