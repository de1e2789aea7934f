-- The ways out of calls with a schema file.
-- Assumes nothing.
use Rattle.std.specs.Prelude.{Result, Ok, Err}
use Prim.Native.Nat.{ℕ, zero, suc, ◌≤◌, ◌<◌}
use mathlib.Core.List.{List, [], map}
use mathlib.Core.Path.{◌≡◌, refl, sym, ap, ◌∙◌}
use native.Mathlib.Omega.{arith}
use lib.ListN.{length, length-map, get_or}
use lib.Dec.{ltb}
use borrow.Author.Tests.{ltb-true}
use Rattle.wire.specs.declared.error.Error.{Error}
use Rattle.wire.specs.declared.error.Input.TheVariants as input
use Rattle.wire.specs.Read.{Bytes, AreBytes, Read, ok, bad, refused, told, ◌>>=◌, check, about, sized}
use Rattle.wire.proofs.Pieces.{bad_ok, bind_ok, bind_same, bind_bind, check_ok, about_ok, ok_ok}
use Rattle.column.specs.declared.column.Column.{Column}
use Rattle.column.specs.declared.columns.Columns.{Columns}
use Rattle.column.specs.Layout.{most_columns, layout}
use Rattle.tree.specs.Reader.{file_of}
use Rattle.tree.specs.Schemas.{Schema, schema, as_column, schemas_of, read_schemas, schema_at}
use Rattle.questions.specs.Questions.{with_schema, alone, Selected, selected, selected_of, columns_of, column_list_of}
use Rattle.tree.proofs.SchemaLists.{EntriesRange, SchemaRange, SchemasRange, no_schema, a_schema_lem, schemas_range}
use Rattle.tree.proofs.Theorem.{file_of_iff}
use Rattle.questions.proofs.Questions.{with_alone, answer_by}
use Rattle.walk.specs.Rows.{look_up, look_up_row, field_count, row_end}
use Rattle.walk.specs.Updates.{look_update, look_update_row, update_end, current, current_row}
use Rattle.walk.proofs.Arrays.{columns_laid}
use Rattle.encode.specs.Writers.{values_sized, write_original, write_update}
use Rattle.plan.specs.Plans.{plan_of}
use Rattle.adtg.specs.InSchema.{both, in_schema, listed, told_columns}
use Rattle.adtg.specs.Rows.{look_up_in, field_count_in, row_end_in}
use Rattle.adtg.specs.Updates.{look_update_in, update_end_in, sizes_of, current_in}
use Rattle.adtg.specs.Writers.{write_original_in, write_update_in}
use Rattle.adtg.specs.Plans.{plan_in}

-- a schema of a list whose schemas are in their ranges
range_at : {ss : List Schema} → SchemasRange ss → (k : ℕ) → k < length ss → SchemaRange (get_or ss k (schema 0 []))
range_at no_schema k h = absurd (omega arith)
range_at (a_schema_lem r rs) zero h = r
range_at (a_schema_lem r rs) (suc k) h = range_at rs k (omega arith)

-- a schema of a file has few columns, and they are in their ranges
pub selected_range : (b : Bytes) (k : ℕ) (x : Selected) → AreBytes b → selected_of b k ≡ ok x → (length x.columns ≤ most_columns) × EntriesRange x.columns
unfolding selected_of read_schemas schema_at
selected_range b k x bytes h =
    let (ss, e1, e2) = bind_ok (about input.Schema (read_schemas b)) _ x (sym (with_alone b k _) ∙ h) in
    let (s, e3, e4) = bind_ok (about input.SchemaNumber (schema_at ss k)) _ x e2 in
    let (t, e5, e6) = bind_ok (file_of b) _ ss (about_ok input.Schema (read_schemas b) ss e1) in
    let (u, e7, e8) = bind_ok (check (ltb k (length ss)) 18 0) _ s (about_ok input.SchemaNumber (schema_at ss k) s e3) in
    let l = ltb-true k (length ss) (check_ok _ _ _ u e7) in
    let r : schemas_of t ≡ ss = ok_ok e6 in
    let good = ((file_of_iff b t bytes).0 e5).1 in
    let range : SchemaRange (get_or ss k (schema 0 [])) = range_at {ss = ss} (rw (← r) (schemas_range good)) k l in
    let p : get_or ss k (schema 0 []) ≡ s = ok_ok e8 in
    let q : selected ss s.columns ≡ x = ok_ok e4 in
    rw (← q) (rw (← p) (range.count.few, range.columns))

-- all sizes, in their order
abbrev pub all_sizes : Bytes → Read (Unit {0}) → Read (Unit {0})
all_sizes file sizes = both (about input.Schema (sized file)) sizes

-- A question in a schema, by the schema's columns.
module _ (file : Bytes) (sizes : Read (Unit {0})) (number : ℕ) where
  -- the schema, the sizes before it
  abbrev selection : Read Selected
  selection = all_sizes file sizes >>= λ u. selected_of file number

  -- a question of the selected schema
  pub by_selection : {A : Type 0} (ask : List Column → Read A) → in_schema file sizes number ask ≡ (selection >>= λ x. ask (map as_column x.columns))
  unfolding with_schema
  by_selection ask = go (about input.Schema (sized file)) sizes
    where
      go :
          (r s : Read (Unit {0})) →
          (r >>= λ u. s >>= λ v. about input.Schema (read_schemas file) >>= λ schemas. about input.SchemaNumber (schema_at schemas number) >>= λ x. ask (map as_column x.columns))
          ≡ ((both r s >>= λ u. selected_of file number) >>= λ x. ask (map as_column x.columns))
      go (ok u) (ok v) =
          sym (with_alone file number (λ schemas columns. ask (map as_column columns))) ∙ answer_by file number (λ schemas columns. ask (map as_column columns))
      go (ok u) (bad c o i) = refl
      go (bad c o i) s = refl

  -- the columns
  listed_by : listed file sizes number ≡ (selection >>= λ x. ok (map as_column x.columns))
  listed_by = by_selection (λ columns. ok columns)

  -- a size that is not allowed
  pub listed_large : (e : Error) → all_sizes file sizes ≡ refused e → listed file sizes number ≡ refused e
  listed_large e h = listed_by ∙ rw h refl

  -- all sizes are allowed
  pub listed_sized : all_sizes file sizes ≡ ok tt → listed file sizes number ≡ column_list_of file number
  unfolding column_list_of
  listed_sized h = listed_by ∙ rw h (sym (answer_by file number (λ schemas columns. ok (map as_column columns))))

  -- every question is one of the columns
  pub asked : {A : Type 0} (ask : List Column → Read A) → in_schema file sizes number ask ≡ (listed file sizes number >>= ask)
  asked ask = by_selection ask ∙ sym (ap (λ r. r >>= ask) listed_by ∙ bind_bind selection (λ x. ok (map as_column x.columns)) ask)

  -- the sizes before it
  pub asked_sized : {A : Type 0} (ask : List Column → Read A) → in_schema file sizes number ask ≡ (listed file sizes number >>= λ cs. sizes >>= λ u. ask cs)
  asked_sized ask =
      by_selection ask ∙ go (about input.Schema (sized file)) sizes
      ∙ sym (ap (λ r. r >>= λ cs. sizes >>= λ u. ask cs) listed_by ∙ bind_bind selection (λ x. ok (map as_column x.columns)) (λ cs. sizes >>= λ u. ask cs))
    where
      go :
          (r s : Read (Unit {0})) →
          ((both r s >>= λ u. selected_of file number) >>= λ x. ask (map as_column x.columns))
          ≡ ((both r s >>= λ u. selected_of file number) >>= λ x. s >>= λ u. ask (map as_column x.columns))
      go (ok u) (ok v) = refl
      go (ok u) (bad c o i) = refl
      go (bad c o i) s = refl

-- the columns by value are those of the list
pub laid_listed :
    (file : Bytes) (number : ℕ) (r : Result Columns Error) → AreBytes file → told r ≡ columns_of file number → told_columns r ≡ column_list_of file number
unfolding columns_of column_list_of
laid_listed file number r bytes h =
    go r (selected_of file number) refl (h ∙ answer_by file number (λ schemas columns. ok (layout (map as_column columns))))
    ∙ sym (answer_by file number (λ schemas columns. ok (map as_column columns)))
  where
    go :
        (r : Result Columns Error) (s : Read Selected) → selected_of file number ≡ s → told r ≡ (s >>= λ x. ok (layout (map as_column x.columns))) →
        told_columns r ≡ (s >>= λ x. ok (map as_column x.columns))
    go (Ok c) (ok x) e q =
        let d : c ≡ layout (map as_column x.columns) = ok_ok q in
        let n : length (map as_column x.columns) ≤ 64 = omega (arith, length-map x.columns as_column, (selected_range file number x bytes e).0) in
        rw d (ap ok (columns_laid (map as_column x.columns) n))
    go (Ok c) (bad k o i) e q = absurd (bad_ok (sym q))
    go (Err d) (ok x) e q = absurd (bad_ok q)
    go (Err d) (bad k o i) e q = cc

-- Each question with the file, by the columns.

module _ (file : Bytes) (number : ℕ) where
  pub look_listed : (row : Bytes) (k : ℕ) → look_up_in file number row k ≡ (listed file (about input.Row (sized row)) number >>= λ cs. look_up_row cs row k)
  unfolding look_up_in look_up_row
  look_listed row k = asked_sized file (about input.Row (sized row)) number (λ columns. look_up columns row k)

  pub count_listed : (row : Bytes) → field_count_in file number row ≡ (listed file (about input.Row (sized row)) number >>= λ cs. field_count cs row)
  unfolding field_count_in
  count_listed row = asked file (about input.Row (sized row)) number (λ columns. field_count columns row)

  pub end_listed :
      (row : Bytes) (at : ℕ) → row_end_in file number row at ≡ (listed file (about input.Row (sized row)) number >>= λ cs. about input.Row (row_end cs row at))
  unfolding row_end_in
  end_listed row at = asked file (about input.Row (sized row)) number (λ columns. about input.Row (row_end columns row at))

  pub update_listed :
      (update : Bytes) (k : ℕ) → look_update_in file number update k ≡ (listed file (about input.Update (sized update)) number >>= λ cs. look_update_row cs update k)
  unfolding look_update_in look_update_row
  update_listed update k = asked_sized file (about input.Update (sized update)) number (λ columns. look_update columns update k)

  pub update_end_listed :
      (update : Bytes) (at : ℕ) →
      update_end_in file number update at ≡ (listed file (about input.Update (sized update)) number >>= λ cs. about input.Update (update_end cs update at))
  unfolding update_end_in
  update_end_listed update at = asked file (about input.Update (sized update)) number (λ columns. about input.Update (update_end columns update at))

  pub current_listed :
      (row update : Bytes) (k : ℕ) → current_in file number row update k ≡ (listed file (sizes_of row update) number >>= λ cs. current_row cs row update k)
  unfolding current_in current_row
  current_listed row update k =
      asked_sized file (sizes_of row update) number (λ columns. current columns row update k)
      ∙ bind_same (listed file (sizes_of row update) number) _ _ (λ cs e. go cs (about input.Update (sized update)))
    where
      go :
          (cs : List Column) (s : Read (Unit {0})) →
          (both s (about input.Row (sized row)) >>= λ u. current cs row update k) ≡ (s >>= λ u. about input.Row (sized row) >>= λ v. current cs row update k)
      go cs (ok u) = refl
      go cs (bad c o i) = refl

  pub original_listed :
      (entries : List ℕ) (values : Bytes) (size place : ℕ) →
      write_original_in file number entries values size place
      ≡ (listed file (about input.Values (sized values)) number >>= λ cs. values_sized values (write_original cs entries values size place))
  unfolding write_original_in values_sized
  original_listed entries values size place =
      asked_sized file (about input.Values (sized values)) number (λ columns. write_original columns entries values size place)

  pub rewritten_listed :
      (entries : List ℕ) (values : Bytes) (size place : ℕ) →
      write_update_in file number entries values size place
      ≡ (listed file (about input.Values (sized values)) number >>= λ cs. values_sized values (write_update cs entries values size place))
  unfolding write_update_in values_sized
  rewritten_listed entries values size place =
      asked_sized file (about input.Values (sized values)) number (λ columns. write_update columns entries values size place)

  pub plan_listed : plan_in file number ≡ (listed file alone number >>= λ cs. ok (plan_of cs))
  unfolding plan_in
  plan_listed = asked file alone number (λ columns. ok (plan_of columns))
