-- The list of a file's schemas: its lengths, sums and ids are the tree's own, and its parts are in their ranges.
-- Assumes nothing.
use Prim.Native.Nat.{ℕ, suc, ◌+◌, ◌≤◌, ◌<◌}
use mathlib.Core.Path.{◌≡◌, refl, ap}
use mathlib.Core.List.{List, [], ◌∷◌, ◌++◌, map}
use native.Mathlib.Omega.{arith}
use lib.ListN.{length, length-append}
use Rattle.tree.specs.Numbers.{number_limit}
use Rattle.column.specs.Types.{chapter_code}
use Rattle.tree.specs.Tree.{most_file_columns, most_flags, most_maximum, Tree, none, field, chapter, columns, ids, nested_counts, counts, chapters, Count, Right, no_column_lem, fixed_field, variable_field, a_chapter, WellFormed}
use Rattle.tree.specs.Schemas.{Entry, entry, Schema, schema, own_columns, nested_schemas, schemas_of, column_count}
use Rattle.tree.proofs.Lists.{fixed_code, variable_code}

-- a schema has as many columns as its count says
pub own_length : (t : Tree) → length (own_columns t) ≡ columns t
unfolding own_columns columns
own_length none = refl
own_length (field code flags maximum rest) = ap suc (own_length rest)
own_length (chapter flags id nested rest) = ap suc (own_length rest)

-- there is a nested schema for each chapter
pub nested_length : (t : Tree) → length (nested_schemas t) ≡ chapters t
unfolding nested_schemas chapters
nested_length none = refl
nested_length (field code flags maximum rest) = nested_length rest
nested_length (chapter flags id nested rest) = simp length-append (omega (arith, nested_length nested, nested_length rest))

pub schemas_length : (t : Tree) → length (schemas_of t) ≡ suc (chapters t)
unfolding schemas_of
schemas_length t = ap suc (nested_length t)

-- all columns together are the sum of the counts
count_append : (x y : List Schema) → column_count (x ++ y) ≡ column_count x + column_count y
unfolding column_count
count_append [] y = omega arith
count_append (s ∷ x) y = omega (arith, count_append x y)

nested_count : (t : Tree) → column_count (nested_schemas t) ≡ nested_counts t
unfolding nested_schemas nested_counts column_count
nested_count none = refl
nested_count (field code flags maximum rest) = nested_count rest
nested_count (chapter flags id nested rest) =
    omega (arith, count_append (nested_schemas nested) (nested_schemas rest), own_length nested, nested_count nested, nested_count rest)

pub column_total : (t : Tree) → column_count (schemas_of t) ≡ counts t
unfolding schemas_of column_count counts
column_total t = omega (arith, own_length t, nested_count t)

-- the nested schemas have the tree's ids, in order
abbrev pub ids_of : List Schema → List ℕ
ids_of schemas = map (λ (s : Schema). s.id) schemas

ids_append : (x y : List Schema) → ids_of (x ++ y) ≡ ids_of x ++ ids_of y
ids_append [] y = refl
ids_append (s ∷ x) y = ap (λ (l : List ℕ). s.id ∷ l) (ids_append x y)

pub nested_ids : (t : Tree) → ids_of (nested_schemas t) ≡ ids t
unfolding nested_schemas ids
nested_ids none = refl
nested_ids (field code flags maximum rest) = nested_ids rest
nested_ids (chapter flags id nested rest) =
    rw (ids_append (nested_schemas nested) (nested_schemas rest), nested_ids nested, nested_ids rest)

-- every nested schema has a column, so there are at most as many schemas as columns
pub chapters_few : {t : Tree} → Right t → chapters t ≤ nested_counts t
unfolding chapters nested_counts
chapters_few no_column_lem = omega arith
chapters_few (fixed_field k b y) = chapters_few y
chapters_few (variable_field k b l h y) = chapters_few y
chapters_few (a_chapter b w c x y) = omega (arith, c.some, chapters_few x, chapters_few y)

pub schemas_few : {t : Tree} → WellFormed t → chapters t < most_file_columns
unfolding counts
schemas_few {t} w = omega (arith, w.count.some, w.few, chapters_few w.right)

-- Ranges: what a column and a schema of a well-formed file hold.

pub record EntryRange (e : Entry) : Type 0 where
  pub code : e.code < 256
  pub flags : e.flags ≤ most_flags
  pub maximum : e.maximum ≤ most_maximum
  pub id : e.id < number_limit

pub data EntriesRange : List Entry → Type 0 where
  no_entry : EntriesRange []
  an_entry : {e : Entry} {es : List Entry} → EntryRange e → EntriesRange es → EntriesRange (e ∷ es)

pub record SchemaRange (s : Schema) : Type 0 where
  pub id : s.id < number_limit
  pub count : Count (length s.columns)
  pub columns : EntriesRange s.columns

pub data SchemasRange : List Schema → Type 0 where
  no_schema : SchemasRange []
  a_schema_lem : {s : Schema} {ss : List Schema} → SchemaRange s → SchemasRange ss → SchemasRange (s ∷ ss)

range_append : {x y : List Schema} → SchemasRange x → SchemasRange y → SchemasRange (x ++ y)
range_append no_schema k = k
range_append (a_schema_lem h hs) k = a_schema_lem h (range_append hs k)

own_range : {t : Tree} → Right t → EntriesRange (own_columns t)
unfolding own_columns
own_range no_column_lem = no_entry
own_range (fixed_field {code} {flags} {w} k b y) =
    let r : EntryRange (entry code flags 0 0) = record { code = fixed_code w code k; flags = b; maximum = omega arith; id = omega arith } in
    an_entry r (own_range y)
own_range (variable_field {code} {flags} {maximum} k b l h y) =
    let r : EntryRange (entry code flags maximum 0) = record { code = variable_code code k; flags = b; maximum = h; id = omega arith } in
    an_entry r (own_range y)
own_range (a_chapter {flags} {id} b w c x y) =
    let r : EntryRange (entry chapter_code flags 0 id) = record { code = omega arith; flags = b; maximum = omega arith; id = w } in
    an_entry r (own_range y)

nested_range : {t : Tree} → Right t → SchemasRange (nested_schemas t)
unfolding nested_schemas
nested_range no_column_lem = no_schema
nested_range (fixed_field k b y) = nested_range y
nested_range (variable_field k b l h y) = nested_range y
nested_range (a_chapter {nested = t} b w c x y) =
    range_append (a_schema_lem (record { id = w; count = rw (own_length t) c; columns = own_range x }) (nested_range x)) (nested_range y)

pub schemas_range : {t : Tree} → WellFormed t → SchemasRange (schemas_of t)
unfolding schemas_of
schemas_range {t} w =
    let r : SchemaRange (schema 0 (own_columns t)) =
    record { id = omega arith; count = rw (own_length t) w.count; columns = own_range w.right } in
    a_schema_lem r (nested_range w.right)
