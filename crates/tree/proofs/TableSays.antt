-- What the table of a file says is what the file says: its ids and its schemas.
-- Assumes nothing.
use Prim.Native.Nat.{ℕ, zero, suc, ◌+◌, ◌-◌, ◌≤◌, ◌<◌}
use mathlib.Core.Path.{◌≡◌, refl, sym, ap, ◌∙◌}
use mathlib.Core.List.{List, [], ◌∷◌, ◌++◌}
use native.Mathlib.Omega.{arith}
use lib.ListN.{length, get_or, set}
use lib.Seq.{get_or-set_same, get_or-set_other}
use Rattle.tree.specs.Tree.{most_file_columns, Tree, ids, chapters, WellFormed}
use Rattle.tree.specs.Schemas.{Entry, entry, Schema, schema, schemas_of, schema_count}
use Rattle.tree.specs.Table.{table_size, schema_slot, slot_of, block, id_in, lay_columns, lay_file, ids_from, ids_in, entry_in, entries_in, schema_in, schemas_in}
use Rattle.tree.proofs.SchemaLists.{ids_of, nested_length, nested_ids, EntryRange, EntriesRange, no_entry, an_entry, SchemaRange, SchemasRange, a_schema_lem, schemas_range}
use Rattle.tree.proofs.Packed.{packed_code, packed_flags, packed_maximum, packed_id, block_start, block_count, block_id}
use Rattle.tree.proofs.Laid.{LaidColumns, Laid, AllLaid, none_laid, one_laid, lays, Fits, lay_other, file_laid}

-- Ids.

ids_laid :
    {table : List ℕ} {low high k : ℕ} {ss : List Schema} → high ≤ most_file_columns → AllLaid table low high k ss →
    ids_from k (length ss) table ≡ ids_of ss
unfolding ids_from
ids_laid h none_laid = refl
ids_laid {table} h (one_laid {k} {s} {ss} l ls) =
    let e : id_in (get_or table (schema_slot k) 0) ≡ s.id =
    ap (λ (n : ℕ). id_in n) l.told ∙ block_id l.start (length s.columns) s.id (omega (arith, l.below)) (omega (arith, l.below)) in
    rw (e, ids_laid h ls)

-- the slots of schemas before number k keep their ids
ids_same :
    (j m : ℕ) (table other : List ℕ) → ((q : ℕ) → j ≤ q → q < j + m → get_or other (schema_slot q) 0 ≡ get_or table (schema_slot q) 0) →
    ids_from j m other ≡ ids_from j m table
unfolding ids_from
ids_same j zero table other h = refl
ids_same j (suc m) table other h = rw (h j (omega arith) (omega arith), ids_same (j + 1) m table other (λ q a b. h q (omega arith) (omega arith)))

ids_split : (j m o : ℕ) (table : List ℕ) → ids_from j (m + o) table ≡ ids_from j m table ++ ids_from (j + m) o table
unfolding ids_from
ids_split j zero o table =
    let y : 0 + o ≡ o = omega arith in
    let z : j + 0 ≡ j = omega arith in
    rw (y, z)
ids_split j (suc m) o table =
    let y : suc m + o ≡ suc (m + o) = omega arith in
    let z : j + suc m ≡ j + 1 + m = omega arith in
    rw (y, z, ids_split (j + 1) m o table)

-- laying columns adds the tree's ids
pub lay_ids :
    (t : Tree) (i n k : ℕ) (table : List ℕ) → Fits t i n k table → 1 ≤ k → ids_in (k + chapters t) (lay_columns t i n k table) ≡ ids_in k table ++ ids t
unfolding ids_in
lay_ids t i n k table f h =
    let other : List ℕ = lay_columns t i n k table in
    let x : k + chapters t - 1 ≡ (k - 1) + chapters t = omega arith in
    let y : 1 + (k - 1) ≡ k = omega arith in
    let a : ids_from 1 (k - 1) other ≡ ids_from 1 (k - 1) table =
    ids_same 1 (k - 1) table other
    (λ q a b. lay_other (schema_slot q) t i n k table (λ j l e. omega (arith, f.before, f.few)) (λ j l e. omega (arith, f.few)) (λ j l e. omega arith)) in
    let b : ids_from k (chapters t) other ≡ ids t =
    ap (λ (m : ℕ). ids_from k m other) (sym (nested_length t)) ∙ ids_laid f.few (lays t i n k table f).nested ∙ nested_ids t in
    rw x (ids_split 1 (k - 1) (chapters t) other ∙ rw (y, a, b))

-- a column's slot holds no id of a schema, and a block adds one
pub ids_column : (k i v : ℕ) (table : List ℕ) → i < most_file_columns → ids_in k (set table i v) ≡ ids_in k table
unfolding ids_in
ids_column k i v table h = ids_same 1 (k - 1) table (set table i v) (λ q a b. get_or-set_other table i (schema_slot q) v 0 (λ e. omega arith))

pub ids_block :
    (k start count id : ℕ) (table : List ℕ) → 1 ≤ k → schema_slot k < length table → start < 65536 → count < 65536 →
    ids_in (k + 1) (set table (schema_slot k) (block start count id)) ≡ ids_in k table ++ (id ∷ [])
unfolding ids_in ids_from
ids_block k start count id table h l a b =
    let v : ℕ = block start count id in
    let other : List ℕ = set table (schema_slot k) v in
    let x : k + 1 - 1 ≡ (k - 1) + 1 = omega arith in
    let y : 1 + (k - 1) ≡ k = omega arith in
    let e : ids_from 1 (k - 1) other ≡ ids_from 1 (k - 1) table =
    ids_same 1 (k - 1) table other (λ q c d. get_or-set_other table (schema_slot k) (schema_slot q) v 0 (λ e. omega arith)) in
    let f : id_in (get_or other (schema_slot k) 0) ≡ id =
    ap (λ (n : ℕ). id_in n) (get_or-set_same table (schema_slot k) v 0 l) ∙ block_id start count id a b in
    rw x (ids_split 1 (k - 1) 1 other ∙ rw (y, e, f))

-- Schemas.

-- columns and schemas of a table by their numbers
pub entries_length : (i m : ℕ) (table : List ℕ) → length (entries_in i m table) ≡ m
unfolding entries_in
entries_length i zero table = refl
entries_length i (suc m) table = ap suc (entries_length (i + 1) m table)

pub entries_at : (i m : ℕ) (table : List ℕ) (j : ℕ) → j < m → get_or (entries_in i m table) j (entry 0 0 0 0) ≡ entry_in (get_or table (i + j) 0)
unfolding entries_in
entries_at i zero table j h = absurd (omega arith)
entries_at i (suc m) table zero h = let z : i + 0 ≡ i = omega arith in rw z
entries_at i (suc m) table (suc j) h =
    let z : i + suc j ≡ i + 1 + j = omega arith in
    rw z (entries_at (i + 1) m table j (omega arith))

pub schemas_in_length : (k m : ℕ) (table : List ℕ) → length (schemas_in k m table) ≡ m
unfolding schemas_in
schemas_in_length k zero table = refl
schemas_in_length k (suc m) table = ap suc (schemas_in_length (k + 1) m table)

pub schemas_in_at : (k m : ℕ) (table : List ℕ) (j : ℕ) → j < m → get_or (schemas_in k m table) j (schema 0 []) ≡ schema_in (k + j) table
unfolding schemas_in
schemas_in_at k zero table j h = absurd (omega arith)
schemas_in_at k (suc m) table zero h = let z : k + 0 ≡ k = omega arith in rw z
schemas_in_at k (suc m) table (suc j) h =
    let z : k + suc j ≡ k + 1 + j = omega arith in
    rw z (schemas_in_at (k + 1) m table j (omega arith))

entry_back : (e : Entry) → EntryRange e → entry_in (slot_of e) ≡ e
entry_back e r =
    let f : e.flags < 256 = omega (arith, r.flags) in
    let m : e.maximum < 65536 = omega (arith, r.maximum) in
    rw (
      packed_code e.code e.flags e.maximum e.id r.code f m,
      packed_flags e.code e.flags e.maximum e.id r.code f m,
      packed_maximum e.code e.flags e.maximum e.id r.code f m,
      packed_id e.code e.flags e.maximum e.id r.code f m,
    )

entries_laid : {es : List Entry} (table : List ℕ) (i : ℕ) → EntriesRange es → LaidColumns table i es → entries_in i (length es) table ≡ es
unfolding entries_in
entries_laid table i no_entry h = refl
entries_laid table i (an_entry {e} {es} r rs) h =
    let z : i + 0 ≡ i = omega arith in
    let a : get_or table i 0 ≡ slot_of e = rw z at (h 0 (omega arith)) in
    let b : entry_in (get_or table i 0) ≡ e = ap (λ (n : ℕ). entry_in n) a ∙ entry_back e r in
    let c : entries_in (i + 1) (length es) table ≡ es =
    entries_laid table (i + 1) rs (λ j l. let y : i + suc j ≡ i + 1 + j = omega arith in rw y at (h (suc j) (omega arith))) in
    rw (b, c)

schema_back : (table : List ℕ) (low high k : ℕ) (s : Schema) → high ≤ most_file_columns → SchemaRange s → Laid table low high k s → schema_in k table ≡ s
unfolding schema_in
schema_back table low high k s h r l =
    let b : l.start < 65536 = omega (arith, l.below) in
    let c : length s.columns < 65536 = omega (arith, l.below) in
    rw (
      l.told,
      block_start l.start (length s.columns) s.id b c,
      block_count l.start (length s.columns) s.id b c,
      block_id l.start (length s.columns) s.id b c,
      entries_laid table l.start r.columns l.columns,
    )

range_head : {s : Schema} {ss : List Schema} → SchemasRange (s ∷ ss) → SchemaRange s
range_head (a_schema_lem r rs) = r

range_tail : {s : Schema} {ss : List Schema} → SchemasRange (s ∷ ss) → SchemasRange ss
range_tail (a_schema_lem r rs) = rs

schemas_laid :
    {table : List ℕ} {low high k : ℕ} {ss : List Schema} → high ≤ most_file_columns → SchemasRange ss → AllLaid table low high k ss →
    schemas_in k (length ss) table ≡ ss
unfolding schemas_in
schemas_laid h r none_laid = refl
schemas_laid {table} {low} {high} h r (one_laid {k} {s} {ss} l ls) =
    rw (schema_back table low high k s h (range_head r) l, schemas_laid h (range_tail r) ls)

-- The table of a file says the file's schemas, and nothing else.
pub table_schemas :
    (t : Tree) (table : List ℕ) → WellFormed t → length table ≡ table_size → schemas_in 0 (schema_count (schemas_of t)) (lay_file t table) ≡ schemas_of t
table_schemas t table w l = schemas_laid (omega arith) (schemas_range w) (file_laid t table w l)
