-- Batches: through the plan that a schema makes a batch is the batch by the walk, row by row; through any plan what it finds lies in the
-- section; and in a section that was read no row of the right table is refused.
-- Assumes nothing.
use Prim.Native.Nat.{ℕ, zero, suc, ◌+◌, ◌*◌, ◌/◌, ◌-◌, ◌≤◌, ◌<◌, min}
use mathlib.Core.Path.{◌≡◌, refl, sym, ap, ◌∙◌}
use mathlib.Core.List.{List, [], ◌∷◌, map}
use mathlib.Core.Bool.{Bool, true, false}
use mathlib.Core.Option.{Option, some}
use native.Mathlib.Omega.{arith}
use lib.ListN.{length, get_or, take, drop, length-drop}
use lib.Seq.{take_at}
use lib.Dec.{leb, ltb, eqb}
use borrow.Author.Tests.{eqb-true, le-leb}
use Rattle.wire.specs.declared.error.Input.{Input}
use Rattle.wire.specs.declared.error.Input.TheVariants as input
use Rattle.wire.specs.Read.{Bytes, AreBytes, Read, ok, bad, ◌>>=◌, pick, check, about, limit, sized_by, sized, whole}
use Rattle.wire.specs.Bits.{bit_at, bit_set, map_bytes}
use Rattle.wire.specs.Integers.{value_of, int_at, read_int}
use Rattle.wire.proofs.Laws.{sized_within}
use Rattle.wire.proofs.Pieces.{bad_ok, bind_ok, about_ok, ok_ok}
use Rattle.column.specs.declared.column.Column.{Column}
use Rattle.column.specs.Types.{types, kind_in, kind_of}
use Rattle.column.specs.Columns.{is_nullable, prefix_size, prefix_bytes, greatest, length_error_of, length_error}
use Rattle.column.specs.Fields.{allowed, bytes_at, variable_at, field_at}
use Rattle.tree.specs.Numbers.{number_limit, third_group, second_group, number_in}
use Rattle.tree.specs.Tree.{member}
use Rattle.tree.specs.Reader.{read_number, read_range, read_fixed, read_variable, read_chapter, read_kind, read_column, read_columns, read_schema, ended, read_file, file_of}
use Rattle.tree.specs.Schemas.{Schema, schema, as_column, own_columns, nested_schemas, schemas_of, read_schemas, schema_at, columns_of, number_from, child_number}
use Rattle.tree.proofs.SchemaLists.{SchemasRange, no_schema, a_schema_lem, schemas_range}
use Rattle.tree.proofs.Theorem.{file_of_iff}
use Rattle.questions.proofs.Questions.{with_alone}
use Rattle.questions.specs.Questions.{with_schema}
use Rattle.walk.specs.Presence.{nullables, presence_bytes, marks, bit_of, present, chapter_present, clear}
use Rattle.walk.specs.Rows.{Answer, field, null, chapter, step, walk, arrive, opened, field_of, column_of, known, look_up}
use Rattle.walk.specs.Rows as row
use Rattle.plan.specs.declared.plan.Plan.{Plan}
use Rattle.plan.specs.Plans.{planned_column, planned_gap, no_stops}
use Rattle.jump.specs.Jumps.{planned_row}
use Rattle.jump.proofs.Inside.{row_inside, row_placed}
use Rattle.grammar.specs.Grammar.{Row, columns_at}
use Rattle.grammar.proofs.Demand as grammar
use Rattle.grammar.proofs.Usable.{RowAt, Usable, parent_row, unchanged_row, changed_row, deleted_row, Each, each_end, each_next, rows_usable}
use Rattle.section.specs.Table.{table_numbers, rows_listed, table_after}
use Rattle.batch.specs.Spans.{rows_from, rows_of, parents, owner_of, start_in, Span, span, null_mark, chapter_mark, span_of, is_row, moved, span_in, spans_in, spans_by, planned, spans_found}
use Rattle.batch.proofs.Alike.{batch_alike}
use Rattle.adtg.specs.Plans as adtg
use Rattle.adtg.specs.Plans.{plan_in}
use Rattle.adtg.specs.Rows.{look_up_in}
use Rattle.adtg.proofs.Selected.{asks_columns, plan_columns}
use Rattle.demands.specs.Examples.{T, section_t}
use Rattle.demands.specs.Sections.{Given, listing}
use Rattle.demands.specs.Batches.{walked, owned, Owner, parent_rows, child_rows, SpansOf, no_row, a_row_lem, Lies, lies, is_null_lem, is_chapter_lem, Placed, placed, null_placed, chapter_placed, SpansAt, no_span, a_span}
use Rattle.demands.proofs.Plans.{plan_route_is_walk}
use Rattle.demands.proofs.Sections.{listed_iff_split, split_listed, length_numbers}

-- Through the plan that a schema makes, a batch is the batch by the walk in that schema, whole: for any section, any numbers as its rows,
-- any owner, column and room.
pub batch_is_walk :
    (file : Bytes) (number : ℕ) (p : Plan) → AreBytes file → plan_in file number ≡ ok p → (s : Bytes) (table : List ℕ) (owner column room : ℕ) →
    spans_found p s table owner column room ≡ spans_by (walked file number column) s table owner room
batch_is_walk file number p bytes h s table owner column room =
    batch_alike (planned p column) (walked file number column) (λ part. plan_route_is_walk file number p bytes h part column) s table owner room

-- Row by row.

spans_each : (look : Bytes → Read Answer) (s : Bytes) (owner : ℕ) (rs : List Row) (xs : List Span) → spans_in look s owner rs ≡ ok xs → SpansOf look s (owned owner rs) xs
unfolding spans_in owned
spans_each look s owner [] xs e = let z : [] ≡ xs = ok_ok e in rw (← z) no_row
spans_each look s owner (r ∷ rs) xs e = go (eqb (owner_of r) owner) (λ ys. spans_each look s owner rs ys) e
  where
    go : (t : Bool) → ((ys : List Span) → spans_in look s owner rs ≡ ok ys → SpansOf look s (owned owner rs) ys) →
        pick t (span_in look s r.original >>= λ x. spans_in look s owner rs >>= λ ys. ok (x ∷ ys)) (spans_in look s owner rs) ≡ ok xs →
        SpansOf look s (pick t (r ∷ owned owner rs) (owned owner rs)) xs
    go false rest e = rest xs e
    go true rest e =
        let (x, q, f) = bind_ok (span_in look s r.original) _ xs e in
        let (ys, d, g) = bind_ok (spans_in look s owner rs) _ xs f in
        let z : x ∷ ys ≡ xs = ok_ok g in
        rw (← z) (a_row_lem q (rest ys d))

-- What an accepted batch answers are the spans of the owner's rows, one for one.
pub batch_row_by_row :
    (look : Bytes → Read Answer) (s : Bytes) (table : List ℕ) (owner room : ℕ) (xs : List Span) → spans_by look s table owner room ≡ ok xs →
    SpansOf look s (owned owner (rows_of table)) xs
unfolding spans_by
batch_row_by_row look s table owner room xs e =
    let (u, _, f) = bind_ok (about input.Section (sized s)) _ xs e in
    let (ys, q, g) = bind_ok (spans_in look s owner (rows_of table)) _ xs f in
    let (v, _, k) = bind_ok (about input.Output (check (leb (2 * length ys) room) 16 (length ys))) _ xs g in
    let z : ys ≡ xs = ok_ok k in
    rw (← z) (spans_each look s owner (rows_of table) ys q)

-- Through any plan at all, what is found lies in the section.

module _ (p : Plan) (s : Bytes) (column start : ℕ) where
  pub span_lies : (x : Span) → span_in (planned p column) s start ≡ ok x → Lies s x
  unfolding span_in moved span_of
  span_lies x e = go (planned_row p (drop (start_in s start) s) column) refl e
    where
      refusal : (t : Bool) (code offset : ℕ) (i : Input) →
          ((pick {A = Read Answer} t (bad code (start_in s start + offset) input.Section) (bad code offset i)) >>= λ (a : Answer). ok (span_of (start_in s start) a)) ≡ ok x → ⊥
      refusal true code offset i e = bad_ok e
      refusal false code offset i e = bad_ok e

      go : (r : Read Answer) → planned_row p (drop (start_in s start) s) column ≡ r →
          (moved (start_in s start) r >>= λ (a : Answer). ok (span_of (start_in s start) a)) ≡ ok x → Lies s x
      go (ok (field f)) q e =
          let z : span (start_in s start + f.start) (start_in s start + f.end) ≡ x = ok_ok e in
          let (l, m) = row_inside p (drop (start_in s start) s) column f q in
          let n : length (drop (start_in s start) s) ≡ length s - start_in s start = length-drop (start_in s start) s in
          let a : start_in s start + f.start ≤ start_in s start + f.end = omega arith in
          let b : start_in s start + f.end ≤ length s = omega arith in
          rw (← z) (lies a b)
      go (ok null) q e = let z : span null_mark null_mark ≡ x = ok_ok e in rw (← z) is_null_lem
      go (ok chapter) q e = let z : span chapter_mark chapter_mark ≡ x = ok_ok e in rw (← z) is_chapter_lem
      go (bad c o i) q e = absurd (refusal (is_row i) c o i e)

spans_lie : (p : Plan) (s : Bytes) (column : ℕ) {rs : List Row} {xs : List Span} → SpansOf (planned p column) s rs xs → Each (Lies s) xs
spans_lie p s column no_row = each_end
spans_lie p s column (a_row_lem {r = r} {x = x} q d) = each_next (span_lies p s column r.original x q) (spans_lie p s column d)

pub batch_inside : (p : Plan) (s : Bytes) (table : List ℕ) (owner column room : ℕ) (xs : List Span) → spans_found p s table owner column room ≡ ok xs → Each (Lies s) xs
batch_inside p s table owner column room xs e = spans_lie p s column (batch_row_by_row (planned p column) s table owner room xs e)

-- Where none of the plan's columns before it is a stop, a field starts at the number that the plan holds, its own prefix added.

module _ (p : Plan) (s : Bytes) (column : ℕ) (free : no_stops p column ≡ true) where
  pub span_placed : (start : ℕ) (x : Span) → span_in (planned p column) s start ≡ ok x → Placed (start_in s start) (planned_gap p column + prefix_bytes (planned_column p column)) x
  unfolding span_in moved span_of
  span_placed start x e = go (planned_row p (drop (start_in s start) s) column) refl e
    where
      refusal : (t : Bool) (code offset : ℕ) (i : Input) →
          ((pick {A = Read Answer} t (bad code (start_in s start + offset) input.Section) (bad code offset i)) >>= λ (a : Answer). ok (span_of (start_in s start) a)) ≡ ok x → ⊥
      refusal true code offset i e = bad_ok e
      refusal false code offset i e = bad_ok e

      go : (r : Read Answer) → planned_row p (drop (start_in s start) s) column ≡ r →
          (moved (start_in s start) r >>= λ (a : Answer). ok (span_of (start_in s start) a)) ≡ ok x →
          Placed (start_in s start) (planned_gap p column + prefix_bytes (planned_column p column)) x
      go (ok (field f)) q e =
          let z : span (start_in s start + f.start) (start_in s start + f.end) ≡ x = ok_ok e in
          let y : f.start ≡ planned_gap p column + prefix_bytes (planned_column p column) = row_placed p (drop (start_in s start) s) column f q free in
          rw (← z, y) placed
      go (ok null) q e = let z : span null_mark null_mark ≡ x = ok_ok e in rw (← z) null_placed
      go (ok chapter) q e = let z : span chapter_mark chapter_mark ≡ x = ok_ok e in rw (← z) chapter_placed
      go (bad c o i) q e = absurd (refusal (is_row i) c o i e)

  spans_placed : {rs : List Row} {xs : List Span} → SpansOf (planned p column) s rs xs → SpansAt s (planned_gap p column + prefix_bytes (planned_column p column)) rs xs
  spans_placed no_row = no_span
  spans_placed (a_row_lem {r = r} {x = x} q d) = a_span (span_placed r.original x q) (spans_placed d)

  pub batch_placed :
      (table : List ℕ) (owner room : ℕ) (xs : List Span) → spans_found p s table owner column room ≡ ok xs →
      SpansAt s (planned_gap p column + prefix_bytes (planned_column p column)) (owned owner (rows_of table)) xs
  batch_placed table owner room xs e = spans_placed (batch_row_by_row (planned p column) s table owner room xs e)

-- The rows that a table lists are its rows.

pub rows_shift : (a b c d : ℕ) (t : List ℕ) (n i : ℕ) → rows_from (a ∷ b ∷ c ∷ d ∷ t) n (suc i) ≡ rows_from t n i
unfolding rows_from
rows_shift a b c d t zero i = refl
rows_shift a b c d t (suc n) i =
    let w : 4 * suc i ≡ suc (suc (suc (suc (4 * i)))) = omega arith in
    let x : 4 * suc i + 1 ≡ suc (suc (suc (suc (4 * i + 1)))) = omega arith in
    let y : 4 * suc i + 2 ≡ suc (suc (suc (suc (4 * i + 2)))) = omega arith in
    let z : 4 * suc i + 3 ≡ suc (suc (suc (suc (4 * i + 3)))) = omega arith in
    rw (x, y, z, w, rows_shift a b c d t n (suc i)) refl

rows_listed_lem : (rs : List Row) → rows_from (table_numbers rs) (length rs) 0 ≡ rs
unfolding rows_from table_numbers
rows_listed_lem [] = refl
rows_listed_lem (r ∷ rs) = rw (rows_shift r.kind r.id r.original r.update (table_numbers rs) (length rs) 0, rows_listed_lem rs) refl

rows_of_numbers : (rs : List Row) → rows_of (table_numbers rs) ≡ rs
rows_of_numbers rs =
    let z : length (table_numbers rs) / 4 ≡ length rs = omega (arith, length_numbers rs) in
    rw z (rows_listed_lem rs)

-- The columns of the schema that made a plan, and the ids of a file's schemas.

columns_are_lem : (file : Bytes) (S : List Schema) (number : ℕ) (cs : List Column) → read_schemas file ≡ ok S → adtg.columns_of file number ≡ ok cs → columns_at S number ≡ cs
unfolding adtg.columns_of columns_of schema_at
columns_are_lem file S number cs v e =
    let (ss, e1, e2) = bind_ok (about input.Schema (read_schemas file)) _ cs (sym (with_alone file number _) ∙ e) in
    let (x, e3, e4) = bind_ok (about input.SchemaNumber (schema_at ss number)) _ cs e2 in
    let (u, e5, e6) = bind_ok (check (ltb number (length ss)) 18 0) _ x (about_ok input.SchemaNumber (schema_at ss number) x e3) in
    let same : S ≡ ss = ok_ok (sym v ∙ about_ok input.Schema (read_schemas file) ss e1) in
    let found : get_or ss number (schema 0 []) ≡ x = ok_ok e6 in
    ap (λ (S : List Schema). map as_column (get_or S number (schema 0 [])).columns) same
    ∙ ap (λ (x : Schema). map as_column x.columns) found
    ∙ ok_ok e4

number_small : {ss : List Schema} → SchemasRange ss → (k id n : ℕ) → number_from k ss id ≡ some n → id < number_limit
unfolding number_from
number_small no_schema k id n e = let z : ◌≡◌ {A = ℕ} 0 1 = cc in absurd (omega arith)
number_small (a_schema_lem {s = s} {ss = ss} r rs) k id n e = go (eqb s.id id) refl (number_small rs (k + 1) id n) e
  where
    go : (t : Bool) → eqb s.id id ≡ t → (number_from (k + 1) ss id ≡ some n → id < number_limit) → pick t (some k) (number_from (k + 1) ss id) ≡ some n → id < number_limit
    go true q rest e = let z : s.id ≡ id = eqb-true _ _ q in omega (arith, r.id)
    go false q rest e = rest e

child_small : {S : List Schema} → SchemasRange S → (id n : ℕ) → child_number S id ≡ some n → id < number_limit
unfolding child_number
child_small no_schema id n e = let z : ◌≡◌ {A = ℕ} 0 1 = cc in absurd (omega arith)
child_small (a_schema_lem r rs) id n e = number_small rs 1 id n e

pub schemas_in_range : (file : Bytes) (S : List Schema) → AreBytes file → read_schemas file ≡ ok S → SchemasRange S
unfolding read_schemas
schemas_in_range file S bytes e =
    let (t, e1, e2) = bind_ok (file_of file) _ S e in
    let z : schemas_of t ≡ S = ok_ok e2 in
    rw (← z) (schemas_range ((file_of_iff file t bytes).0 e1).1)

-- A usable row has the schema of its owner.

some_some : {a b : ℕ} {x y : Option ℕ} → x ≡ some a → y ≡ some b → x ≡ y → a ≡ b
some_some p q e = cc

module _ (S : List Schema) (range : SchemasRange S) (s : Bytes) where
  child_row_lem : {id k owner number o : ℕ} → child_number S id ≡ some k → RowAt (columns_at S k) s o → Owner S owner number → id ≡ owner → RowAt (columns_at S number) s o
  child_row_lem {id} {k} q r parent_rows e = let l : id < number_limit = child_small range id k q in absurd (omega arith)
  child_row_lem {id} {k} {o = o} q r (child_rows {id = j} {k = n} q') e =
      let z : k ≡ n = some_some q q' (ap (child_number S) e) in
      rw z at r

  pub owner_row : {r : Row} {owner number : ℕ} → Usable S s r → Owner S owner number → owner_of r ≡ owner → RowAt (columns_at S number) s r.original
  unfolding owner_of
  owner_row (parent_row r) parent_rows e = r
  owner_row (parent_row r) (child_rows {id = j} {k = n} q) e = let l : j < number_limit = child_small range j n q in absurd (omega arith)
  owner_row (unchanged_row q r) w e = child_row_lem q r w e
  owner_row (changed_row q r u) w e = child_row_lem q r w e
  owner_row (deleted_row q r) w e = child_row_lem q r w e

-- In a section that was read, with the plan of the owner's schema.
module _ (file s : Bytes) (S : List Schema) (bytes : AreBytes file) (g : Given file s S) where
  module _ (owner number : ℕ) (w : Owner S owner number) (p : Plan) (h : plan_in file number ≡ ok p) (column : ℕ) (few : column < length (columns_at S number)) where
    -- the look-up in row data that stand at o answers
    row_answers : (o : ℕ) → RowAt (columns_at S number) s o → (a : Answer) × (planned_row p (drop o s) column ≡ ok a)
    unfolding look_up_in about
    row_answers o r =
        let (cs, e, _) = plan_columns file number p h in
        let (a, q) = r.looks_up column few in
        let l : length (drop o s) ≤ limit = omega (arith, length-drop o s, g.within) in
        let same : columns_at S number ≡ cs = columns_are_lem file S number cs g.valid e in (
          a,
          plan_route_is_walk file number p bytes h (drop o s) column
              ∙ asks_columns file number cs e (about input.Row (sized (drop o s))) (λ columns. look_up columns (drop o s) column)
              ∙ rw (sized_within (drop o s) l, ← same) q,
        )

    pub row_spans : (o : ℕ) → RowAt (columns_at S number) s o → (x : Span) × (span_in (planned p column) s o ≡ ok x)
    unfolding span_in moved
    row_spans o r =
        let (a, q) = row_answers o r in
        let z : min o (length s) ≡ o = omega (arith, r.stands.ends, r.stands.inside) in
        (span_of o a, rw (z, q) refl)

    rows_span : {rs : List Row} → Each (Usable S s) rs → (xs : List Span) × (spans_in (planned p column) s owner rs ≡ ok xs) × (length xs ≡ length (owned owner rs))
    unfolding spans_in owned
    rows_span each_end = ([], refl, refl)
    rows_span (each_next {a = r} {l = rs} u us) = go (eqb (owner_of r) owner) refl (rows_span us)
      where
        go : (t : Bool) → eqb (owner_of r) owner ≡ t →
            ((xs : List Span) × (spans_in (planned p column) s owner rs ≡ ok xs) × (length xs ≡ length (owned owner rs))) →
            (xs : List Span)
            × (pick t (span_in (planned p column) s r.original >>= λ x. spans_in (planned p column) s owner rs >>= λ xs. ok (x ∷ xs)) (spans_in (planned p column) s owner rs) ≡ ok xs)
            × (length xs ≡ length (pick t (r ∷ owned owner rs) (owned owner rs)))
        go false e (xs, q, n) = (xs, q, n)
        go true e (xs, q, n) =
            let (x, f) = row_spans r.original (owner_row S (schemas_in_range file S bytes g.valid) s u w (eqb-true _ _ e)) in
            (x ∷ xs, rw (f, q) refl, ap suc n)

    -- Over the rows that reading the section listed, with room for those of the owner, no row is refused.
    pub listed_found :
        (table : List ℕ) (rs : List Row) → rows_listed file s (length table) ≡ ok rs → (room : ℕ) → 2 * length (owned owner rs) ≤ room →
        (xs : List Span) × (spans_found p s (take (4 * length rs) (table_after (rows_listed file s (length table)) table)) owner column room ≡ ok xs) × (length xs ≡ length (owned owner rs))
    unfolding spans_by about check
    listed_found table rs e room fits =
        let (es, sp, r, listed) = (listed_iff_split file s S g (length table) rs).0 e in
        let after : table_after (rows_listed file s (length table)) table ≡ listing rs table = rw (← r) (split_listed file s S g table es sp (rw r listed)) in
        let front : take (4 * length rs) (listing rs table) ≡ table_numbers rs = take_at (table_numbers rs) (drop (4 * length rs) table) (4 * length rs) (length_numbers rs) in
        let (xs, q, n) = rows_span (rows_usable S s rs ((grammar.table_iff_split S s rs).1 (es, sp, r))) in
        (xs, rw (after, front, rows_of_numbers rs, sized_within s g.within, q, le-leb (2 * length xs) room (omega arith)) refl, n)

-- Over the rows that T's section lists, the child's byte stands at 10, the parent's integer at 1, and the parent's second column is a
-- chapter. A column that is not there refuses, and so does too little room.

abbrev T-rows : List ℕ
T-rows = 1 ∷ 0 ∷ 1 ∷ 0 ∷ 3 ∷ 7 ∷ 10 ∷ 16 ∷ []

pub T-batches :
    (spans_by (walked T 1 0) section_t T-rows 7 2 ≡ ok (span 10 11 ∷ []))
    × (spans_by (walked T 0 0) section_t T-rows parents 2 ≡ ok (span 1 5 ∷ []))
    × (spans_by (walked T 0 1) section_t T-rows parents 2 ≡ ok (span chapter_mark chapter_mark ∷ []))
    × (spans_by (walked T 0 2) section_t T-rows parents 2 ≡ bad 18 0 input.Column)
    × (spans_by (walked T 0 0) section_t T-rows parents 1 ≡ bad 16 1 input.Output)
unfolding sized sized_by check whole types kind_in kind_of third_group second_group number_in member read_number read_range read_fixed read_variable read_chapter read_kind read_column read_columns read_schema ended read_file file_of own_columns nested_schemas schemas_of read_schemas schema_at with_schema about bit_at bit_set map_bytes value_of int_at read_int is_nullable prefix_size greatest length_error_of length_error allowed bytes_at variable_at field_at nullables presence_bytes marks bit_of present chapter_present clear step walk arrive opened row.walked field_of column_of known look_up look_up_in columns_of rows_from owner_of span_of moved span_in spans_in spans_by
T-batches = (refl, refl, refl, refl, refl)
