-- The reader into a table says what the reader says: the same errors, and the same tree laid into the table.
-- Assumes nothing.
use Prim.Native.Nat.{ℕ, zero, suc, ◌+◌, ◌≤◌, ◌<◌}
use mathlib.Core.Path.{◌≡◌, refl, sym, ap, ◌∙◌}
use mathlib.Core.List.{List, [], ◌∷◌, ◌++◌, append_assoc}
use mathlib.Core.Bool.{Bool, true, false, not}
use native.Mathlib.Omega.{arith}
use lib.ListN.{length, take, drop, length-append, length-drop, take-append-drop}
use lib.Seq.{drop_at}
use lib.Dec.{leb}
use borrow.Author.Tests.{leb-true, leb-false, le-leb, lt-leb}
use Rattle.wire.specs.Read.{Bytes, AreBytes, Read, ok, bad, ◌>>=◌, check, sized}
use Rattle.wire.proofs.Pieces.{bytes_drop, bind_same, bind_bind}
use Rattle.column.specs.declared.types.Kind.{Kind}
use Rattle.column.specs.declared.types.Kind.TheVariants.{Fixed, Variable, Wide, Chapter, Unknown}
use Rattle.column.specs.Types.{chapter_code, kind_of}
use Rattle.tree.specs.Numbers.{Found, found, number_at, all_groups}
use Rattle.column.specs.Layout.{most_columns}
use Rattle.tree.specs.Tree.{most_file_columns, most_depth, most_flags, most_maximum, Tree, none, columns, nested_counts, counts, chapters, member}
use Rattle.tree.specs.Reader.{State, state_at, Got, got, seeing, read_number, read_range, Node, field_node, chapter_node, attach, read_fixed, read_variable, read_chapter, read_kind, read_column, read_columns, read_schema, ended, read_file, file_of}
use Rattle.tree.specs.Schemas.{Schema, read_schemas}
use Rattle.tree.specs.Table.{table_size, packed, lay_columns, lay_schema, lay_file, ids_from, ids_in, schemas_in}
use Rattle.tree.specs.Filling.{Filled, filled, Good, moved, holding, opened, range_at, fill_fixed, fill_variable, fill_chapter, fill_kind, fill_column, fill_columns, fill_schema, fill_file}
use Rattle.tree.proofs.Offsets.{number_found, number_refused, range_found, range_refused, range_under, range_over, number_inside}
use Rattle.tree.proofs.Laws.{range_short, range_within, range_low, range_high, good_moved, good_held, good_opened}
use Rattle.tree.proofs.Sound.{node_sound, columns_sound, schema_sound}
use Rattle.tree.proofs.Errors.{column_placed, schema_placed}
use Rattle.tree.proofs.Theorem.{file_of_iff}
use Rattle.tree.proofs.SchemaLists.{chapters_few, schemas_length}
use Rattle.tree.proofs.Laid.{Fits, length_lay}
use Rattle.tree.proofs.TableSays.{lay_ids, table_schemas, ids_column, ids_block}

-- Two readings are the same where their parts are.

-- after the same test
check_same : {B : Type 0} (t : Bool) (c p : ℕ) (x y : Read B) → (t ≡ true → x ≡ y) → (check t c p >>= λ _. x) ≡ (check t c p >>= λ _. y)
unfolding check
check_same true c p x y e = e refl
check_same false c p x y e = refl

-- after the same number
module _ {B : Type 0} (b : Bytes) (at total : ℕ) (seen : List ℕ) (h : at ≤ length b) (g : Found → Read B) (k : Got ℕ → Read B) where
  number_same :
      ((n p : ℕ) → number_at b at ≡ ok (found n p) → g (found n p) ≡ k (got n (state_at b p total seen))) →
      (number_at b at >>= g) ≡ (read_number (state_at b at total seen) >>= k)
  number_same e = by (number_at b at) refl
    where
      by : (r : Read Found) → number_at b at ≡ r → (number_at b at >>= g) ≡ (read_number (state_at b at total seen) >>= k)
      by (ok f) q = rw (q, number_found b at total seen h f.value f.at q) (e f.value f.at q)
      by (bad c p i) q = rw (q, number_refused b at total seen h c p i q)

  range_same :
      (low high : ℕ) → ((n p : ℕ) → number_at b at ≡ ok (found n p) → low ≤ n → n ≤ high → g (found n p) ≡ k (got n (state_at b p total seen))) →
      (range_at low high b at >>= g) ≡ (read_range low high (state_at b at total seen) >>= k)
  range_same low high e = by (number_at b at) refl
    where
      tested : (f : Found) → number_at b at ≡ ok f → (t u : Bool) → leb low f.value ≡ t → leb f.value high ≡ u →
          (range_at low high b at >>= g) ≡ (read_range low high (state_at b at total seen) >>= k)
      tested f q true true x y =
          let l : low ≤ f.value = leb-true _ _ x in
          let m : f.value ≤ high = leb-true _ _ y in
          rw (range_within low high b at f q l m, range_found b at total seen h low high f.value f.at q l m) (e f.value f.at q l m)
      tested f q true false x y =
          let l : low ≤ f.value = leb-true _ _ x in
          let m : high < f.value = leb-false _ _ y in
          rw (range_high low high b at f q l m, range_over b at total seen h low high f.value f.at q l m)
      tested f q false u x y =
          let l : f.value < low = leb-false _ _ x in
          rw (range_low low high b at f q l, range_under b at total seen h low high f.value f.at q l)

      by : (r : Read Found) → number_at b at ≡ r → (range_at low high b at >>= g) ≡ (read_range low high (state_at b at total seen) >>= k)
      by (ok f) q = tested f q (leb low f.value) (leb f.value high) refl refl
      by (bad c p i) q = rw (range_short low high b at c p i q, range_refused b at total seen h low high c p i q)

-- Where the reader stands after a reading.

-- the state of the reader that a state of the reader into a table stands for
abbrev pub state_of : Bytes → Filled → State
state_of b f = state_at b f.at f.columns (ids_in f.schemas f.table)

-- what is left after a reading is what is left of the input at its offset
left_at :
    (b : Bytes) (at : ℕ) (s : State) (ns : List ℕ) → drop at b ≡ all_groups ns ++ s.left → s.at + length s.left ≡ length b →
    s.left ≡ drop s.at b
left_at b at s ns e h =
    let x : Bytes = take at b ++ all_groups ns in
    let w : b ≡ x ++ s.left =
    sym (take-append-drop at b) ∙ ap (λ (l : Bytes). take at b ++ l) e ∙ sym (append_assoc (take at b) (all_groups ns) s.left) in
    let n : length b ≡ length x + length s.left = ap length w ∙ length-append x s.left in
    let l : length x ≡ s.at = omega arith in
    sym (ap (drop s.at) w ∙ drop_at x s.left s.at l)

state_same :
    (b : Bytes) (s : State) (total : ℕ) (seen : List ℕ) → s.left ≡ drop s.at b → s.total ≡ total → s.seen ≡ seen →
    s ≡ state_at b s.at total seen
state_same b s total seen e f g = rw (← e, ← f, ← g)

-- A first column and the others, laid one after the other.

attach_counts : (c : Node) (rest : Tree) → nested_counts (attach c rest) ≡ nested_counts (attach c none) + nested_counts rest
unfolding nested_counts
attach_counts (field_node code flags maximum) rest = omega arith
attach_counts (chapter_node flags id nested) rest = omega arith

attach_chapters : (c : Node) (rest : Tree) → chapters (attach c rest) ≡ chapters (attach c none) + chapters rest
unfolding chapters
attach_chapters (field_node code flags maximum) rest = omega arith
attach_chapters (chapter_node flags id nested) rest = omega arith

attach_lay :
    (c : Node) (rest : Tree) (i n k : ℕ) (table : List ℕ) →
    lay_columns (attach c rest) i n k table
    ≡ lay_columns rest (i + 1) (n + nested_counts (attach c none)) (k + chapters (attach c none)) (lay_columns (attach c none) i n k table)
unfolding lay_columns nested_counts counts chapters
attach_lay (field_node code flags maximum) rest i n k table =
    let y : n + 0 ≡ n = omega arith in
    let z : k + 0 ≡ k = omega arith in
    rw (y, z)
attach_lay (chapter_node flags id nested) rest i n k table =
    let y : n + (columns nested + nested_counts nested + 0) ≡ n + (columns nested + nested_counts nested) = omega arith in
    let z : k + suc (chapters nested + 0) ≡ k + suc (chapters nested) = omega arith in
    rw (y, z)

-- What a reading of columns, of one column or of a schema leaves.

abbrev pub laid_columns : ℕ → Filled → Got Tree → Filled
laid_columns i f g =
    filled g.next.at (f.columns + nested_counts g.value) (f.schemas + chapters g.value)
    (lay_columns g.value i f.columns f.schemas f.table)

abbrev pub laid_node : ℕ → Filled → Got Node → Filled
laid_node i f g = laid_columns i f (got (attach g.value none) g.next)

abbrev pub laid_schema : ℕ → Filled → Got Tree → Filled
laid_schema id f g =
    filled g.next.at (f.columns + counts g.value) (f.schemas + suc (chapters g.value))
    (lay_schema id g.value f.columns f.schemas f.table)

filled_same :
    (at n n' k k' : ℕ) (table table' : List ℕ) → n ≡ n' → k ≡ k' → table ≡ table' → filled at n k table ≡ filled at n' k' table'
filled_same at n n' k k' table table' e f g = rw (e, f, g)

attach_laid :
    (i : ℕ) (f : Filled) (c : Got Node) (rest : Got Tree) →
    laid_columns (i + 1) (laid_node i f c) rest ≡ laid_columns i f (got (attach c.value rest.value) rest.next)
attach_laid i f c rest =
    filled_same rest.next.at _ _ _ _ _ _ (omega (arith, attach_counts c.value rest.value))
    (omega (arith, attach_chapters c.value rest.value)) (sym (attach_lay c.value rest.value i f.columns f.schemas f.table))

-- a field and its slot; a chapter and its schema
field_laid :
    (i code flags maximum : ℕ) (f : Filled) (s : State) →
    moved s.at (holding i (packed code flags maximum 0) f) ≡ laid_node i f (got (field_node code flags maximum) s)
unfolding lay_columns nested_counts chapters
field_laid i code flags maximum f s = filled_same s.at _ _ _ _ _ _ (omega arith) (omega arith) refl

chapter_laid :
    (i flags id at : ℕ) (f : Filled) (g : Got Tree) →
    laid_schema id (moved at (holding i (packed chapter_code flags 0 id) f)) g ≡ laid_node i f (got (chapter_node flags id g.value) g.next)
unfolding lay_columns nested_counts counts chapters
chapter_laid i flags id at f g = filled_same g.next.at _ _ _ _ _ _ (omega arith) (omega arith) refl

-- The two readers agree.

module _ (b : Bytes) (o : AreBytes b) where
  -- what is to be shown of schemas with d depths left: `seen` are the ids that the table has once the schema's block is in it
  SchemaAgrees : ℕ → Type 0
  SchemaAgrees d =
      (id : ℕ) (f : Filled) (seen : List ℕ) → Good b f →
      ((c : ℕ) → 1 ≤ c → f.columns + c ≤ most_file_columns → ids_in (f.schemas + 1) (opened id c f).table ≡ seen) →
      fill_schema d b id f ≡ (read_schema d (state_at b f.at f.columns seen) >>= λ g. ok (laid_schema id f g))

  module _ (i : ℕ) (f : Filled) (good : Good b f) where
    fixed_agrees : (code : ℕ) → fill_fixed b code i f ≡ (read_fixed code (state_of b f) >>= λ g. ok (laid_node i f g))
    unfolding fill_fixed read_fixed
    fixed_agrees code =
        range_same b f.at _ _ good.inside _ _ 0 most_flags
        (λ v p e l m. ap (λ (x : Filled). ok x) (field_laid i code v 0 f (state_of b (moved p f))))
        ∙ sym (bind_bind (read_range 0 most_flags (state_of b f)) _ _)

    variable_agrees : (code : ℕ) → fill_variable b code i f ≡ (read_variable code (state_of b f) >>= λ g. ok (laid_node i f g))
    unfolding fill_variable read_variable
    variable_agrees code =
        range_same b f.at _ _ good.inside _ _ 0 most_flags
        (λ v p e l m. range_same b p _ _ (number_inside b f.at v p e).1 _ _ 1 most_maximum
        (λ v' p' e' l' m'. ap (λ (x : Filled). ok x) (field_laid i code v v' f (state_of b (moved p' f))))
        ∙ sym (bind_bind (read_range 1 most_maximum (state_of b (moved p f))) _ _))
        ∙ sym (bind_bind (read_range 0 most_flags (state_of b f)) _ _)

    module _ (d : ℕ) (ih : SchemaAgrees d) (one : 1 ≤ f.schemas) (slot : i < f.columns) where
      nested_agrees :
          (flags id p : ℕ) → p ≤ length b →
          fill_schema d b id (moved p (holding i (packed chapter_code flags 0 id) f))
          ≡ (read_schema d (seeing id (state_of b (moved p f))) >>= λ t. ok (laid_node i f (got (chapter_node flags id t.value) t.next)))
      unfolding SchemaAgrees
      nested_agrees flags id p h =
          let v : ℕ = packed chapter_code flags 0 id in
          let g : Filled = moved p (holding i v f) in
          let fits : Good b g = good_moved b (holding i v f) p (good_held b f i v good) h in
          ih id g (ids_in f.schemas f.table ++ (id ∷ [])) fits
          (λ c l m. ids_block f.schemas f.columns c id g.table one (omega (arith, fits.some, fits.long)) (omega arith) (omega arith)
          ∙ ap (λ (l : List ℕ). l ++ (id ∷ [])) (ids_column f.schemas i v f.table (omega (arith, good.few))))
          ∙ bind_same (read_schema d (seeing id (state_of b (moved p f)))) _ _ (λ t _. ap (λ (x : Filled). ok x) (chapter_laid i flags id p f t))

      chapter_agrees : fill_chapter (fill_schema d b) b i f ≡ (read_chapter (read_schema d) (state_of b f) >>= λ g. ok (laid_node i f g))
      unfolding fill_chapter read_chapter
      chapter_agrees =
          range_same b f.at _ _ good.inside _ _ 0 most_flags
          (λ v p e l m. number_same b p _ _ (number_inside b f.at v p e).1 _ _
          (λ id q e'. check_same (not (member id (ids_in f.schemas f.table))) 8 p _ _
          (λ _. nested_agrees v id q (number_inside b p id q e').1 ∙ sym (bind_bind (read_schema d (seeing id (state_of b (moved q f)))) _ _))
          ∙ sym (bind_bind (check (not (member id (ids_in f.schemas f.table))) 8 p) _ _))
          ∙ sym (bind_bind (read_number (state_of b (moved p f))) _ _))
          ∙ sym (bind_bind (read_range 0 most_flags (state_of b f)) _ _)

      kind_agrees :
          (kind : Kind) (code at : ℕ) →
          fill_kind (fill_schema d b) b kind code at i f ≡ (read_kind (read_schema d) kind code at (state_of b f) >>= λ g. ok (laid_node i f g))
      unfolding fill_kind read_kind
      kind_agrees (Fixed w) code at = fixed_agrees code
      kind_agrees Variable code at = variable_agrees code
      kind_agrees Wide code at = variable_agrees code
      kind_agrees Chapter code at = chapter_agrees
      kind_agrees Unknown code at = refl

  -- A column, and what one that was read leaves.
  module _ (d i : ℕ) (f : Filled) (good : Good b f) (one : 1 ≤ f.schemas) (slot : i < f.columns) where
    column_agrees : SchemaAgrees d → fill_column (fill_schema d b) b i f ≡ (read_column (read_schema d) (state_of b f) >>= λ g. ok (laid_node i f g))
    unfolding fill_column read_column
    column_agrees ih =
        number_same b f.at _ _ good.inside _ _
        (λ code p e. kind_agrees i (moved p f) (good_moved b f p good (number_inside b f.at code p e).1) d ih one slot (kind_of code) code f.at)
        ∙ sym (bind_bind (read_number (state_of b f)) _ _)

    column_leaves : (r : Got Node) → read_column (read_schema d) (state_of b f) ≡ ok r → (r.next ≡ state_of b (laid_node i f r)) × Good b (laid_node i f r)
    column_leaves r e =
        let t : Tree = attach r.value none in
        let y = node_sound d (read_schema d) (schema_sound d) (state_of b f) r (bytes_drop f.at b o) e in
        let placed : r.next.at + length r.next.left ≡ length b =
        column_placed (length b) d (state_of b f) r (rw (length-drop f.at b) (omega (arith, good.inside))) e in
        let few : f.columns + nested_counts t ≤ most_file_columns = omega (arith, y.step.room good.few, y.step.total) in
        let some : f.schemas + chapters t ≤ f.columns + nested_counts t = omega (arith, good.some, chapters_few y.right) in
        let fits : Fits t i f.columns f.schemas f.table =
        record { before = omega (arith, y.count); few = few; long = omega (arith, good.long) } in
        let left : r.next.left ≡ drop r.next.at b = left_at b f.at r.next _ y.step.splits placed in
        let seen = y.step.seen ∙ sym (lay_ids t i f.columns f.schemas f.table fits one) in (
          state_same b r.next _ _ left y.step.total seen,
          record { inside = omega arith; some = some; few = few; long = length_lay t i f.columns f.schemas f.table ∙ good.long },
        )

  -- Columns: a first one and the others.
  columns_agree :
      (d : ℕ) → SchemaAgrees d → (m i : ℕ) (f : Filled) → Good b f → 1 ≤ f.schemas → i + m ≤ f.columns →
      fill_columns (fill_schema d b) b m i f ≡ (read_columns (read_schema d) m (state_of b f) >>= λ g. ok (laid_columns i f g))
  unfolding fill_columns read_columns lay_columns nested_counts chapters
  columns_agree d ih zero i f good one slots = ap (λ (x : Filled). ok x) (filled_same f.at _ _ _ _ _ _ (omega arith) (omega arith) refl)
  columns_agree d ih (suc m) i f good one slots =
      let first : Read (Got Node) = read_column (read_schema d) (state_of b f) in
      ap (λ (r : Read Filled). r >>= λ g. fill_columns (fill_schema d b) b m (i + 1) g) (column_agrees d i f good one (omega arith) ih)
      ∙ bind_bind first _ _
      ∙ bind_same first _ _
      (λ c e.
      let (next, fits) = column_leaves d i f good one (omega arith) c e in
      columns_agree d ih m (i + 1) (laid_node i f c) fits (omega arith) (omega arith)
      ∙ ap (λ (q : State). read_columns (read_schema d) m q >>= λ g. ok (laid_columns (i + 1) (laid_node i f c) g)) (sym next)
      ∙ bind_same (read_columns (read_schema d) m c.next) _ _ (λ rest _. ap (λ (x : Filled). ok x) (attach_laid i f c rest))
      ∙ sym (bind_bind (read_columns (read_schema d) m c.next) _ _))
      ∙ sym (bind_bind first _ _)

  -- A schema: its block, then its columns.
  opened_laid :
      (d id : ℕ) (f : Filled) (c at : ℕ) (seen : List ℕ) (g : Got Tree) → read_columns (read_schema d) c (state_at b at (f.columns + c) seen) ≡ ok g →
      laid_columns f.columns (moved at (opened id c f)) g ≡ laid_schema id f g
  unfolding counts
  opened_laid d id f c at seen g e =
      let s : State = state_at b at (f.columns + c) seen in
      let z : columns g.value ≡ c = (columns_sound c d (read_schema d) (schema_sound d) s g (bytes_drop at b o) e).count in
      rw (← z) (filled_same g.next.at _ _ _ _ _ _ (omega arith) (omega arith) refl)

  schema_agrees : (d : ℕ) → SchemaAgrees d
  unfolding SchemaAgrees fill_schema read_schema
  schema_agrees zero id f seen good told = refl
  schema_agrees (suc d) id f seen good told =
      range_same b f.at _ _ good.inside _ _ 1 most_columns
      (λ c p e l m. check_same (leb (f.columns + c) most_file_columns) 7 f.at _ _
      (λ t.
      let few : f.columns + c ≤ most_file_columns = leb-true _ _ t in
      let h : Filled = moved p (opened id c f) in
      let fits : Good b h = good_moved b (opened id c f) p (good_opened b f id c good l few) (number_inside b f.at c p e).1 in
      let s : State = state_at b p (f.columns + c) seen in
      columns_agree d (schema_agrees d) c f.columns h fits (omega arith) (omega arith)
      ∙ ap (λ (q : List ℕ). read_columns (read_schema d) c (state_at b p (f.columns + c) q) >>= λ g. ok (laid_columns f.columns h g)) (told c l few)
      ∙ bind_same (read_columns (read_schema d) c s) _ _ (λ g e'. ap (λ (x : Filled). ok x) (opened_laid d id f c p seen g e')))
      ∙ sym (bind_bind (check (leb (f.columns + c) most_file_columns) 7 f.at) _ _))
      ∙ sym (bind_bind (read_range 1 most_columns (state_at b f.at f.columns seen)) _ _)

-- A file.

ended_agrees : (l : Bytes) (at n : ℕ) → at + length l ≡ n → ended l at ≡ check (leb n at) 15 at
unfolding ended check
ended_agrees [] at n h = let k : n ≤ at = omega arith in rw (le-leb n at k)
ended_agrees (x ∷ l) at n h = let k : at < n = omega arith in rw (lt-leb n at k)

-- what a file that was read leaves in a table
abbrev pub laid_file : Bytes → List ℕ → Tree → Filled
laid_file b table t = filled (length b) (counts t) (suc (chapters t)) (lay_file t table)

-- The reader into a table reads the file, and lays it into the table.
pub fill_file_lem : (b : Bytes) (table : List ℕ) → AreBytes b → length table ≡ table_size → fill_file b table ≡ (file_of b >>= λ t. ok (laid_file b table t))
unfolding fill_file file_of read_file ids_in ids_from SchemaAgrees
fill_file_lem b table o l =
    bind_same (sized b) _ _
    (λ u e. ap (λ (r : Read Filled). r >>= λ f. check (leb (length b) f.at) 15 f.at >>= λ _. ok f)
    (schema_agrees b o most_depth 0 (filled 0 0 0 table) [] good (λ c h k. refl))
    ∙ bind_bind (read_schema most_depth s) _ _ ∙ bind_same (read_schema most_depth s) _ _ last ∙ sym (bind_bind (read_schema most_depth s) _ _))
    ∙ sym (bind_bind (sized b) _ _)
  where
    s : State
    s = state_at b 0 0 []

    good : Good b (filled 0 0 0 table)
    good = record { inside = omega arith; some = omega arith; few = omega arith; long = l }

    last : (g : Got Tree) → read_schema most_depth s ≡ ok g →
        (check (leb (length b) g.next.at) 15 g.next.at >>= λ _. ok (laid_schema 0 (filled 0 0 0 table) g))
        ≡ ((ended g.next.left g.next.at >>= λ _. ok g.value) >>= λ t. ok (laid_file b table t))
    last g e =
        let p : g.next.at + length g.next.left ≡ length b = schema_placed (length b) most_depth s g (omega arith) e in
        rw (ended_agrees g.next.left g.next.at (length b) p)
        (check_same (leb (length b) g.next.at) 15 g.next.at _ _
        (λ t.
        let h : length b ≤ g.next.at = leb-true _ _ t in
        let z : g.next.at ≡ length b = omega arith in
        ap (λ (x : Filled). ok x) (rw z (filled_same (length b) _ _ _ _ _ _ (omega arith) (omega arith) refl)))
        ∙ sym (bind_bind (check (leb (length b) g.next.at) 15 g.next.at) _ _))

-- The schemas that the table then says are the file's.
pub fill_schemas :
    (b : Bytes) (table : List ℕ) → AreBytes b → length table ≡ table_size →
    read_schemas b ≡ (fill_file b table >>= λ f. ok (schemas_in 0 f.schemas f.table))
unfolding read_schemas
fill_schemas b table o l =
    bind_same (file_of b) _ _
    (λ t e. ap (λ (x : List Schema). ok x)
    (sym (ap (λ (m : ℕ). schemas_in 0 m (lay_file t table)) (sym (schemas_length t)) ∙ table_schemas t table ((file_of_iff b t o).0 e).1 l)))
    ∙ sym (ap (λ (r : Read Filled). r >>= λ f. ok (schemas_in 0 f.schemas f.table)) (fill_file_lem b table o l) ∙ bind_bind (file_of b) _ _)
