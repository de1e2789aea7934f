-- Laws of the schema reader and the column reader as code does them: ids in the table, and columns one after the other.
-- Assumes nothing.
use Rattle.std.specs.Prelude.{Result, Ok, Err, IsErrAnd}
use Rattle.std.proofs.lemmas.Result.{err_from_is_err_and}
use Prim.Native.Nat.{ℕ, zero, suc, ◌+◌, ◌-◌, ◌≤◌, ◌<◌}
use mathlib.Core.Path.{◌≡◌, refl, sym, ap, ◌∙◌}
use mathlib.Core.List.{List}
use mathlib.Core.Bool.{Bool, true, false, not, ◌||◌}
use native.Mathlib.Omega.{arith}
use lib.ListN.{get_or, set}
use borrow.Author.Tests.{le-leb, lt-leb, eq-eqb, ne_eqb}
use Rattle.wire.specs.declared.error.Error.{Error}
use Rattle.wire.specs.declared.error.Input.TheVariants.{Single}
use Rattle.wire.specs.Read.{Bytes, Read, ok, bad, ◌>>=◌, pick, check, refused}
use Rattle.schema.specs.declared.reader.Place.{Place}
use Rattle.column.specs.Layout.{most_columns}
use Rattle.std.specs.List.{list_any, range_with_len}
use lib.Dec.{eqb}
use Rattle.tree.specs.Tree.{most_file_columns, member}
use Rattle.tree.specs.Table.{schema_slot, id_in, ids_from, ids_in, packed, block}
use Rattle.column.specs.declared.types.Kind.{Kind}
use Rattle.column.specs.declared.types.Kind.TheVariants.{Fixed, Variable, Wide, Chapter, Unknown}
use Rattle.column.specs.Types.{chapter_code, kind_of}
use Rattle.tree.specs.Numbers.{Found, found, number_at}
use Rattle.tree.specs.Filling.{Filled, filled, moved, holding, range_at, fill_fixed, fill_variable, fill_chapter, fill_kind, fill_column, fill_columns, fill_schema}
use Rattle.entry.specs.Heads.{Head, field_head, id_head, fixed_head, variable_head, chapter_head, head_by, head_at}
use Rattle.schema.specs.Told.{Moves, Told}

-- Ids in the table, from number i on.

module _ (table : List ℕ) (id : ℕ) where
  one_seen : (t : Bool) {x y : Bool} → x ≡ y → (t || x) ≡ pick t true y
  one_seen true e = refl
  one_seen false e = e

  seen_from : (n i : ℕ) → list_any (λ (k : ℕ). eqb id (id_in (get_or table (schema_slot k) 0))) (range_with_len i n) ≡ member id (ids_from i n table)
  unfolding ids_from member
  seen_from zero i = refl
  seen_from (suc n) i = one_seen (eqb id (id_in (get_or table (schema_slot i) 0))) (seen_from n (i + 1))

  pub seen_any : (schemas : ℕ) → list_any (λ (k : ℕ). eqb id (id_in (get_or table (schema_slot k) 0))) (range_with_len 1 (schemas - 1)) ≡ member id (ids_in schemas table)
  unfolding ids_in
  seen_any schemas = seen_from (schemas - 1) 1

-- and one by one

module _ (table : List ℕ) (schemas id i : ℕ) where
  pub seen_end : schemas ≤ i → member id (ids_from i (schemas - i) table) ≡ false
  unfolding ids_from member
  seen_end h =
      let z : schemas - i ≡ 0 = omega arith in
      rw z refl

  module _ (h : i < schemas) where
    pub seen_hit : id_in (get_or table (schema_slot i) 0) ≡ id → member id (ids_from i (schemas - i) table) ≡ true
    unfolding ids_from member
    seen_hit e =
        let z : schemas - i ≡ suc (schemas - (i + 1)) = omega arith in
        rw z (rw (eq-eqb id (id_in (get_or table (schema_slot i) 0)) (sym e)) refl)

    pub seen_next : (id_in (get_or table (schema_slot i) 0) ≡ id → ⊥) → member id (ids_from i (schemas - i) table) ≡ member id (ids_from (i + 1) (schemas - (i + 1)) table)
    unfolding ids_from member
    seen_next e =
        let z : schemas - i ≡ suc (schemas - (i + 1)) = omega arith in
        rw z (rw (ne_eqb id (id_in (get_or table (schema_slot i) 0)) (λ f. e (sym f))) refl)

-- A column by its numbers.

-- what is done with them: the column goes into slot i, and a chapter's schema is Ok
abbrev pub head_then : (nest : ℕ → Filled → Read Filled) → (i : ℕ) → Filled → Read Head → Read Filled
head_then nest i f (ok (field_head code flags maximum end)) = ok (moved end (holding i (packed code flags maximum 0) f))
head_then nest i f (ok (id_head flags id id_at end)) =
    check (not (member id (ids_in f.schemas f.table))) 8 id_at >>= λ _. nest id (moved end (holding i (packed chapter_code flags 0 id) f))
head_then nest i f (bad code offset about) = bad code offset about

module _ (nest : ℕ → Filled → Read Filled) (b : Bytes) (i : ℕ) (f : Filled) where
  fixed_by : (code p : ℕ) (flags : Read Found) →
      (flags >>= λ x. ok (moved x.at (holding i (packed code x.value 0 0) (moved p f)))) ≡ head_then nest i f (flags >>= λ x. ok (field_head code x.value 0 x.at))
  fixed_by code p (ok x) = refl
  fixed_by code p (bad c o n) = refl

  maximum_by : (code flags p : ℕ) (maximum : Read Found) →
      (maximum >>= λ x. ok (moved x.at (holding i (packed code flags x.value 0) (moved p f))))
      ≡ head_then nest i f (maximum >>= λ x. ok (field_head code flags x.value x.at))
  maximum_by code flags p (ok x) = refl
  maximum_by code flags p (bad c o n) = refl

  variable_by : (code p : ℕ) (flags : Read Found) →
      (flags >>= λ x. range_at 1 32767 b x.at >>= λ y. ok (moved y.at (holding i (packed code x.value y.value 0) (moved p f))))
      ≡ head_then nest i f (flags >>= λ x. range_at 1 32767 b x.at >>= λ y. ok (field_head code x.value y.value y.at))
  variable_by code p (ok x) = maximum_by code x.value p (range_at 1 32767 b x.at)
  variable_by code p (bad c o n) = refl

  id_by : (flags q p : ℕ) (id : Read Found) →
      (id >>= λ x. check (not (member x.value (ids_in f.schemas f.table))) 8 q >>= λ _. nest x.value (moved x.at (holding i (packed chapter_code flags 0 x.value) (moved p f))))
      ≡ head_then nest i f (id >>= λ x. ok (id_head flags x.value q x.at))
  id_by flags q p (ok x) = refl
  id_by flags q p (bad c o n) = refl

  chapter_by : (p : ℕ) (flags : Read Found) →
      (flags >>= λ x. number_at b x.at >>= λ y. check (not (member y.value (ids_in f.schemas f.table))) 8 x.at >>= λ _. nest y.value (moved y.at (holding i (packed chapter_code x.value 0 y.value) (moved p f))))
      ≡ head_then nest i f (flags >>= λ x. number_at b x.at >>= λ y. ok (id_head x.value y.value x.at y.at))
  chapter_by p (ok x) = id_by x.value x.at p (number_at b x.at)
  chapter_by p (bad c o n) = refl

  kind_by_lem : (k : Kind) (code at p : ℕ) → fill_kind nest b k code at i (moved p f) ≡ head_then nest i f (head_by k b code at p)
  unfolding fill_kind head_by fill_fixed fill_variable fill_chapter fixed_head variable_head chapter_head
  kind_by_lem (Fixed w) code at p = fixed_by code p (range_at 0 1 b p)
  kind_by_lem Variable code at p = variable_by code p (range_at 0 1 b p)
  kind_by_lem Wide code at p = variable_by code p (range_at 0 1 b p)
  kind_by_lem Chapter code at p = chapter_by p (range_at 0 1 b p)
  kind_by_lem Unknown code at p = refl

  number_by : (n : Read Found) →
      (n >>= λ code. fill_kind nest b (kind_of code.value) code.value f.at i (moved code.at f))
      ≡ head_then nest i f (n >>= λ code. head_by (kind_of code.value) b code.value f.at code.at)
  number_by (ok code) = kind_by_lem (kind_of code.value) code.value f.at code.at
  number_by (bad c o n) = refl

  -- a column is what its numbers say
  pub column_by : fill_column nest b i f ≡ head_then nest i f (head_at b f.at)
  unfolding fill_column head_at
  column_by = number_by (number_at b f.at)

  pub column_refused : (e : Error) → head_at b f.at ≡ refused e → fill_column nest b i f ≡ refused e
  column_refused e h = column_by ∙ ap (head_then nest i f) h

  pub column_filled :
      (code flags maximum p : ℕ) → head_at b f.at ≡ ok (field_head code flags maximum p) →
      fill_column nest b i f ≡ ok (moved p (holding i (packed code flags maximum 0) f))
  column_filled code flags maximum p h = column_by ∙ ap (head_then nest i f) h

  module _ (flags id q p : ℕ) (h : head_at b f.at ≡ ok (id_head flags id q p)) where
    pub chapter_seen : member id (ids_in f.schemas f.table) ≡ true → fill_column nest b i f ≡ bad 8 q Single
    unfolding check
    chapter_seen e = column_by ∙ ap (head_then nest i f) h ∙ rw e refl

    pub chapter_new :
        member id (ids_in f.schemas f.table) ≡ false → fill_column nest b i f ≡ nest id (moved p (holding i (packed chapter_code flags 0 id) f))
    unfolding check
    chapter_new e = column_by ∙ ap (head_then nest i f) h ∙ rw e refl

  -- Columns one after the other.
  pub columns_next : (n m : ℕ) (g : Filled) → n ≡ suc m → fill_column nest b i f ≡ ok g → fill_columns nest b n i f ≡ fill_columns nest b m (i + 1) g
  unfolding fill_columns
  columns_next n m g z e = rw z (rw e refl)

  pub columns_refused : (n m : ℕ) (e : Error) → n ≡ suc m → fill_column nest b i f ≡ refused e → fill_columns nest b n i f ≡ refused e
  unfolding fill_columns
  columns_refused n m x z e = rw z (rw e refl)

  pub columns_end : (n : ℕ) → n ≡ 0 → fill_columns nest b n i f ≡ ok f
  unfolding fill_columns
  columns_end n z = rw z refl

-- A schema by its count.

module _ (d : ℕ) (b : Bytes) (id : ℕ) (f : Filled) where
  pub schema_refused : (e : Error) → range_at 1 most_columns b f.at ≡ refused e → fill_schema (suc d) b id f ≡ refused e
  unfolding fill_schema
  schema_refused e h = rw h refl

  module _ (n p : ℕ) (h : range_at 1 most_columns b f.at ≡ ok (found n p)) where
    pub schema_over : most_file_columns < f.columns + n → fill_schema (suc d) b id f ≡ bad 7 f.at Single
    unfolding fill_schema check
    schema_over l = rw h (rw (lt-leb (f.columns + n) most_file_columns l) refl)

    pub schema_columns : f.columns + n ≤ most_file_columns →
        fill_schema (suc d) b id f
        ≡ fill_columns (fill_schema d b) b n f.columns (filled p (f.columns + n) (f.schemas + 1) (set f.table (schema_slot f.schemas) (block f.columns n id)))
    unfolding fill_schema check
    schema_columns l = rw h (rw (le-leb (f.columns + n) most_file_columns l) refl)

pub schema_deep : (b : Bytes) (id : ℕ) (f : Filled) → fill_schema 0 b id f ≡ bad 7 f.at Single
unfolding fill_schema
schema_deep b id f = refl

-- A schema as the code reads it: where depth d is left below it, its count n ends at p, and the block v stands in the table.
module _
    (b : Bytes) (depth id : ℕ) (f : Filled) (n p v : ℕ) (deep : depth ≡ 0 → ⊥) (h : range_at 1 most_columns b f.at ≡ ok (found n p))
    (l : f.columns + n ≤ most_file_columns) (e : v ≡ block f.columns n id)
  where
    -- the place and the table where its columns start
    abbrev pub begun : Filled
    begun = filled p (f.columns + n) (f.schemas + 1) (set f.table (schema_slot f.schemas) v)

    begins : fill_schema depth b id f ≡ fill_columns (fill_schema (depth - 1) b) b n f.columns begun
    begins =
        let z : depth ≡ suc (depth - 1) = omega arith in
        ap (λ (d : ℕ). fill_schema d b id f) z
        ∙ schema_columns (depth - 1) b id f n p h l
        ∙ ap (λ (x : ℕ). fill_columns (fill_schema (depth - 1) b) b n f.columns (filled p (f.columns + n) (f.schemas + 1) (set f.table (schema_slot f.schemas) x))) (sym e)

    -- the columns from the i-th on are what is left of it
    module _ (i : ℕ) (g : Filled)
        (k : fill_columns (fill_schema (depth - 1) b) b n f.columns begun ≡ fill_columns (fill_schema (depth - 1) b) b (n - i) (f.columns + i) g)
      where
        pub loop-ends : n ≤ i → fill_schema depth b id f ≡ ok g
        loop-ends m =
            let z : n - i ≡ 0 = omega arith in
            begins ∙ k ∙ columns_end (fill_schema (depth - 1) b) b (f.columns + i) g (n - i) z

        module _ (m : i < n) where
          less : n - i ≡ suc (n - (i + 1))
          less = omega arith

          pub loop-refused : (x : Error) → fill_column (fill_schema (depth - 1) b) b (f.columns + i) g ≡ refused x → fill_schema depth b id f ≡ refused x
          loop-refused x c = begins ∙ k ∙ columns_refused (fill_schema (depth - 1) b) b (f.columns + i) g (n - i) (n - (i + 1)) x less c

          pub loop-next :
              (j : Filled) → fill_column (fill_schema (depth - 1) b) b (f.columns + i) g ≡ ok j →
              fill_columns (fill_schema (depth - 1) b) b n f.columns begun ≡ fill_columns (fill_schema (depth - 1) b) b (n - (i + 1)) (f.columns + (i + 1)) j
          loop-next j c =
              let y : f.columns + i + 1 ≡ f.columns + (i + 1) = omega arith in
              k
              ∙ columns_next (fill_schema (depth - 1) b) b (f.columns + i) g (n - i) (n - (i + 1)) j less c
              ∙ ap (λ (s : ℕ). fill_columns (fill_schema (depth - 1) b) b (n - (i + 1)) s j) y

-- what moves on from a later place moves on from an earlier one
pub moves_from :
    (b : Bytes) (p q : Place) (r : Result Place Error) → p.at ≤ q.at → p.columns ≤ q.columns → p.schemas ≤ q.schemas → Moves b q r → Moves b p r
moves_from b p q (Ok x) f c s m =
    record { ready = m.ready; further = omega (arith, m.further); columns = omega (arith, m.columns); schemas = omega (arith, m.schemas) }
moves_from b p q (Err e) f c s m = tt

-- an error is what the definition says, also one that came from a part
pub told_refused : {b : Bytes} {p : Place} {filling : Read Filled} {exit : List ℕ} (e : Error) → filling ≡ refused e → Told b p filling exit (Err e)
told_refused e h = record { answers = sym h; moves = tt }

pub told_passed :
    {b : Bytes} {p : Place} {filling : Read Filled} {exit : List ℕ} (r : Result Place Error) (e : Error) → IsErrAnd r (λ x. x ≡ e) → filling ≡ refused e →
    Told b p filling exit r
told_passed r e i h = let x = err_from_is_err_and r i in rw (x.1, x.2) (told_refused e h)
