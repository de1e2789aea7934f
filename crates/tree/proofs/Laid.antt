-- Each schema of a file is in the table, with its columns one after the other.
-- Assumes nothing.
use Prim.Native.Nat.{ℕ, zero, suc, ◌+◌, ◌≤◌, ◌<◌}
use mathlib.Core.Path.{◌≡◌, refl, sym, ap, ◌∙◌}
use mathlib.Core.List.{List, [], ◌∷◌, ◌++◌}
use native.Mathlib.Omega.{arith}
use lib.ListN.{length, get_or, set, length-set}
use lib.Seq.{get_or-set_same, get_or-set_other}
use Rattle.column.specs.Types.{chapter_code}
use Rattle.tree.specs.Tree.{most_file_columns, Tree, none, field, chapter, columns, nested_counts, counts, chapters, WellFormed}
use Rattle.tree.specs.Schemas.{Entry, entry, Schema, schema, own_columns, nested_schemas, schemas_of, schema_count}
use Rattle.tree.specs.Table.{table_size, schema_slot, packed, slot_of, block, lay_columns, lay_file}
use Rattle.tree.proofs.SchemaLists.{own_length, nested_length, schemas_few}

-- What laying leaves as it was.

-- the table keeps its length
pub length_lay : (t : Tree) (i n k : ℕ) (table : List ℕ) → length (lay_columns t i n k table) ≡ length table
unfolding lay_columns
length_lay none i n k table = refl
length_lay (field code flags maximum rest) i n k table = length_lay rest _ n k _ ∙ length-set table i _
length_lay (chapter flags id nested rest) i n k table =
    length_lay rest _ _ _ _ ∙ length_lay nested _ _ _ _ ∙ length-set (set table i _) _ _ ∙ length-set table i _

-- so does a slot that is none of the columns', none of the nested schemas' columns and none of the nested schemas
pub lay_other :
    (q : ℕ) (t : Tree) (i n k : ℕ) (table : List ℕ) → ((j : ℕ) → j < columns t → q ≡ i + j → ⊥) → ((j : ℕ) → j < nested_counts t → q ≡ n + j → ⊥) →
    ((j : ℕ) → j < chapters t → q ≡ schema_slot k + j → ⊥) → get_or (lay_columns t i n k table) q 0 ≡ get_or table q 0
unfolding lay_columns columns nested_counts counts chapters
lay_other q none i n k table a b c = refl
lay_other q (field code flags maximum rest) i n k table a b c =
    let z : q ≡ i → ⊥ = λ e. a 0 (omega arith) (omega arith) in
    lay_other q rest (i + 1) n k _ (λ j h e. a (suc j) (omega arith) (omega arith)) b c ∙ get_or-set_other table i q _ 0 z
lay_other q (chapter flags id nested rest) i n k table a b c =
    let y : q ≡ i → ⊥ = λ e. a 0 (omega arith) (omega arith) in
    let z : q ≡ schema_slot k → ⊥ = λ e. c 0 (omega arith) (omega arith) in
    lay_other q rest (i + 1) (n + (columns nested + nested_counts nested)) (k + suc (chapters nested)) _
    (λ j h e. a (suc j) (omega arith) (omega arith))
    (λ j h e. b (columns nested + nested_counts nested + j) (omega arith) (omega arith))
    (λ j h e. c (suc (chapters nested) + j) (omega arith) (omega arith))
    ∙ lay_other q nested n (n + columns nested) (k + 1) _
    (λ j h e. b j (omega arith) (omega arith))
    (λ j h e. b (columns nested + j) (omega arith) (omega arith))
    (λ j h e. c (suc j) (omega arith) (omega arith))
    ∙ get_or-set_other (set table i _) (schema_slot k) q _ 0 z
    ∙ get_or-set_other table i q _ 0 y

-- What stands in the table then.

-- Columns lie one after the other from slot i on.
abbrev pub LaidColumns : List ℕ → ℕ → List Entry → Type 0
LaidColumns table i es = (j : ℕ) → j < length es → get_or table (i + j) 0 ≡ slot_of (get_or es j (entry 0 0 0 0))

-- Schema number k is in the table, its columns somewhere in the slots from low to high.
pub record Laid (table : List ℕ) (low high k : ℕ) (s : Schema) : Type 0 where
  pub start : ℕ
  pub told : get_or table (schema_slot k) 0 ≡ block start (length s.columns) s.id
  pub columns : LaidColumns table start s.columns
  pub above : low ≤ start
  pub below : start + length s.columns ≤ high

-- Schemas that are all in the table so, the first of them with number k.
pub data AllLaid (table : List ℕ) (low high : ℕ) : ℕ → List Schema → Type 0 where
  none_laid : {k : ℕ} → AllLaid table low high k []
  one_laid : {k : ℕ} {s : Schema} {ss : List Schema} → Laid table low high k s → AllLaid table low high (k + 1) ss → AllLaid table low high k (s ∷ ss)

-- They stay so in another table that agrees on their slots, and within wider bounds.
module _
    (table other : List ℕ) (low high low' high' : ℕ) (down : low' ≤ low) (up : high ≤ high')
    (same : (q : ℕ) → low ≤ q → q < high → get_or other q 0 ≡ get_or table q 0)
  where
    laid_stays : (k : ℕ) (s : Schema) → get_or other (schema_slot k) 0 ≡ get_or table (schema_slot k) 0 → Laid table low high k s → Laid other low' high' k s
    laid_stays k s e h =
        record {
          start = h.start;
          told = e ∙ h.told;
          columns = λ j l. same (h.start + j) (omega (arith, h.above)) (omega (arith, h.below)) ∙ h.columns j l;
          above = omega (arith, h.above);
          below = omega (arith, h.below);
        }

    all_stay :
        {k : ℕ} {ss : List Schema} → ((m : ℕ) → k ≤ m → m < k + length ss → get_or other (schema_slot m) 0 ≡ get_or table (schema_slot m) 0) →
        AllLaid table low high k ss → AllLaid other low' high' k ss
    all_stay e none_laid = none_laid
    all_stay e (one_laid {k} {s} {ss} h hs) =
        one_laid (laid_stays k s (e k (omega arith) (omega arith)) h) (all_stay (λ m a b. e m (omega arith) (omega arith)) hs)

all_append :
    {table : List ℕ} {low high k : ℕ} {x : List Schema} (y : List Schema) → AllLaid table low high k x → AllLaid table low high (k + length x) y →
    AllLaid table low high k (x ++ y)
all_append {table} {low} {high} {k} y none_laid g = let z : k + 0 ≡ k = omega arith in rw z at g
all_append {table} {low} {high} y (one_laid {k} {s} {ss} h hs) g =
    let z : k + suc (length ss) ≡ k + 1 + length ss = omega arith in
    one_laid h (all_append y hs (rw z at g))

-- A tree's columns are laid from slot i on, its nested schemas' from slot n on, and the nested schemas have the numbers from k on.
pub record Lays (t : Tree) (i n k : ℕ) (table : List ℕ) : Type 0 where
  pub own : LaidColumns table i (own_columns t)
  pub nested : AllLaid table n (n + nested_counts t) k (nested_schemas t)

-- There is room for all of it, the columns before those of nested schemas.
pub record Fits (t : Tree) (i n k : ℕ) (table : List ℕ) : Type 0 where
  pub before : i + columns t ≤ n
  pub few : n + nested_counts t ≤ most_file_columns
  pub long : schema_slot k + chapters t ≤ length table

-- a first column and those behind it
own_more :
    (table : List ℕ) (i : ℕ) (e : Entry) (es : List Entry) → get_or table i 0 ≡ slot_of e → LaidColumns table (i + 1) es → LaidColumns table i (e ∷ es)
own_more table i e es h hs zero l = let z : i + 0 ≡ i = omega arith in rw z h
own_more table i e es h hs (suc j) l = let z : i + suc j ≡ i + 1 + j = omega arith in rw z (hs j (omega arith))

lays_none : (i n k : ℕ) (table : List ℕ) → Lays none i n k table
unfolding own_columns nested_schemas
lays_none i n k table = record { own = λ j l. absurd (omega arith); nested = none_laid }

lays_field :
    (code flags maximum : ℕ) (rest : Tree) (i n k : ℕ) (table : List ℕ) → Fits (field code flags maximum rest) i n k table →
    Lays rest (i + 1) n k (lay_columns rest (i + 1) n k (set table i (packed code flags maximum 0))) →
    Lays (field code flags maximum rest) i n k (lay_columns (field code flags maximum rest) i n k table)
unfolding lay_columns own_columns nested_schemas columns nested_counts chapters
lays_field code flags maximum rest i n k table f ih =
    let p : ℕ = packed code flags maximum 0 in
    let l : i < length table = omega (arith, f.before, f.few, f.long) in
    let here : get_or (lay_columns rest (i + 1) n k (set table i p)) i 0 ≡ p =
    lay_other i rest (i + 1) n k (set table i p) (λ j h e. omega arith) (λ j h e. omega (arith, f.before))
    (λ j h e. omega (arith, f.before, f.few))
    ∙ get_or-set_same table i p 0 l in
    record {
      own = own_more (lay_columns rest (i + 1) n k (set table i p)) i (entry code flags maximum 0) (own_columns rest) here ih.own;
      nested = ih.nested;
    }

-- A chapter: its column, its schema, and what is nested there, as the columns behind it leave them.
module _ (flags id : ℕ) (nested rest : Tree) (i n k : ℕ) (table : List ℕ) where
  -- the table with the chapter's column and its block, then with its schema's columns, then with the columns behind it
  first : List ℕ
  first = set (set table i (packed chapter_code flags 0 id)) (schema_slot k) (block n (columns nested) id)

  second : List ℕ
  second = lay_columns nested n (n + columns nested) (k + 1) first

  third : List ℕ
  third = lay_columns rest (i + 1) (n + counts nested) (k + suc (chapters nested)) second

  first_length : length first ≡ length table
  unfolding first
  first_length = length-set (set table i _) _ _ ∙ length-set table i _

  second_length : length second ≡ length table
  unfolding second
  second_length = length_lay nested _ _ _ first ∙ first_length

  module _ (f : Fits (chapter flags id nested rest) i n k table) where
    -- what the columns behind the chapter leave: slots before theirs, and slots of the chapter's own schemas
    rest_before : (q : ℕ) → q ≤ i → get_or third q 0 ≡ get_or second q 0
    unfolding third columns nested_counts counts chapters
    rest_before q h =
        lay_other q rest _ _ _ second (λ j l e. omega arith) (λ j l e. omega (arith, f.before)) (λ j l e. omega (arith, f.before, f.few))

    rest_columns : (q : ℕ) → n ≤ q → q < n + counts nested → get_or third q 0 ≡ get_or second q 0
    unfolding third columns nested_counts counts chapters
    rest_columns q h g =
        lay_other q rest _ _ _ second (λ j l e. omega (arith, f.before)) (λ j l e. omega arith) (λ j l e. omega (arith, f.few))

    rest_schemas : (m : ℕ) → m < k + suc (chapters nested) → get_or third (schema_slot m) 0 ≡ get_or second (schema_slot m) 0
    unfolding third columns nested_counts counts chapters
    rest_schemas m h =
        lay_other (schema_slot m) rest _ _ _ second (λ j l e. omega (arith, f.before, f.few)) (λ j l e. omega (arith, f.few)) (λ j l e. omega arith)

    -- what its nested schemas leave
    nested_before : (q : ℕ) → q ≤ i → get_or second q 0 ≡ get_or first q 0
    unfolding second columns nested_counts counts chapters
    nested_before q h =
        lay_other q nested _ _ _ first (λ j l e. omega (arith, f.before)) (λ j l e. omega (arith, f.before))
        (λ j l e. omega (arith, f.before, f.few))

    nested_schema : get_or second (schema_slot k) 0 ≡ get_or first (schema_slot k) 0
    unfolding second columns nested_counts counts chapters
    nested_schema =
        lay_other (schema_slot k) nested _ _ _ first (λ j l e. omega (arith, f.few)) (λ j l e. omega (arith, f.few)) (λ j l e. omega arith)

    chapter_column : get_or third i 0 ≡ packed chapter_code flags 0 id
    unfolding first columns nested_counts chapters
    chapter_column =
        rest_before i (omega arith) ∙ nested_before i (omega arith)
        ∙ get_or-set_other (set table i (packed chapter_code flags 0 id)) (schema_slot k) i _ 0 (λ e. omega (arith, f.before, f.few))
        ∙ get_or-set_same table i (packed chapter_code flags 0 id) 0 (omega (arith, f.before, f.few, f.long))

    chapter_block : get_or third (schema_slot k) 0 ≡ block n (columns nested) id
    unfolding first chapters
    chapter_block =
        rest_schemas k (omega arith) ∙ nested_schema
        ∙ get_or-set_same (set table i (packed chapter_code flags 0 id)) (schema_slot k) (block n (columns nested) id) 0
        (rw (length-set table i (packed chapter_code flags 0 id)) (omega (arith, f.long)))

    lays_chapter :
        Lays nested n (n + columns nested) (k + 1) second → Lays rest (i + 1) (n + counts nested) (k + suc (chapters nested)) third →
        Lays (chapter flags id nested rest) i n k third
    unfolding own_columns nested_schemas columns nested_counts counts
    lays_chapter inner behind =
        let s : Schema = schema id (own_columns nested) in
        let low : ℕ = n + columns nested in
        let mid : ℕ = n + (columns nested + nested_counts nested) in
        let high : ℕ = n + (columns nested + nested_counts nested + nested_counts rest) in
        let laid : Laid third n high k s = record {
          start = n;
          told = chapter_block ∙ ap (λ (c : ℕ). block n c id) (sym (own_length nested));
          columns = λ j l. rest_columns (n + j) (omega arith) (omega (arith, own_length nested)) ∙ inner.own j l;
          above = omega arith;
          below = omega (arith, own_length nested);
        } in
        let deeper =
        all_stay second third low (low + nested_counts nested) n high (omega arith) (omega arith) (λ q a b. rest_columns q (omega arith) (omega arith))
        (λ m a b. rest_schemas m (omega (arith, nested_length nested))) inner.nested in
        let others =
        all_stay third third mid (mid + nested_counts rest) n high (omega arith) (omega arith) (λ q a b. refl) (λ m a b. refl) behind.nested in
        let z : k + length (s ∷ nested_schemas nested) ≡ k + suc (chapters nested) = omega (arith, nested_length nested) in
        record {
          own = own_more third i (entry chapter_code flags 0 id) (own_columns rest) chapter_column behind.own;
          nested = all_append (nested_schemas rest) (one_laid laid deeper) (rw z others);
        }

-- What is laid is there.
pub lays : (t : Tree) (i n k : ℕ) (table : List ℕ) → Fits t i n k table → Lays t i n k (lay_columns t i n k table)
unfolding lay_columns columns nested_counts counts chapters first second third
lays none i n k table f = lays_none i n k table
lays (field code flags maximum rest) i n k table f =
    let p : ℕ = packed code flags maximum 0 in
    let l : length (set table i p) ≡ length table = length-set table i p in
    lays_field code flags maximum rest i n k table f
    (lays rest (i + 1) n k (set table i p) (record { before = omega (arith, f.before); few = f.few; long = omega (arith, f.long) }))
lays (chapter flags id nested rest) i n k table f =
    let l₁ : length (first flags id nested rest i n k table) ≡ length table = first_length flags id nested rest i n k table in
    let l₂ : length (second flags id nested rest i n k table) ≡ length table = second_length flags id nested rest i n k table in
    lays_chapter flags id nested rest i n k table f
    (lays nested n (n + columns nested) (k + 1) (first flags id nested rest i n k table)
    (record { before = omega arith; few = omega (arith, f.few); long = omega (arith, f.long) }))
    (lays rest (i + 1) (n + (columns nested + nested_counts nested)) (k + suc (chapters nested)) (second flags id nested rest i n k table)
    (record { before = omega (arith, f.before); few = omega (arith, f.few); long = omega (arith, f.long) }))

-- A whole file: every schema is in the table, its columns within the slots of columns.

pub file_laid : (t : Tree) (table : List ℕ) → WellFormed t → length table ≡ table_size → AllLaid (lay_file t table) 0 most_file_columns 0 (schemas_of t)
unfolding schemas_of counts
file_laid t table w l =
    let c : ℕ = columns t in
    let start : List ℕ = set table (schema_slot 0) (block 0 c 0) in
    let long : length start ≡ table_size = length-set table _ _ ∙ l in
    let h : Lays t 0 (0 + c) (0 + 1) (lay_file t table) =
    lays t 0 (0 + c) (0 + 1) start (record { before = omega arith; few = omega (arith, w.few); long = omega (arith, schemas_few w) }) in
    let b : get_or (lay_file t table) (schema_slot 0) 0 ≡ block 0 c 0 =
    lay_other (schema_slot 0) t 0 (0 + c) (0 + 1) start (λ j a e. omega (arith, w.few)) (λ j a e. omega (arith, w.few)) (λ j a e. omega arith)
    ∙ get_or-set_same table (schema_slot 0) (block 0 c 0) 0 (omega arith) in
    let top : Laid (lay_file t table) 0 most_file_columns 0 (schema 0 (own_columns t)) =
    record {
      start = 0;
      told = b ∙ ap (λ (n : ℕ). block 0 n 0) (sym (own_length t));
      columns = h.own;
      above = omega arith;
      below = omega (arith, own_length t, w.few);
    } in
    one_laid top
    (all_stay (lay_file t table) (lay_file t table) (0 + c) (0 + c + nested_counts t) 0 most_file_columns (omega arith) (omega (arith, w.few))
    (λ q a e. refl) (λ m a e. refl) h.nested)

-- Schema number k of a file, for every k.
laid_at :
    {table : List ℕ} {low high k : ℕ} {ss : List Schema} → AllLaid table low high k ss → (m : ℕ) → m < length ss →
    Laid table low high (k + m) (get_or ss m (schema 0 []))
laid_at none_laid m h = absurd (omega arith)
laid_at {table} {low} {high} (one_laid {k} {s} l ls) zero h = let z : k + 0 ≡ k = omega arith in rw z l
laid_at {table} {low} {high} (one_laid {k} {s} {ss} l ls) (suc m) h =
    let z : k + suc m ≡ k + 1 + m = omega arith in
    rw z (laid_at ls m (omega arith))

pub schema_laid :
    (t : Tree) (table : List ℕ) → WellFormed t → length table ≡ table_size → (k : ℕ) → k < schema_count (schemas_of t) →
    Laid (lay_file t table) 0 most_file_columns k (get_or (schemas_of t) k (schema 0 []))
schema_laid t table w l k h = let z : 0 + k ≡ k = omega arith in rw z at (laid_at (file_laid t table w l) k h)
