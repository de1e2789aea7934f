-- What the whole reader has left to do where a state stands, and that judging a whole piece does not change it.
-- Assumes nothing.
use Prim.Native.Nat.{ℕ, zero, suc, ◌+◌, ◌-◌, ◌≤◌, ◌<◌}
use mathlib.Core.List.{List, [], ◌∷◌}
use mathlib.Core.Bool.{Bool, true, false}
use mathlib.Core.Option.{Option, none, some}
use mathlib.Core.Path.{◌≡◌, refl, sym, ap, ◌∙◌}
use native.Mathlib.Omega.{arith}
use native.Mathlib.Nat.{add-zero}
use lib.ListN.{length, get_or, take, drop, length-drop}
use lib.Seq.{take-length, drop-cons}
use lib.Dec.{eqb}
use Rattle.wire.specs.Read.{Bytes, Read, ok, bad, ◌>>=◌, pick, check, cut, whole}
use Rattle.wire.specs.Integers.{value_of, int_at, read_int}
use Rattle.wire.proofs.Laws.{whole_fits, int_fits}
use Rattle.wire.proofs.Pieces.{Piece, cut_is, bind_same, bind_bind, bad_ok, ok_ok}
use Rattle.column.specs.declared.column.Column.{Column}
use Rattle.column.specs.declared.field.Field.{Field}
use Rattle.column.specs.Columns.{width, is_variable, prefix_size, length_error}
use Rattle.column.specs.Fields.{field, allowed, bytes_at, variable_at, field_at}
use Rattle.walk.specs.Presence.{Mark, no_mark}
use Rattle.walk.specs.Rows.{place, past, step, walk, row_end}
use Rattle.walk.specs.Updates.{update_end}
use Rattle.walk.specs.Data.{data_end, data_opened, data_marks}
use Rattle.walk.proofs.UpdateLaws.{length_numbered}
use Rattle.walk.proofs.Data.{data_column}
use Rattle.walk.proofs.Laws.{bind_of, length_marks}
use Rattle.tree.specs.Schemas.{Schema, child_number, or0}
use Rattle.grammar.specs.Grammar.{Element, parent_element, child_element, change_element, delete_element, Before, other, after, columns_at, rows}
use Rattle.grammar.specs.Reader.{Token, parent_token, child_token, change_token, delete_token, done_token, unknown_token, token_of, known_child, follows, element, scan}
use Rattle.feeding.specs.Machine.{Kind, parent_row, child_row, change_row, behind, adds, is_update, columns_for, column_for, marks_for, has_for, map_size, from, Stage, child_id, change_id, delete_id, maps, prefix, State, keep, skip, finished, stopped, between, settle, body_of, seek, seek_from, mapped, row_by, row_from, tokened, measured, judge}
use Rattle.feeding.proofs.Maps.{fields_from, data_piece}

-- the rows of elements, with n before them
abbrev pub tally : ℕ → Read (List Element) → Read ℕ
tally n r = r >>= λ es. ok (n + length (rows 0 es))

length_rows : (a b : ℕ) (es : List Element) → length (rows a es) ≡ length (rows b es)
unfolding rows
length_rows a b [] = refl
length_rows a b (parent_element row ∷ es) = ap suc (length_rows (a + 1 + length row) (b + 1 + length row) es)
length_rows a b (child_element id row ∷ es) = ap suc (length_rows (a + 5 + length row) (b + 5 + length row) es)
length_rows a b (change_element id row ∷ es) = length_rows (a + 5 + length row) (b + 5 + length row) es
length_rows a b (delete_element id ∷ es) = length_rows (a + 5) (b + 5) es

-- an element before others adds so many rows
tally_cons :
    (n d : ℕ) (x : Element) (r : Read (List Element)) → ((es : List Element) → length (rows 0 (x ∷ es)) ≡ d + length (rows 0 es)) →
    tally n (r >>= λ es. ok (x ∷ es)) ≡ tally (n + d) r
tally_cons n d x (ok es) h = let z : n + length (rows 0 (x ∷ es)) ≡ n + d + length (rows 0 es) = omega (arith, h es) in ap ok z
tally_cons n d x (bad c o i) h = refl

parent_adds : (row : Bytes) (es : List Element) → length (rows 0 (parent_element row ∷ es)) ≡ 1 + length (rows 0 es)
unfolding rows
parent_adds row es = omega (arith, length_rows (0 + 1 + length row) 0 es)

child_adds : (id : ℕ) (row : Bytes) (es : List Element) → length (rows 0 (child_element id row ∷ es)) ≡ 1 + length (rows 0 es)
unfolding rows
child_adds id row es = omega (arith, length_rows (0 + 5 + length row) 0 es)

change_adds : (id : ℕ) (row : Bytes) (es : List Element) → length (rows 0 (change_element id row ∷ es)) ≡ 0 + length (rows 0 es)
unfolding rows
change_adds id row es = omega (arith, length_rows (0 + 5 + length row) 0 es)

delete_adds : (id : ℕ) (es : List Element) → length (rows 0 (delete_element id ∷ es)) ≡ 0 + length (rows 0 es)
unfolding rows
delete_adds id es = omega (arith, length_rows (0 + 5) 0 es)

-- How many prefixes were counted does not matter to where a walk ends.
pub walk_any :
    (has : Mark → Bool) (s : Bytes) (ms : List Mark) (at p q : ℕ) →
    (walk has s (length ms) ms (place at p) >>= λ w. ok w.at) ≡ (walk has s (length ms) ms (place at q) >>= λ w. ok w.at)
unfolding walk step
walk_any has s [] at p q = refl
walk_any has s (m ∷ ms) at p q = go (λ a x y. walk_any has s ms a x y) (has m)
  where
    go :
        ((a x y : ℕ) → (walk has s (length ms) ms (place a x) >>= λ w. ok w.at) ≡ (walk has s (length ms) ms (place a y) >>= λ w. ok w.at)) →
        (t : Bool) →
        ((pick t (field_at m.column s at >>= λ f. ok (past (place at p) f)) (ok (place at p)) >>= λ v. walk has s (length ms) ms v) >>= λ w. ok w.at)
        ≡ ((pick t (field_at m.column s at >>= λ f. ok (past (place at q) f)) (ok (place at q)) >>= λ v. walk has s (length ms) ms v) >>= λ w. ok w.at)
    go ih true = each (field_at m.column s at)
      where
        each :
            (r : Read Field) →
            (((r >>= λ f. ok (past (place at p) f)) >>= λ v. walk has s (length ms) ms v) >>= λ w. ok w.at)
            ≡ (((r >>= λ f. ok (past (place at q) f)) >>= λ v. walk has s (length ms) ms v) >>= λ w. ok w.at)
        each (ok f) = ih f.end (p + f.prefixes) (q + f.prefixes)
        each (bad c o i) = refl
    go ih false = ih at p q

-- a number in a piece
pub int_piece : (s : Bytes) (start e size : ℕ) (held : Bytes) → Piece s start e held → length held ≡ size → int_at s start size ≡ int_at held 0 size
unfolding int_at
int_piece s start e size held p l = ap value_of (cut_is size p l ∙ sym (ap (λ (n : ℕ). take n held) (sym l) ∙ take-length held))

-- A list from its element j on.
module _ {A : Type 0} (l : List A) (j : ℕ) (d m : A) (ms : List A) (e : drop j l ≡ m ∷ ms) where
  pub left_below : j < length l
  left_below = omega (arith, length-drop j l, ap length e)

  pub left_first : get_or l j d ≡ m
  left_first = let z : get_or l j d ∷ drop (suc j) l ≡ m ∷ ms = sym (drop-cons l j d left_below) ∙ e in cc

  pub left_rest : drop (suc j) l ≡ ms
  left_rest = let z : get_or l j d ∷ drop (suc j) l ≡ m ∷ ms = sym (drop-cons l j d left_below) ∙ e in cc

pub marks_length : (u : Bool) (cs : List Column) → length (data_marks u cs) ≡ length cs
marks_length true cs = length_numbered 0 cs
marks_length false cs = length_marks 0 cs

-- the column of the first mark that is left
pub column_left :
    (S : List Schema) (k : Kind) (j : ℕ) (m : Mark) (ms : List Mark) → drop j (marks_for S k) ≡ m ∷ ms → column_for S k j ≡ m.column
column_left S k j m ms e =
    let h : j < length (marks_for S k) = left_below (marks_for S k) j no_mark m ms e in
    let i : j < length (columns_for S k) = omega (arith, marks_length (is_update k) (columns_for S k)) in
    sym (data_column (is_update k) (columns_for S k) j i) ∙ ap (λ (x : Mark). x.column) (left_first (marks_for S k) j no_mark m ms e)

-- The size of a piece, and where it starts.
abbrev pub size : List Schema → Stage → ℕ
size S (child_id at) = 4
size S (change_id before at) = 4
size S (delete_id before at) = 4
size S (maps k) = map_size S k
size S (prefix k map j) = prefix_size (column_for S k j)

abbrev pub Seated : Stage → ℕ → Type 0
Seated (child_id at) start = start ≡ at + 1
Seated (change_id before at) start = start ≡ at + 1
Seated (delete_id before at) start = start ≡ at + 1
Seated (maps k) start = Unit {0}
Seated (prefix k map j) start = Unit {0}

module _ (S : List Schema) (s : Bytes) where
  -- the fields of row data from some columns on
  abbrev pub fields_of : Kind → Bytes → List Mark → ℕ → Read ℕ
  fields_of k map ms at = fields_from (is_update k) (columns_for S k) map s ms at

  -- behind row data that end at e
  abbrev pub onward : ℕ → ℕ → Kind → ℕ → Read ℕ
  onward fuel n k e = tally (n + adds k) (scan S s fuel (behind k) e)

  abbrev pub left_at : ℕ → ℕ → ℕ → Stage → Read ℕ
  left_at fuel n start (child_id at) = tally n (element S s (scan S s fuel) other at child_token)
  left_at fuel n start (change_id before at) = tally n (element S s (scan S s fuel) before at change_token)
  left_at fuel n start (delete_id before at) = tally n (element S s (scan S s fuel) before at delete_token)
  left_at fuel n start (maps k) = data_end (is_update k) (columns_for S k) s start >>= onward fuel n k
  left_at fuel n start (prefix k map j) =
      variable_at (column_for S k j) s start >>= λ f. fields_of k map (drop (suc j) (marks_for S k)) f.end >>= onward fuel n k

  abbrev pub left : ℕ → State → Read ℕ
  left fuel (between n at before) = tally n (scan S s fuel before at)
  left fuel (keep n start held more stage) = left_at fuel n start stage
  left fuel (skip n at more k map j) = whole s at (suc more) >>= λ e. fields_of k map (drop j (marks_for S k)) e >>= onward fuel n k
  left fuel (finished n at) = check (eqb (length s) at) 15 at >>= λ _. ok n
  left fuel (stopped code offset name) = bad code offset name

  pub left_settled : (fuel : ℕ) (r : Read State) → left fuel (settle r) ≡ r >>= left fuel
  left_settled fuel (ok st) = refl
  left_settled fuel (bad c o i) = refl

  left_body :
      (fuel n at size : ℕ) (k : Kind) (map : Bytes) (j : ℕ) (ms : List Mark) (st : State) → drop j (marks_for S k) ≡ ms → at ≤ length s →
      (size ≡ 0 → left fuel st ≡ (fields_of k map ms (at + size) >>= onward fuel n k)) →
      left fuel (body_of n at size k map j st) ≡ (whole s at size >>= λ e. fields_of k map ms e >>= onward fuel n k)
  left_body fuel n at zero k map j ms st q h f = f refl ∙ sym (bind_of _ (whole_fits s at 0 (omega arith)))
  left_body fuel n at (suc more) k map j ms st q h f =
      ap (λ (x : List Mark). whole s at (suc more) >>= λ e. fields_of k map x e >>= onward fuel n k) q

  pub left_seek :
      (fuel n at : ℕ) (k : Kind) (map : Bytes) (j : ℕ) (ms : List Mark) → drop j (marks_for S k) ≡ ms → at ≤ length s →
      left fuel (seek S n at k map j ms) ≡ (fields_of k map ms at >>= onward fuel n k)
  unfolding seek walk step field_at bytes_at
  left_seek fuel n at k map j [] q h = refl
  left_seek fuel n at k map j (m ∷ ms) q h =
      go (λ a l. left_seek fuel n a k map (suc j) ms (left_rest (marks_for S k) j no_mark m ms q) l) (has_for S k map m) (is_variable m.column)
    where
      go :
          ((a : ℕ) → a ≤ length s → left fuel (seek S n a k map (suc j) ms) ≡ (fields_of k map ms a >>= onward fuel n k)) → (t v : Bool) →
          left fuel
          (pick t
          (pick v (keep n at [] (prefix_size m.column - 1) (prefix k map j))
          (body_of n at (width m.column) k map (suc j) (seek S n (at + width m.column) k map (suc j) ms)))
          (seek S n at k map (suc j) ms))
          ≡ (((pick t (pick v (variable_at m.column s at) (bytes_at s at (width m.column) 0) >>= λ f. ok (past (place at 0) f)) (ok (place at 0))
          >>= λ v. walk (has_for S k map) s (length ms) ms v) >>= λ w. ok w.at)
          >>= onward fuel n k)
      go ih true true =
          ap (λ (c : Column). variable_at c s at >>= λ f. fields_of k map (drop (suc j) (marks_for S k)) f.end >>= onward fuel n k) (column_left S k j m ms q)
          ∙ ap (λ (x : List Mark). variable_at m.column s at >>= λ f. fields_of k map x f.end >>= onward fuel n k) (left_rest (marks_for S k) j no_mark m ms q)
          ∙ each (variable_at m.column s at)
        where
          each :
              (r : Read Field) →
              (r >>= λ f. fields_of k map ms f.end >>= onward fuel n k)
              ≡ ((((r >>= λ f. ok (past (place at 0) f)) >>= λ v. walk (has_for S k map) s (length ms) ms v) >>= λ w. ok w.at) >>= onward fuel n k)
          each (ok f) = ap (λ (r : Read ℕ). r >>= onward fuel n k) (walk_any (has_for S k map) s ms f.end 0 (0 + f.prefixes))
          each (bad c o i) = refl
      go ih true false =
          left_body fuel n at (width m.column) k map (suc j) ms _ (left_rest (marks_for S k) j no_mark m ms q) h (λ z. ih (at + width m.column) (omega arith))
          ∙ each (whole s at (width m.column))
        where
          each :
              (r : Read ℕ) →
              (r >>= λ e. fields_of k map ms e >>= onward fuel n k)
              ≡ (((((r >>= λ e. ok (field at e 0)) >>= λ f. ok (past (place at 0) f)) >>= λ v. walk (has_for S k map) s (length ms) ms v) >>= λ w. ok w.at)
              >>= onward fuel n k)
          each (ok e) = ap (λ (r : Read ℕ). r >>= onward fuel n k) (walk_any (has_for S k map) s ms e 0 (0 + 0))
          each (bad c o i) = refl
      go ih false v = ih at h

  pub left_seek_from :
      (fuel n at : ℕ) (k : Kind) (map : Bytes) (j : ℕ) → at ≤ length s →
      left fuel (seek_from S n at k map j) ≡ (fields_of k map (drop j (marks_for S k)) at >>= onward fuel n k)
  left_seek_from fuel n at k map j h = left_seek fuel n at k map j (drop j (marks_for S k)) refl h

  -- Maps that are whole.
  left_mapped :
      (fuel n start e : ℕ) (held : Bytes) (k : Kind) → Piece s start e held → length held ≡ map_size S k →
      (data_end (is_update k) (columns_for S k) s start >>= onward fuel n k) ≡ (mapped S n start held k >>= left fuel)
  unfolding mapped
  left_mapped fuel n start e held k p l =
      ap (λ (r : Read ℕ). r >>= onward fuel n k) (data_piece (is_update k) (columns_for S k) s start e held p l)
      ∙ bind_bind (from start (data_opened (is_update k) (columns_for S k) held 0)) _ _
      ∙ bind_same (from start (data_opened (is_update k) (columns_for S k) held 0)) _ _
      (λ _ _.
      ap (λ (x : ℕ). fields_of k held (marks_for S k) (start + x) >>= onward fuel n k) (sym l)
      ∙ sym (left_seek_from fuel n (start + length held) k held 0 (omega (arith, p.ends, p.inside))))
      ∙ sym (bind_bind (from start (data_opened (is_update k) (columns_for S k) held 0)) _ _)

  pub nothing_yet : (at : ℕ) → at ≤ length s → Piece s at at []
  nothing_yet at h = record { ends = omega arith; inside = h; splits = refl }

  -- Row data, with a map or without.
  left_row :
      (fuel n at : ℕ) (k : Kind) → at ≤ length s → (data_end (is_update k) (columns_for S k) s at >>= onward fuel n k) ≡ (row_from S n at k >>= left fuel)
  left_row fuel n at k h = go (map_size S k) refl
    where
      go : (size : ℕ) → map_size S k ≡ size → (data_end (is_update k) (columns_for S k) s at >>= onward fuel n k) ≡ (row_by S n at size k >>= left fuel)
      go zero e = left_mapped fuel n at at [] k (nothing_yet at h) (sym e)
      go (suc more) e = refl

  left_data :
      (fuel n at : ℕ) (k : Kind) (x : ℕ → Element) → at ≤ length s →
      ((e : ℕ) (es : List Element) → length (rows 0 (x e ∷ es)) ≡ adds k + length (rows 0 es)) →
      tally n (data_end (is_update k) (columns_for S k) s at >>= λ e. scan S s fuel (behind k) e >>= λ es. ok (x e ∷ es)) ≡ (row_from S n at k >>= left fuel)
  left_data fuel n at k x h a =
      bind_bind (data_end (is_update k) (columns_for S k) s at) _ _
      ∙ bind_same (data_end (is_update k) (columns_for S k) s at) _ _ (λ e _. tally_cons n (adds k) (x e) (scan S s fuel (behind k) e) (a e))
      ∙ left_row fuel n at k h

  -- A token.
  left_tokened :
      (fuel n at : ℕ) (before : Before) (t : Token) → at < length s →
      tally n (element S s (scan S s fuel) before at t) ≡ (tokened S n at before t >>= left fuel)
  unfolding tokened element rows
  left_tokened fuel n at before done_token h =
      bind_bind (check (eqb (length s) (at + 1)) 15 (at + 1)) _ _
      ∙ bind_same (check (eqb (length s) (at + 1)) 15 (at + 1)) _ _ (λ _ _. ap (λ (x : ℕ). ok x) (add-zero n))
  left_tokened fuel n at before parent_token h =
      left_data fuel n (at + 1) parent_row (λ e. parent_element (cut s (at + 1) (e - (at + 1)))) (omega arith) (λ e es. parent_adds (cut s (at + 1) (e - (at + 1))) es)
  left_tokened fuel n at before child_token h = refl
  left_tokened fuel n at before change_token h = refl
  left_tokened fuel n at before delete_token h = refl
  left_tokened fuel n at before unknown_token h = refl

  pub left_token :
      (fuel n at b : ℕ) (before : Before) → at < length s → get_or s at 0 ≡ b → 0 < fuel →
      left fuel (between n at before) ≡ (tokened S n at before (token_of b) >>= left (fuel - 1))
  unfolding scan
  left_token zero n at b before h e f = absurd (omega arith)
  left_token (suc fuel) n at b before h e f =
      let z : suc fuel - 1 ≡ fuel = omega arith in
      rw (whole_fits s at 1 (omega arith), e, z) (left_tokened fuel n at before (token_of b) h)

  -- an id that is known names its schema
  known_number : (at : ℕ) (o : Option ℕ) (k : ℕ) → known_child at o ≡ ok k → or0 o ≡ k
  unfolding known_child
  known_number at (some j) k e = ok_ok e
  known_number at none k e = absurd (bad_ok e)

  -- Ids.
  left_child :
      (fuel n at b v : ℕ) → b ≤ length s →
      tally n
      (known_child at (child_number S v) >>= λ k.
      row_end (columns_at S k) s b >>= λ e. scan S s fuel (after v) e >>= λ es. ok (child_element v (cut s b (e - b)) ∷ es))
      ≡ ((known_child at (child_number S v) >>= λ _. row_from S n b (child_row v)) >>= left fuel)
  left_child fuel n at b v h =
      bind_bind (known_child at (child_number S v)) _ _
      ∙ bind_same (known_child at (child_number S v)) _ _
      (λ k q.
      ap (λ (x : ℕ). tally n (row_end (columns_at S x) s b >>= λ e. scan S s fuel (after v) e >>= λ es. ok (child_element v (cut s b (e - b)) ∷ es)))
      (sym (known_number at (child_number S v) k q))
      ∙ left_data fuel n b (child_row v) (λ e. child_element v (cut s b (e - b))) h (λ e es. child_adds v _ es))
      ∙ sym (bind_bind (known_child at (child_number S v)) _ _)

  left_change :
      (fuel n at b v : ℕ) (before : Before) → b ≤ length s →
      tally n
      (check (follows before v) 11 at >>= λ _.
      known_child at (child_number S v) >>= λ k.
      update_end (columns_at S k) s b >>= λ e. scan S s fuel other e >>= λ es. ok (change_element v (cut s b (e - b)) ∷ es))
      ≡ ((check (follows before v) 11 at >>= λ _.
      known_child at (child_number S v) >>= λ _. row_from S n b (change_row v))
      >>= left fuel)
  left_change fuel n at b v before h =
      bind_bind (check (follows before v) 11 at) _ _
      ∙ bind_same (check (follows before v) 11 at) _ _
      (λ _ _.
      bind_bind (known_child at (child_number S v)) _ _
      ∙ bind_same (known_child at (child_number S v)) _ _
      (λ k q.
      ap (λ (x : ℕ). tally n (update_end (columns_at S x) s b >>= λ e. scan S s fuel other e >>= λ es. ok (change_element v (cut s b (e - b)) ∷ es)))
      (sym (known_number at (child_number S v) k q))
      ∙ left_data fuel n b (change_row v) (λ e. change_element v (cut s b (e - b))) h (λ e es. change_adds v _ es))
      ∙ sym (bind_bind (known_child at (child_number S v)) _ _))
      ∙ sym (bind_bind (check (follows before v) 11 at) _ _)

  left_delete :
      (fuel n at b v : ℕ) (before : Before) →
      tally n (check (follows before v) 11 at >>= λ _. scan S s fuel other b >>= λ es. ok (delete_element v ∷ es))
      ≡ ((check (follows before v) 11 at >>= λ _. ok (between n b other)) >>= left fuel)
  left_delete fuel n at b v before =
      bind_bind (check (follows before v) 11 at) _ _
      ∙ bind_same (check (follows before v) 11 at) _ _
      (λ _ _. tally_cons n 0 (delete_element v) (scan S s fuel other b) (delete_adds v) ∙ ap (λ (m : ℕ). tally m (scan S s fuel other b)) (add-zero n))
      ∙ sym (bind_bind (check (follows before v) 11 at) _ _)

  -- A length.
  left_prefix :
      (fuel n start v : ℕ) (k : Kind) (map : Bytes) (c : Column) (j : ℕ) → start + prefix_size c ≤ length s →
      int_at s start (prefix_size c) ≡ v →
      (variable_at c s start >>= λ f. fields_of k map (drop j (marks_for S k)) f.end >>= onward fuel n k)
      ≡ (measured S n start (start + prefix_size c) c v k map j >>= left fuel)
  unfolding variable_at read_int bytes_at measured
  left_prefix fuel n start v k map c j h i =
      rw (whole_fits s start (prefix_size c) h, i)
      (bind_bind (allowed (length_error c v) start) _ _
      ∙ bind_same (allowed (length_error c v) start) _ _
      (λ _ _.
      bind_bind (whole s (start + prefix_size c) v) _ _
      ∙ sym
      (left_body fuel n (start + prefix_size c) v k map j (drop j (marks_for S k)) _ refl h (λ z. left_seek_from fuel n (start + prefix_size c + v) k map j (omega arith))))
      ∙ sym (bind_bind (allowed (length_error c v) start) _ _))

  -- an id that is whole
  held_id : (start : ℕ) (held : Bytes) → length held ≡ 4 → from start (read_int held 0 4) ≡ ok (int_at held 0 4)
  held_id start held l = ap (from start) (int_fits held 0 4 (omega arith))

  -- Judging a whole piece leaves the answer.
  pub left_judged :
      (fuel n start e : ℕ) (held : Bytes) (g : Stage) → Piece s start e held → length held ≡ size S g → Seated g start →
      left_at fuel n start g ≡ (judge S n start held g >>= left fuel)
  unfolding judge scan element
  left_judged fuel n start e held (child_id at) p l a =
      let b : start + 4 ≤ length s = omega (arith, p.ends, p.inside) in
      let q : int_at s (at + 1) 4 ≡ int_at held 0 4 = ap (λ (x : ℕ). int_at s x 4) (sym a) ∙ int_piece s start e 4 held p l in
      let w : whole s (at + 1) 4 ≡ ok (start + 4) = ap (λ (x : ℕ). whole s x 4) (sym a) ∙ whole_fits s start 4 b in
      rw (w, q, held_id start held l, l) (left_child fuel n at (start + 4) (int_at held 0 4) b)
  left_judged fuel n start e held (change_id before at) p l a =
      let b : start + 4 ≤ length s = omega (arith, p.ends, p.inside) in
      let q : int_at s (at + 1) 4 ≡ int_at held 0 4 = ap (λ (x : ℕ). int_at s x 4) (sym a) ∙ int_piece s start e 4 held p l in
      let w : whole s (at + 1) 4 ≡ ok (start + 4) = ap (λ (x : ℕ). whole s x 4) (sym a) ∙ whole_fits s start 4 b in
      rw (w, q, held_id start held l, l) (left_change fuel n at (start + 4) (int_at held 0 4) before b)
  left_judged fuel n start e held (delete_id before at) p l a =
      let b : start + 4 ≤ length s = omega (arith, p.ends, p.inside) in
      let q : int_at s (at + 1) 4 ≡ int_at held 0 4 = ap (λ (x : ℕ). int_at s x 4) (sym a) ∙ int_piece s start e 4 held p l in
      let w : whole s (at + 1) 4 ≡ ok (start + 4) = ap (λ (x : ℕ). whole s x 4) (sym a) ∙ whole_fits s start 4 b in
      rw (w, q, held_id start held l, l) (left_delete fuel n at (start + 4) (int_at held 0 4) before)
  left_judged fuel n start e held (maps k) p l a = left_mapped fuel n start e held k p l
  left_judged fuel n start e held (prefix k map j) p l a =
      let r : from start (read_int held 0 (prefix_size (column_for S k j))) ≡ ok (int_at held 0 (prefix_size (column_for S k j))) =
      ap (from start) (int_fits held 0 (prefix_size (column_for S k j)) (omega arith)) in
      rw (r, l)
      (left_prefix fuel n start (int_at held 0 (prefix_size (column_for S k j))) k map (column_for S k j) (suc j)
      (omega (arith, p.ends, p.inside)) (int_piece s start e (prefix_size (column_for S k j)) held p l))
