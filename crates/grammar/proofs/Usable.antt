-- The table of an accepted section can be used: each row is of one of the four kinds, and where its starts lead look-ups answer at every
-- column, by the row's own bytes alone.
-- Assumes nothing.
use Prim.Native.Nat.{ℕ, zero, suc, ◌+◌, ◌≤◌, ◌<◌}
use mathlib.Core.Path.{◌≡◌, refl, sym, ◌∙◌}
use mathlib.Core.List.{List, [], ◌∷◌, ◌++◌, append-nil}
use mathlib.Core.Option.{some}
use native.Mathlib.Omega.{arith}
use lib.ListN.{length, drop, get_or, length-append}
use lib.Seq.{take-append_seam, take-length, drop-length}
use Rattle.wire.specs.Read.{Bytes, ok}
use Rattle.wire.proofs.Pieces.{Piece, here}
use Rattle.column.specs.declared.column.Column.{Column}
use Rattle.walk.specs.Rows.{Answer, look_up}
use Rattle.walk.specs.Updates.{UpdateAnswer, field, null, unchanged, chapter, look_update, Current, updated, forced, original, current}
use Rattle.walk.proofs.Later.{Agree, accepted_later}
use Rattle.walk.proofs.Shift.{inner_row_looks_up, inner_update_looks_up}
use Rattle.walk.proofs.UpdateLaws.{current_updated, current_forced, current_unchanged, current_chapter, from_row_lem}
use Rattle.walk.proofs.UpdateLater.{examined_later}
use Rattle.tree.specs.Schemas.{Schema, child_number}
use Rattle.grammar.specs.Grammar.{Original, Update, Element, Before, after, columns_at, Split, done, parent, child, change, delete, Row, entry, child_kind, update_start, rows}
use Rattle.grammar.specs.Reader.{section}
use Rattle.grammar.proofs.Rows.{row_complete, update_complete}
use Rattle.grammar.proofs.Sections.{token_here}
use Rattle.grammar.proofs.Demand.{table_iff_split, after_id}

-- Original row data stand at `at`: every column looks up in what starts there, and as in the row alone.
pub record RowAt (columns : List Column) (s : Bytes) (at : ℕ) : Type 0 where
  pub row : Bytes
  pub end : ℕ
  pub is_row : Original columns row
  pub stands : Piece s at end row
  pub looks_up : (j : ℕ) → j < length columns → (a : Answer) × (look_up columns (drop at s) j ≡ ok a)
  pub own_bytes : (j : ℕ) → look_up columns (drop at s) j ≡ look_up columns row j

-- Update row data stand at `at`, likewise.
pub record UpdateAt (columns : List Column) (s : Bytes) (at : ℕ) : Type 0 where
  pub update : Bytes
  pub end : ℕ
  pub is_update_lem : Update columns update
  pub stands : Piece s at end update
  pub looks_up : (j : ℕ) → j < length columns → (a : UpdateAnswer) × (look_update columns (drop at s) j ≡ ok a)
  pub own_bytes : (j : ℕ) → look_update columns (drop at s) j ≡ look_update columns update j

-- A row of the table that can be used.
pub data Usable (S : List Schema) (s : Bytes) : Row → Type 0 where
  parent_row : {o : ℕ} → RowAt (columns_at S 0) s o → Usable S s (entry 1 0 o 0)
  unchanged_row : {id k o : ℕ} → child_number S id ≡ some k → RowAt (columns_at S k) s o → Usable S s (entry 2 id o 0)
  changed_row : {id k o u : ℕ} → child_number S id ≡ some k → RowAt (columns_at S k) s o → UpdateAt (columns_at S k) s u → Usable S s (entry 3 id o u)
  deleted_row : {id k o : ℕ} → child_number S id ≡ some k → RowAt (columns_at S k) s o → Usable S s (entry 4 id o 0)

-- P holds of each.
pub data Each {A : Type 0} (P : A → Type 0) : List A → Type 0 where
  each_end : Each P []
  each_next : {a : A} {l : List A} → P a → Each P l → Each P (a ∷ l)

-- One row.

-- a piece agrees with what starts where it does
piece_agrees : {s : Bytes} {a b : ℕ} {x : Bytes} → Piece s a b x → Agree x (drop a s) (length x)
piece_agrees {s} {a} {b} {x} p =
    record {
      same = take-length x ∙ sym (rw p.splits (take-append_seam x (drop b s)));
      long = rw (p.splits, length-append) (omega arith);
    }

-- bytes are a piece of themselves
whole_piece : (x : Bytes) → Piece x 0 (length x) x
whole_piece x = record { ends = omega arith; inside = omega arith; splits = rw drop-length (sym (append-nil x)) }

pub row_at : {columns : List Column} {s : Bytes} {at e : ℕ} {x : Bytes} → Original columns x → Piece s at e x → RowAt columns s at
row_at {columns} {s} {at} {e} {x} O p =
    record {
      row = x;
      end = e;
      is_row = O;
      stands = p;
      looks_up = λ j h. inner_row_looks_up columns s at e j (row_complete O p) h;
      own_bytes = λ j. accepted_later columns x (drop at s) (length x) j (row_complete O (whole_piece x)) (piece_agrees p);
    }

pub update_at : {columns : List Column} {s : Bytes} {at e : ℕ} {x : Bytes} → Update columns x → Piece s at e x → UpdateAt columns s at
update_at {columns} {s} {at} {e} {x} U p =
    record {
      update = x;
      end = e;
      is_update_lem = U;
      stands = p;
      looks_up = λ j h. inner_update_looks_up columns s at e j (update_complete U p) h;
      own_bytes = λ j. examined_later columns x (drop at s) (length x) j (update_complete U (whole_piece x)) (piece_agrees p);
    }

-- a changed row has a current value at every column
pub current_value :
    {columns : List Column} {s : Bytes} {o u : ℕ} → RowAt columns s o → UpdateAt columns s u → (j : ℕ) → j < length columns →
    (a : Current) × (current columns (drop o s) (drop u s) j ≡ ok a)
current_value {columns} {s} {o} {u} r v j h =
    let (a, e) = v.looks_up j h in
    let (b, f) = r.looks_up j h in
    go a e b f
  where
    go :
        (a : UpdateAnswer) → look_update columns (drop u s) j ≡ ok a → (b : Answer) → look_up columns (drop o s) j ≡ ok b →
        (a : Current) × (current columns (drop o s) (drop u s) j ≡ ok a)
    go (field f) e b g = (updated f, current_updated columns (drop o s) (drop u s) j f e)
    go null e b g = (forced, current_forced columns (drop o s) (drop u s) j e)
    go unchanged e b g = (original b, current_unchanged columns (drop o s) (drop u s) j e ∙ from_row_lem b g)
    go chapter e b g = (original b, current_chapter columns (drop o s) (drop u s) j e ∙ from_row_lem b g)

-- The rows of a split.

-- the row of an 87, by what follows it
child_usable :
    {S : List Schema} {id k o : ℕ} {bytes : Bytes} {es : List Element} → child_number S id ≡ some k → Split S (after id) bytes es → (s : Bytes) (at : ℕ) →
    at ≤ length s → drop at s ≡ bytes → RowAt (columns_at S k) s o → Usable S s (entry (child_kind es) id o (update_start at es))
unfolding child_kind update_start
child_usable q done s at h d r = unchanged_row q r
child_usable q (parent _ _) s at h d r = unchanged_row q r
child_usable q (child _ _ _ _) s at h d r = unchanged_row q r
child_usable {S} {id} {k} {o} q (change {k = j} {ids = ids} {row = x} {rest = y} w q' U sp) s at h d r =
    let (i, d') = after_id s at 0x8A ids (x ++ y) h d w.four in
    let (p, _) = here s (at + 5) x y i d' in
    let z : j ≡ k = cc in
    let r' : RowAt (columns_at S j) s o = rw z r in
    changed_row q' r' (update_at U p)
child_usable q (delete _ _) s at h d r = deleted_row q r

split_usable :
    {S : List Schema} {b : Before} {bytes : Bytes} {es : List Element} → Split S b bytes es → (s : Bytes) (at : ℕ) → at ≤ length s → drop at s ≡ bytes →
    Each (Usable S s) (rows at es)
unfolding rows
split_usable done s at h d = each_end
split_usable (parent {row = x} {rest = y} O sp) s at h d =
    let (i, _, r) = token_here s at 0x07 (x ++ y) h d in
    let (p, r') = here s (at + 1) x y (omega arith) r in
    each_next (parent_row (row_at O p)) (split_usable sp s _ p.inside r')
split_usable (child {ids = ids} {row = x} {rest = y} w k O sp) s at h d =
    let (i, r) = after_id s at 0x87 ids (x ++ y) h d w.four in
    let (p, r') = here s (at + 5) x y i r in
    each_next (child_usable k sp s _ p.inside r' (row_at O p)) (split_usable sp s _ p.inside r')
split_usable (change {ids = ids} {row = x} {rest = y} w k U sp) s at h d =
    let (i, r) = after_id s at 0x8A ids (x ++ y) h d w.four in
    let (p, r') = here s (at + 5) x y i r in
    split_usable sp s _ p.inside r'
split_usable (delete {ids = ids} {rest = y} w sp) s at h d =
    let (i, r) = after_id s at 0x8C ids y h d w.four in
    split_usable sp s _ i r

pub rows_usable : (S : List Schema) (s : Bytes) (rs : List Row) → section S s ≡ ok rs → Each (Usable S s) rs
rows_usable S s rs e =
    let (es, sp, z) = (table_iff_split S s rs).0 e in
    rw (← z) (split_usable sp s 0 (omega arith) refl)

-- row i of the table
each_at : {A : Type 0} {P : A → Type 0} {l : List A} (i : ℕ) (d : A) → i < length l → Each P l → P (get_or l i d)
each_at i d h each_end = absurd (omega arith)
each_at zero d h (each_next p q) = p
each_at (suc i) d h (each_next p q) = each_at i d (omega arith) q

pub row_usable : (S : List Schema) (s : Bytes) (rs : List Row) → section S s ≡ ok rs → (i : ℕ) → i < length rs → Usable S s (get_or rs i (entry 0 0 0 0))
row_usable S s rs e i h = each_at i (entry 0 0 0 0) h (rows_usable S s rs e)
