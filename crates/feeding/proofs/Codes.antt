-- Every refusal has one of the numbers from 1 to 20: of a byte, of a fragment, of the close and of the schema file.
-- Assumes nothing.
use Prim.Native.Nat.{ℕ, zero, suc, ◌+◌, ◌-◌, ◌*◌, ◌/◌, ◌%◌, ◌≤◌}
use mathlib.Core.List.{List, [], ◌∷◌, ◌++◌}
use mathlib.Core.Bool.{Bool, true, false, not}
use mathlib.Core.Path.{◌≡◌, refl}
use mathlib.Core.Option.{Option, none, some}
use native.Mathlib.Omega.{arith}
use lib.ListN.{length, drop}
use lib.Dec.{leb, ltb, eqb}
use Rattle.wire.specs.declared.error.Input.{Input}
use Rattle.wire.specs.declared.error.Input.TheVariants as input
use Rattle.wire.specs.Read.{Bytes, Read, ok, bad, ◌>>=◌, pick, check, about, limit, sized_by, sized, whole}
use Rattle.wire.specs.Integers.{read_int}
use Rattle.column.specs.declared.column.Column.{Column}
use Rattle.column.specs.Columns.{width, is_variable, is_wide, greatest, prefix_size, length_error_of, length_error}
use Rattle.column.specs.Fields.{allowed}
use Rattle.walk.specs.Presence.{presence_bytes, Mark, marks, chapter_present, clear}
use Rattle.walk.specs.Rows.{opened}
use Rattle.walk.specs.Updates.{update_bytes, numbered, chapter_marked, force_broken, update_opened}
use Rattle.walk.specs.Data.{data_opened}
use Rattle.tree.specs.Tree.{Tree}
use Rattle.tree.specs.Reader.{read_file, file_of}
use Rattle.tree.specs.Schemas.{Schema, child_number, read_schemas}
use Rattle.tree.proofs.Errors.{ErrorAt, short, form, out_of_range, too_much, repeated, bytes_after, refused_where}
use Rattle.grammar.specs.Grammar.{Before}
use Rattle.grammar.specs.Reader.{Token, parent_token, child_token, change_token, delete_token, done_token, unknown_token, token_of, known_child, follows}
use Rattle.feeding.specs.Machine.{Kind, parent_row, child_row, change_row, is_update, columns_for, column_for, marks_for, has_for, map_size, from, Stage, child_id, change_id, delete_id, maps, prefix, State, between, keep, skip, finished, stopped, settle, body_of, seek, seek_from, mapped, row_by, row_from, tokened, measured, judge, byte, closed}
use Rattle.feeding.specs.Feeding.{total, over, next, take_in, file_schemas}

abbrev pub Code : ℕ → Type 0
Code code = (1 ≤ code) × (code ≤ 20)

-- An answer, or an error with such a number.
abbrev pub Coded : {A : Type 0} → Read A → Type 0
Coded (ok a) = Unit {0}
Coded (bad code offset name) = Code code

-- A state that has not stopped, or with such a number.
abbrev pub CodedState : State → Type 0
CodedState (between n at before) = Unit {0}
CodedState (keep n start held more g) = Unit {0}
CodedState (skip n at more k map j) = Unit {0}
CodedState (finished n at) = Unit {0}
CodedState (stopped code offset name) = Code code

-- What readers are made of.
coded_bind : {A B : Type 0} (r : Read A) (g : A → Read B) → Coded r → ((a : A) → Coded (g a)) → Coded (r >>= g)
coded_bind (ok a) g h k = k a
coded_bind (bad c o i) g h k = h

coded_check : (t : Bool) (code offset : ℕ) → Code code → Coded (check t code offset)
unfolding check
coded_check true code offset h = tt
coded_check false code offset h = h

coded_about : {A : Type 0} (name : Input) (r : Read A) → Coded r → Coded (about name r)
unfolding about
coded_about name (ok a) h = tt
coded_about name (bad c o i) h = h

coded_from : {A : Type 0} (at : ℕ) (r : Read A) → Coded r → Coded (from at r)
coded_from at (ok a) h = tt
coded_from at (bad c o i) h = h

coded_whole : (s : Bytes) (at n : ℕ) → Coded (whole s at n)
unfolding whole
coded_whole s at n = coded_bind (check (leb (at + n) (length s)) 1 (length s)) _ (coded_check _ 1 (length s) (omega arith, omega arith)) (λ _. tt)

coded_int : (s : Bytes) (at size : ℕ) → Coded (read_int s at size)
unfolding read_int
coded_int s at size = coded_bind (whole s at size) _ (coded_whole s at size) (λ _. tt)

coded_clear : (broken : Mark → Bool) (code at : ℕ) (ms : List Mark) → Code code → Coded (clear broken code at ms)
unfolding clear
coded_clear broken code at [] h = tt
coded_clear broken code at (m ∷ ms) h =
    coded_bind (check (not (broken m)) code (at + m.bit / 8)) _ (coded_check _ code (at + m.bit / 8) h) (λ _. coded_clear broken code at ms h)

-- The pieces of a section: 1, 10, 12, 13, 14.
coded_opened : (update : Bool) (cs : List Column) (s : Bytes) (at : ℕ) → Coded (data_opened update cs s at)
unfolding opened update_opened
coded_opened true cs s at =
    coded_bind (whole s at (2 * update_bytes cs)) _ (coded_whole s at (2 * update_bytes cs))
    (λ _.
    coded_bind (clear (chapter_marked (drop at s)) 12 at (numbered 0 cs)) _ (coded_clear _ 12 at (numbered 0 cs) (omega arith, omega arith))
    (λ _.
    coded_bind (clear (chapter_marked (drop (at + update_bytes cs) s)) 12 (at + update_bytes cs) (numbered 0 cs)) _
    (coded_clear _ 12 (at + update_bytes cs) (numbered 0 cs) (omega arith, omega arith))
    (λ _.
    coded_bind (clear (force_broken (drop at s) (drop (at + update_bytes cs) s)) 13 (at + update_bytes cs) (numbered 0 cs)) _
    (coded_clear _ 13 (at + update_bytes cs) (numbered 0 cs) (omega arith, omega arith)) (λ _. tt))))
coded_opened false cs s at =
    coded_bind (whole s at (presence_bytes cs)) _ (coded_whole s at (presence_bytes cs))
    (λ _. coded_bind (clear (chapter_present (drop at s)) 12 at (marks 0 cs)) _ (coded_clear _ 12 at (marks 0 cs) (omega arith, omega arith)) (λ _. tt))

coded_child : (at : ℕ) (k : Option ℕ) → Coded (known_child at k)
unfolding known_child
coded_child at none = (omega arith, omega arith)
coded_child at (some k) = tt

coded_length : (c : Column) (size at : ℕ) → Coded (allowed (length_error c size) at)
unfolding allowed length_error length_error_of
coded_length c size at = go (is_variable c) (leb size (greatest c)) (is_wide c) (eqb (size % 2) 0)
  where
    go : (v l w e : Bool) → Coded (allowed (pick v (pick l (pick w (pick e 0 14) 0) 14) 0) at)
    go false l w e = tt
    go true false w e = (omega arith, omega arith)
    go true true false e = tt
    go true true true true = tt
    go true true true false = (omega arith, omega arith)

-- The states.
module _ (S : List Schema) where
  coded_after : {A : Type 0} (r : Read A) (g : A → Read State) → Coded r → ((a : A) → CodedState (settle (g a))) → CodedState (settle (r >>= g))
  coded_after (ok a) g h k = k a
  coded_after (bad c o i) g h k = h

  coded_body : (n at size : ℕ) (k : Kind) (map : Bytes) (j : ℕ) (st : State) → CodedState st → CodedState (body_of n at size k map j st)
  coded_body n at zero k map j st h = h
  coded_body n at (suc more) k map j st h = tt

  coded_seek : (n at : ℕ) (k : Kind) (map : Bytes) (j : ℕ) (ms : List Mark) → CodedState (seek S n at k map j ms)
  unfolding seek
  coded_seek n at k map j [] = tt
  coded_seek n at k map j (m ∷ ms) = go (λ a. coded_seek n a k map (suc j) ms) (has_for S k map m) (is_variable m.column)
    where
      go :
          ((a : ℕ) → CodedState (seek S n a k map (suc j) ms)) → (t v : Bool) →
          CodedState
          (pick t
          (pick v (keep n at [] (prefix_size m.column - 1) (prefix k map j))
          (body_of n at (width m.column) k map (suc j) (seek S n (at + width m.column) k map (suc j) ms)))
          (seek S n at k map (suc j) ms))
      go ih true true = tt
      go ih true false =
          coded_body n at (width m.column) k map (suc j) (seek S n (at + width m.column) k map (suc j) ms) (ih (at + width m.column))
      go ih false v = ih at

  coded_seek_from : (n at : ℕ) (k : Kind) (map : Bytes) (j : ℕ) → CodedState (seek_from S n at k map j)
  coded_seek_from n at k map j = coded_seek n at k map j (drop j (marks_for S k))

  coded_mapped : (n start : ℕ) (held : Bytes) (k : Kind) → CodedState (settle (mapped S n start held k))
  unfolding mapped
  coded_mapped n start held k =
      coded_after (from start (data_opened (is_update k) (columns_for S k) held 0)) _
      (coded_from start (data_opened (is_update k) (columns_for S k) held 0) (coded_opened (is_update k) (columns_for S k) held 0))
      (λ _. coded_seek_from n (start + length held) k held 0)

  coded_row : (n at : ℕ) (k : Kind) → CodedState (settle (row_from S n at k))
  coded_row n at k = go (map_size S k)
    where
      go : (size : ℕ) → CodedState (settle (row_by S n at size k))
      go zero = coded_mapped n at [] k
      go (suc more) = tt

  coded_tokened : (n at : ℕ) (before : Before) (t : Token) → CodedState (settle (tokened S n at before t))
  unfolding tokened
  coded_tokened n at before done_token = tt
  coded_tokened n at before parent_token = coded_row n (at + 1) parent_row
  coded_tokened n at before child_token = tt
  coded_tokened n at before change_token = tt
  coded_tokened n at before delete_token = tt
  coded_tokened n at before unknown_token = (omega arith, omega arith)

  coded_held : (start : ℕ) (held : Bytes) (size : ℕ) → Coded (from start (read_int held 0 size))
  coded_held start held size = coded_from start (read_int held 0 size) (coded_int held 0 size)

  coded_pair : (before : Before) (id at : ℕ) → Coded (check (follows before id) 11 at)
  coded_pair before id at = coded_check (follows before id) 11 at (omega arith, omega arith)

  coded_judged : (n start : ℕ) (held : Bytes) (g : Stage) → CodedState (settle (judge S n start held g))
  unfolding judge measured
  coded_judged n start held (child_id at) =
      coded_after (from start (read_int held 0 4)) _ (coded_held start held 4)
      (λ id.
      coded_after (known_child at (child_number S id)) _ (coded_child at (child_number S id)) (λ _. coded_row n (start + length held) (child_row id)))
  coded_judged n start held (change_id before at) =
      coded_after (from start (read_int held 0 4)) _ (coded_held start held 4)
      (λ id.
      coded_after (check (follows before id) 11 at) _ (coded_pair before id at)
      (λ _.
      coded_after (known_child at (child_number S id)) _ (coded_child at (child_number S id)) (λ _. coded_row n (start + length held) (change_row id))))
  coded_judged n start held (delete_id before at) =
      coded_after (from start (read_int held 0 4)) _ (coded_held start held 4)
      (λ id. coded_after (check (follows before id) 11 at) _ (coded_pair before id at) (λ _. tt))
  coded_judged n start held (maps k) = coded_mapped n start held k
  coded_judged n start held (prefix k map j) =
      coded_after (from start (read_int held 0 (prefix_size (column_for S k j)))) _ (coded_held start held (prefix_size (column_for S k j)))
      (λ v.
      coded_after (allowed (length_error (column_for S k j) v) start) _ (coded_length (column_for S k j) v start)
      (λ _.
      coded_body n (start + length held) v k map (suc j) (seek_from S n (start + length held + v) k map (suc j))
      (coded_seek_from n (start + length held + v) k map (suc j))))

  pub coded_byte : (st : State) (b : ℕ) → CodedState st → CodedState (byte S st b)
  unfolding byte
  coded_byte (between n at before) b h = coded_tokened n at before (token_of b)
  coded_byte (keep n start held zero g) b h = coded_judged n start (held ++ (b ∷ [])) g
  coded_byte (keep n start held (suc more) g) b h = tt
  coded_byte (skip n at zero k map j) b h = coded_seek_from n (at + 1) k map j
  coded_byte (skip n at (suc more) k map j) b h = tt
  coded_byte (finished n at) b h = (omega arith, omega arith)
  coded_byte (stopped c o i) b h = h

  coded_over : (st : State) → CodedState st → CodedState (over st)
  coded_over (between n at before) h = (omega arith, omega arith)
  coded_over (keep n start held more g) h = (omega arith, omega arith)
  coded_over (skip n at more k map j) h = (omega arith, omega arith)
  coded_over (finished n at) h = (omega arith, omega arith)
  coded_over (stopped c o i) h = h

  coded_next : (st : State) (b : ℕ) → CodedState st → CodedState (next S st b)
  unfolding next
  coded_next st b h = go (ltb (total st) limit)
    where
      go : (t : Bool) → CodedState (pick t (byte S st b) (over st))
      go true = coded_byte st b h
      go false = coded_over st h

  pub coded_taken : (st : State) (f : Bytes) → CodedState st → CodedState (take_in S st f)
  unfolding take_in
  coded_taken st [] h = h
  coded_taken st (b ∷ f) h = coded_taken (next S st b) f (coded_next st b h)

-- The close.
pub coded_closed : (st : State) → CodedState st → Coded (closed st)
coded_closed (between n at before) h = (omega arith, omega arith)
coded_closed (keep n start held more g) h = (omega arith, omega arith)
coded_closed (skip n at more k map j) h = (omega arith, omega arith)
coded_closed (finished n at) h = tt
coded_closed (stopped c o i) h = h

-- The schema file.
error_code : {n code offset : ℕ} → ErrorAt n code offset → Code code
error_code (short h) = (omega arith, omega arith)
error_code (form h) = (omega arith, omega arith)
error_code (out_of_range h) = (omega arith, omega arith)
error_code (too_much h) = (omega arith, omega arith)
error_code (repeated h) = (omega arith, omega arith)
error_code (bytes_after h) = (omega arith, omega arith)

coded_sized : (s : Bytes) → Coded (sized s)
unfolding sized sized_by
coded_sized s = coded_check (leb (length s) limit) 19 0 (omega arith, omega arith)

coded_read : (b : Bytes) → Coded (read_file b)
coded_read b = go (read_file b) refl
  where
    go : (r : Read Tree) → read_file b ≡ r → Coded r
    go (ok t) e = tt
    go (bad c o i) e = error_code (refused_where b c o i e).0

pub coded_file : (file : Bytes) → Coded (file_schemas file)
unfolding file_schemas read_schemas file_of
coded_file file =
    coded_bind (about input.Schema (sized file)) _ (coded_about input.Schema (sized file) (coded_sized file))
    (λ _.
    coded_about input.Schema (read_schemas file)
    (coded_bind (file_of file) _ (coded_bind (sized file) _ (coded_sized file) (λ _. coded_read file)) (λ _. tt)))
