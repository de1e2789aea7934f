-- Fed byte by byte, the state comes to the answer of the whole reader.
-- Assumes nothing.
use Prim.Native.Nat.{ℕ, zero, suc, ◌+◌, ◌-◌, ◌≤◌, ◌<◌}
use mathlib.Core.List.{List, [], ◌∷◌, ◌++◌}
use mathlib.Core.Bool.{Bool, true, false}
use mathlib.Core.Path.{◌≡◌, refl, sym, ap, ◌∙◌, subst}
use native.Mathlib.Omega.{arith}
use lib.ListN.{length, get_or, drop, length-append, length-drop}
use lib.Seq.{drop-cons}
use lib.Dec.{ltb}
use borrow.Author.Tests.{eq-eqb, ne_eqb}
use Rattle.wire.specs.declared.error.Input.{Input}
use Rattle.wire.specs.declared.error.Input.TheVariants.{Single}
use Rattle.wire.specs.Read.{Bytes, Read, ok, bad, ◌>>=◌, pick, check, whole}
use Rattle.wire.specs.Integers.{read_int}
use Rattle.wire.proofs.Laws.{whole_fits, whole_short}
use Rattle.wire.proofs.Pieces.{Piece, join, here, piece_to, bind_same, bind_bind}
use Rattle.column.specs.declared.column.Column.{Column}
use Rattle.column.specs.Columns.{width, is_variable, prefix_size, length_error}
use Rattle.column.specs.Fields.{allowed}
use Rattle.column.proofs.Laws.{variable_short}
use Rattle.walk.specs.Presence.{Mark, no_mark}
use Rattle.walk.specs.Data.{data_opened}
use Rattle.walk.proofs.Laws.{bind_of, bind_bad, opened_short, end_closed}
use Rattle.walk.proofs.UpdateLaws.{update_short, update_end_closed}
use Rattle.tree.specs.Schemas.{Schema, child_number}
use Rattle.grammar.specs.Grammar.{Before, other, Row, rows}
use Rattle.section.specs.Table.{row_count}
use Rattle.grammar.specs.Reader.{Token, parent_token, child_token, change_token, delete_token, done_token, unknown_token, token_of, known_child, follows, element, scan, elements, section}
use Rattle.feeding.specs.Machine.{Kind, parent_row, child_row, change_row, is_update, columns_for, column_for, marks_for, has_for, map_size, from, Stage, child_id, change_id, delete_id, maps, prefix, State, keep, skip, finished, stopped, between, settle, body_of, seek, seek_from, mapped, row_by, row_from, tokened, measured, judge, byte, feed, start, closed}
use Rattle.feeding.proofs.Left.{fields_of, onward, left_at, left, column_left, left_rest, left_settled, left_seek_from, left_token, left_judged, nothing_yet, size, Seated}

pub prefix_positive : (c : Column) → 0 < prefix_size c
unfolding prefix_size
prefix_positive c = go (ltb c.maximum 256)
  where
    go : (t : Bool) → 0 < pick t 1 4
    go true = omega arith
    go false = omega arith

module _ (S : List Schema) (s : Bytes) where
  -- A state that stands at place p of the input, with enough fuel for what is left.
  abbrev Ready : ℕ → ℕ → State → Type 0
  Ready fuel p (between n at before) = (at ≡ p) × (p ≤ length s) × (length s < fuel + p)
  Ready fuel p (keep n start held more g) = (Piece s start p held) × (length held + suc more ≡ size S g) × Seated g start × (length s < fuel + start)
  Ready fuel p (skip n at more k map j) = (at ≡ p) × (p ≤ length s) × (length s < fuel + p)
  Ready fuel p (finished n at) = (at ≡ p) × (p ≤ length s)
  Ready fuel p (stopped code offset name) = Unit {0}

  ready_after : {A : Type 0} (fuel p : ℕ) (r : Read A) (g : A → Read State) → ((a : A) → Ready fuel p (settle (g a))) → Ready fuel p (settle (r >>= g))
  ready_after fuel p (ok a) g h = h a
  ready_after fuel p (bad c o i) g h = tt

  ready_body :
      (fuel n at more : ℕ) (k : Kind) (map : Bytes) (j : ℕ) (st : State) → at ≤ length s → length s < fuel + at →
      (more ≡ 0 → Ready fuel at st) → Ready fuel at (body_of n at more k map j st)
  ready_body fuel n at zero k map j st h f g = g refl
  ready_body fuel n at (suc more) k map j st h f g = (refl, h, f)

  ready_seek :
      (fuel n at p : ℕ) (k : Kind) (map : Bytes) (j : ℕ) (ms : List Mark) → drop j (marks_for S k) ≡ ms → at ≡ p → at ≤ length s → length s < fuel + at →
      Ready fuel p (seek S n at k map j ms)
  unfolding seek
  ready_seek fuel n at p k map j [] q e h f = (e, omega arith, omega arith)
  ready_seek fuel n at p k map j (m ∷ ms) q e h f =
      go (λ a i u l. ready_seek fuel n a p k map (suc j) ms (left_rest (marks_for S k) j no_mark m ms q) i u l) (has_for S k map m) (is_variable m.column)
    where
      go :
          ((a : ℕ) → a ≡ p → a ≤ length s → length s < fuel + a → Ready fuel p (seek S n a k map (suc j) ms)) → (t v : Bool) →
          Ready fuel p
          (pick t
          (pick v (keep n at [] (prefix_size m.column - 1) (prefix k map j))
          (body_of n at (width m.column) k map (suc j) (seek S n (at + width m.column) k map (suc j) ms)))
          (seek S n at k map (suc j) ms))
      go ih true true =
          let c : prefix_size (column_for S k j) ≡ prefix_size m.column = ap prefix_size (column_left S k j m ms q) in
          (piece_to e (nothing_yet S s at h), omega (arith, prefix_positive m.column), tt, f)
      go ih true false =
          subst (λ (x : ℕ). Ready fuel x (body_of n at (width m.column) k map (suc j) (seek S n (at + width m.column) k map (suc j) ms))) e
          (ready_body fuel n at (width m.column) k map (suc j) (seek S n (at + width m.column) k map (suc j) ms) h f
          (λ z. subst (λ (x : ℕ). Ready fuel x (seek S n (at + width m.column) k map (suc j) ms)) (sym e) (ih (at + width m.column) (omega arith) (omega arith) (omega arith))))
      go ih false v = ih at e h f

  ready_seek_from :
      (fuel n at p : ℕ) (k : Kind) (map : Bytes) (j : ℕ) → at ≡ p → at ≤ length s → length s < fuel + at → Ready fuel p (seek_from S n at k map j)
  ready_seek_from fuel n at p k map j e h f = ready_seek fuel n at p k map j (drop j (marks_for S k)) refl e h f

  ready_mapped :
      (fuel n start p : ℕ) (held : Bytes) (k : Kind) → start + length held ≡ p → p ≤ length s → length s < fuel + p →
      Ready fuel p (settle (mapped S n start held k))
  unfolding mapped
  ready_mapped fuel n start p held k e h f =
      ready_after fuel p (from start (data_opened (is_update k) (columns_for S k) held 0)) _
      (λ _. ready_seek_from fuel n (start + length held) p k held 0 e (omega arith) (omega arith))

  ready_row : (fuel n at : ℕ) (k : Kind) → at ≤ length s → length s < fuel + at → Ready fuel at (settle (row_from S n at k))
  ready_row fuel n at k h f = go (map_size S k) refl
    where
      go : (m : ℕ) → map_size S k ≡ m → Ready fuel at (settle (row_by S n at m k))
      go zero e = ready_mapped fuel n at at [] k (omega arith) h f
      go (suc more) e = (nothing_yet S s at h, omega arith, tt, f)

  ready_tokened :
      (fuel n at : ℕ) (before : Before) (t : Token) → at + 1 ≤ length s → length s < fuel + (at + 1) → Ready fuel (at + 1) (settle (tokened S n at before t))
  unfolding tokened
  ready_tokened fuel n at before done_token h f = (refl, h)
  ready_tokened fuel n at before parent_token h f = ready_row fuel n (at + 1) parent_row h f
  ready_tokened fuel n at before child_token h f = (nothing_yet S s (at + 1) h, refl, refl, f)
  ready_tokened fuel n at before change_token h f = (nothing_yet S s (at + 1) h, refl, refl, f)
  ready_tokened fuel n at before delete_token h f = (nothing_yet S s (at + 1) h, refl, refl, f)
  ready_tokened fuel n at before unknown_token h f = tt

  ready_measured :
      (fuel n start at v : ℕ) (c : Column) (k : Kind) (map : Bytes) (j : ℕ) → at ≤ length s → length s < fuel + at →
      Ready fuel at (settle (measured S n start at c v k map j))
  unfolding measured
  ready_measured fuel n start at v c k map j h f =
      ready_after fuel at (allowed (length_error c v) start) _
      (λ _.
      ready_body fuel n at v k map j
      (seek_from S n (at + v) k map j) h (omega arith)
      (λ z. ready_seek_from fuel n (at + v) at k map j (omega arith) (omega arith) (omega arith)))

  ready_judged :
      (fuel n start : ℕ) (held : Bytes) (g : Stage) → start + length held ≤ length s → length s < fuel + start →
      Ready fuel (start + length held) (settle (judge S n start held g))
  unfolding judge
  ready_judged fuel n start held (child_id at) h f =
      ready_after fuel (start + length held) (from start (read_int held 0 4)) _
      (λ id.
      ready_after fuel (start + length held) (known_child at (child_number S id)) _
      (λ _. ready_row fuel n (start + length held) (child_row id) h (omega arith)))
  ready_judged fuel n start held (change_id before at) h f =
      ready_after fuel (start + length held) (from start (read_int held 0 4)) _
      (λ id.
      ready_after fuel (start + length held) (check (follows before id) 11 at) _
      (λ _.
      ready_after fuel (start + length held) (known_child at (child_number S id)) _
      (λ _. ready_row fuel n (start + length held) (change_row id) h (omega arith))))
  ready_judged fuel n start held (delete_id before at) h f =
      ready_after fuel (start + length held) (from start (read_int held 0 4)) _
      (λ id.
      ready_after fuel (start + length held) (check (follows before id) 11 at) _
      (λ _. (refl, h, omega arith)))
  ready_judged fuel n start held (maps k) h f = ready_mapped fuel n start (start + length held) held k refl h (omega arith)
  ready_judged fuel n start held (prefix k map j) h f =
      ready_after fuel (start + length held) (from start (read_int held 0 (prefix_size (column_for S k j)))) _
      (λ v. ready_measured fuel n start (start + length held) v (column_for S k j) k map (suc j) h (omega arith))

  whole_next : (at n : ℕ) → whole s at (suc n) ≡ whole s (at + 1) n
  unfolding whole
  whole_next at n = let z : at + suc n ≡ at + 1 + n = omega arith in rw z

  -- One byte: the state goes on, and the answer stays.
  record Next (fuel p b : ℕ) (st : State) : Type 0 where
    fuel' : ℕ
    ready : Ready fuel' (p + 1) (byte S st b)
    same : left S s fuel st ≡ left S s fuel' (byte S st b)

  byte_next : (fuel p b : ℕ) (st : State) → Piece s p (p + 1) (b ∷ []) → Ready fuel p st → Next fuel p b st
  unfolding byte check
  byte_next fuel p b (between n at before) q (e, h, f) =
      let i : at + 1 ≤ length s = omega (arith, q.inside) in
      let d : drop p s ≡ get_or s p 0 ∷ drop (suc p) s = drop-cons s p 0 (omega arith) in
      let y : drop p s ≡ b ∷ drop (p + 1) s = q.splits in
      let w : get_or s p 0 ≡ b = cc in
      record {
        fuel' = fuel - 1;
        ready =
            subst (λ (x : ℕ). Ready (fuel - 1) (x + 1) (settle (tokened S n at before (token_of b)))) e
            (ready_tokened (fuel - 1) n at before (token_of b) i (omega arith));
        same =
            left_token S s fuel n at b before (omega arith) (ap (λ (x : ℕ). get_or s x 0) e ∙ w) (omega arith)
            ∙ sym (left_settled S s (fuel - 1) (tokened S n at before (token_of b)));
      }
  byte_next fuel p b (keep n start held zero g) q (h, l, a, f) =
      let j : Piece s start (p + 1) (held ++ (b ∷ [])) = join h q in
      let i : length (held ++ (b ∷ [])) ≡ size S g = length-append held (b ∷ []) ∙ l in
      let e : start + length (held ++ (b ∷ [])) ≡ p + 1 = sym j.ends in
      record {
        fuel' = fuel;
        ready =
            subst (λ (x : ℕ). Ready fuel x (settle (judge S n start (held ++ (b ∷ [])) g))) e
            (ready_judged fuel n start (held ++ (b ∷ [])) g (omega (arith, j.inside)) f);
        same =
            left_judged S s fuel n start (p + 1) (held ++ (b ∷ [])) g j i a
            ∙ sym (left_settled S s fuel (judge S n start (held ++ (b ∷ [])) g));
      }
  byte_next fuel p b (keep n start held (suc more) g) q (h, l, a, f) =
      record {
        fuel' = fuel;
        ready = (join h q, omega (arith, length-append held (b ∷ []), l), a, f);
        same = refl;
      }
  byte_next fuel p b (skip n at zero k map j) q (e, h, f) =
      let i : at + 1 ≤ length s = omega (arith, q.inside) in
      record {
        fuel' = fuel;
        ready = ready_seek_from fuel n (at + 1) (p + 1) k map j (omega arith) i (omega arith);
        same = bind_of _ (whole_fits s at 1 i) ∙ sym (left_seek_from S s fuel n (at + 1) k map j i);
      }
  byte_next fuel p b (skip n at (suc more) k map j) q (e, h, f) =
      record {
        fuel' = fuel;
        ready = (omega arith, q.inside, omega arith);
        same = ap (λ (r : Read ℕ). r >>= λ e. fields_of S s k map (drop j (marks_for S k)) e >>= onward S s fuel n k) (whole_next at (suc more));
      }
  byte_next fuel p b (finished n at) q (e, h) =
      record { fuel' = fuel; ready = tt; same = rw (ne_eqb (length s) at (λ z. absurd (omega (arith, q.inside)))) }
  byte_next fuel p b (stopped code offset name) q h = record { fuel' = fuel; ready = tt; same = refl }

  -- At the end of the input.
  short_piece :
      (fuel n start : ℕ) (g : Stage) → Seated g start → length s < start + size S g → left_at S s fuel n start g ≡ bad 1 (length s) Single
  unfolding element
  short_piece fuel n start (child_id at) a h = rw (whole_short s (at + 1) 4 (omega arith))
  short_piece fuel n start (change_id before at) a h = rw (whole_short s (at + 1) 4 (omega arith))
  short_piece fuel n start (delete_id before at) a h = rw (whole_short s (at + 1) 4 (omega arith))
  short_piece fuel n start (maps parent_row) a h = bind_bad _ (end_closed (columns_for S parent_row) s start (opened_short (columns_for S parent_row) s start h))
  short_piece fuel n start (maps (child_row id)) a h = bind_bad _ (end_closed (columns_for S (child_row id)) s start (opened_short (columns_for S (child_row id)) s start h))
  short_piece fuel n start (maps (change_row id)) a h =
      bind_bad _ (update_end_closed (columns_for S (change_row id)) s start (update_short (columns_for S (change_row id)) s start h))
  short_piece fuel n start (prefix k map j) a h = bind_bad _ (variable_short (column_for S k j) s start h)

  at_end : (fuel p : ℕ) (st : State) → Ready fuel p st → p ≡ length s → left S s fuel st ≡ closed st
  unfolding check scan
  at_end fuel p (between n at before) (q, h, f) e = short_token fuel (omega arith)
    where
      short_token : (fuel : ℕ) → 0 < fuel → left S s fuel (between n at before) ≡ bad 1 at Single
      short_token zero f = absurd (omega arith)
      short_token (suc fuel) f =
          let z : length s ≡ at = omega arith in
          rw (whole_short s at 1 (omega arith)) (ap (λ (x : ℕ). bad 1 x Single) z)
  at_end fuel p (keep n start held more g) (h, l, a, f) e =
      let z : length s ≡ start + length held = omega (arith, h.ends) in
      short_piece fuel n start g a (omega arith) ∙ ap (λ (x : ℕ). bad 1 x Single) z
  at_end fuel p (skip n at more k map j) (q, h, f) e =
      let z : length s ≡ at = omega arith in
      bind_bad _ (whole_short s at (suc more) (omega arith)) ∙ ap (λ (x : ℕ). bad 1 x Single) z
  at_end fuel p (finished n at) (q, h) e = rw (eq-eqb (length s) at (omega arith))
  at_end fuel p (stopped code offset name) h e = refl

  fed : (v : Bytes) (fuel p : ℕ) (st : State) → Ready fuel p st → p ≤ length s → drop p s ≡ v → left S s fuel st ≡ closed (feed S st v)
  unfolding feed
  fed [] fuel p st r h e = at_end fuel p st r (omega (arith, length-drop p s, ap length e))
  fed (b ∷ v) fuel p st r h e =
      let (q, d) = here s p (b ∷ []) v h e in
      let x = byte_next fuel p b st q r in
      x.same ∙ fed v x.fuel' (p + 1) (byte S st b) x.ready q.inside d

-- how many rows a section has, or its first error
abbrev pub section_count : List Schema → Bytes → Read ℕ
section_count S s = row_count (section S s)

count_bind : (r : Read (List Row)) → row_count r ≡ (r >>= λ rs. ok (length rs))
count_bind (ok rs) = refl
count_bind (bad c o i) = refl

-- The whole reader's answer is that of the state which was fed all bytes.
pub whole_is_fed : (S : List Schema) (s : Bytes) → section_count S s ≡ closed (feed S start s)
unfolding section elements
whole_is_fed S s =
    count_bind (section S s)
    ∙ bind_bind (scan S s (length s + 1) other 0) _ _
    ∙ bind_same (scan S s (length s + 1) other 0) _ _ (λ es _. let z : length (rows 0 es) ≡ 0 + length (rows 0 es) = omega arith in ap (λ (x : ℕ). ok x) z)
    ∙ fed S s s (length s + 1) 0 start (refl, omega arith, omega arith) (omega arith) refl

-- Where the state stands: at the end of what it was fed.
abbrev pub Stands : ℕ → State → Type 0
Stands p (between n at before) = at ≡ p
Stands p (keep n start held more g) = start + length held ≡ p
Stands p (skip n at more k map j) = at ≡ p
Stands p (finished n at) = at ≡ p
Stands p (stopped code offset name) = Unit {0}

module _ (S : List Schema) (s : Bytes) where
  ready_stands : (fuel p : ℕ) (st : State) → Ready S s fuel p st → Stands p st
  ready_stands fuel p (between n at before) (e, h, f) = e
  ready_stands fuel p (keep n start held more g) (h, l, a, f) = sym h.ends
  ready_stands fuel p (skip n at more k map j) (e, h, f) = e
  ready_stands fuel p (finished n at) (e, h) = e
  ready_stands fuel p (stopped code offset name) h = tt

  fed_stands : (v : Bytes) (fuel p : ℕ) (st : State) → Ready S s fuel p st → p ≤ length s → drop p s ≡ v → Stands (length s) (feed S st v)
  unfolding feed
  fed_stands [] fuel p st r h e =
      let z : p ≡ length s = omega (arith, length-drop p s, ap length e) in
      subst (λ (x : ℕ). Stands x st) z (ready_stands fuel p st r)
  fed_stands (b ∷ v) fuel p st r h e =
      let (q, d) = here s p (b ∷ []) v h e in
      let x = byte_next S s fuel p b st q r in
      fed_stands v x.fuel' (p + 1) (byte S st b) x.ready q.inside d

pub stands : (S : List Schema) (s : Bytes) → Stands (length s) (feed S start s)
stands S s = fed_stands S s s (length s + 1) 0 start (refl, omega arith, omega arith) (omega arith) refl

-- Fragments one after the other are the bytes joined.
pub feed_append : (S : List Schema) (st : State) (u v : Bytes) → feed S st (u ++ v) ≡ feed S (feed S st u) v
unfolding feed
feed_append S st [] v = refl
feed_append S st (b ∷ u) v = feed_append S (byte S st b) u v

-- A refusal stands.
pub feed_stopped : (S : List Schema) (code offset : ℕ) (name : Input) (v : Bytes) → feed S (stopped code offset name) v ≡ stopped code offset name
unfolding feed byte
feed_stopped S code offset name [] = refl
feed_stopped S code offset name (b ∷ v) = feed_stopped S code offset name v
