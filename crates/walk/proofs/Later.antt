-- Later bytes do not matter: where a row is read up to some end, it is read so in every input that agrees with it up to there.
-- Assumes nothing.
use Prim.Native.Nat.{ℕ, zero, suc, ◌+◌, ◌-◌, ◌/◌, ◌%◌, ◌^◌, ◌≤◌, ◌<◌}
use mathlib.Core.List.{List, [], ◌∷◌}
use mathlib.Core.Bool.{Bool, true, false, not}
use mathlib.Core.Path.{◌≡◌, refl, sym, ap, ◌∙◌}
use native.Mathlib.Omega.{arith}
use lib.ListN.{length, get_or, take, drop}
use lib.Seq.{get_or-take, get_or-drop, take-take}
use lib.Dec.{ltb, eqb}
use borrow.Author.Tests.{ltb-true, ltb-false}
use Rattle.wire.specs.Read.{Bytes, Read, ok, ◌>>=◌, pick, check}
use Rattle.wire.specs.Bits.{bit_at, bit_set, map_bytes}
use Rattle.wire.proofs.Pieces.{bind_ok, ok_ok}
use Rattle.column.specs.declared.column.Column.{Column}
use Rattle.column.specs.declared.field.Field.{Field}
use Rattle.column.specs.Columns.{is_chapter, is_nullable}
use Rattle.column.proofs.Laws.{field_told, field_later}
use Rattle.walk.specs.Presence.{no_column, presence_bytes, Mark, no_mark, marks, bit_of, mark_of, present, chapter_present, clear}
use Rattle.walk.specs.Rows.{Place, place, step, walk, opened, walked, row_end, field, look_up}
use Rattle.walk.proofs.Laws.{bit_nullable, bit_below, length_marks, mark_at, step_absent, step_field, bind_of, opened_well, walked_field, end_reached, look_up_column, look_up_chapter, look_up_null, look_up_found}
use Rattle.walk.proofs.Found.{Stepped, stayed, moved, step_told, walk_forward, walk_less, look_up_told, opened_ok, accepted_field}

-- Two inputs agree up to e.
pub record Agree (row other : Bytes) (e : ℕ) : Type 0 where
  pub same : take e row ≡ take e other
  pub long : e ≤ length other

pub agree_less : {row other : Bytes} {e d : ℕ} → d ≤ e → Agree row other e → Agree row other d
agree_less {row} {other} {e} {d} h a =
    record {
      same = sym (take-take d e row h) ∙ ap (take d) a.same ∙ take-take d e other h;
      long = omega (arith, a.long);
    }

-- A bit of a map, and a bit that a nullable column has.

pub bit_same : {row other : Bytes} {e : ℕ} (at b : ℕ) → Agree row other e → at + b / 8 < e → bit_set (drop at row) b ≡ bit_set (drop at other) b
unfolding bit_set bit_at
bit_same {row} {other} {e} at b a h =
    let q : get_or (drop at row) (b / 8) 0 ≡ get_or (drop at other) (b / 8) 0 =
    get_or-drop at row (b / 8) 0
    ∙ sym (get_or-take e row (at + b / 8) 0 h)
    ∙ ap (λ (l : Bytes). get_or l (at + b / 8) 0) a.same
    ∙ get_or-take e other (at + b / 8) 0 h
    ∙ sym (get_or-drop at other (b / 8) 0)
    in
    ap (λ (x : ℕ). eqb (x / 2 ^ (7 - b % 8) % 2) 1) q

pub bit_in_map : (cs : List Column) (i : ℕ) → i < length cs → is_nullable (get_or cs i no_column) ≡ true → bit_of cs i / 8 < presence_bytes cs
unfolding presence_bytes map_bytes
bit_in_map cs i h n = omega (arith, bit_nullable cs i h n, bit_below cs (i + 1))

module _ (cs : List Column) {row other : Bytes} {e : ℕ} (at : ℕ) (a : Agree row other e) (l : at + presence_bytes cs ≤ e) where
  own_bit : (i : ℕ) → i < length cs → is_nullable (get_or cs i no_column) ≡ true → bit_set (drop at row) (bit_of cs i) ≡ bit_set (drop at other) (bit_of cs i)
  own_bit i h n = bit_same at (bit_of cs i) a (omega (arith, bit_in_map cs i h n))

  present_of : (i : ℕ) → i < length cs → present (drop at row) (mark_of cs i) ≡ present (drop at other) (mark_of cs i)
  unfolding present
  present_of i h = go (is_nullable (get_or cs i no_column)) refl
    where
      go :
          (n : Bool) → is_nullable (get_or cs i no_column) ≡ n →
          pick (is_chapter (get_or cs i no_column)) false (pick n (bit_set (drop at row) (bit_of cs i)) true)
          ≡ pick (is_chapter (get_or cs i no_column)) false (pick n (bit_set (drop at other) (bit_of cs i)) true)
      go true n = rw (own_bit i h n)
      go false n = refl

  chapter_of : (i : ℕ) → i < length cs → chapter_present (drop at row) (mark_of cs i) ≡ chapter_present (drop at other) (mark_of cs i)
  unfolding chapter_present
  chapter_of i h = go (is_nullable (get_or cs i no_column)) refl
    where
      go :
          (n : Bool) → is_nullable (get_or cs i no_column) ≡ n →
          pick (is_chapter (get_or cs i no_column)) (pick n (bit_set (drop at row) (bit_of cs i)) false) false
          ≡ pick (is_chapter (get_or cs i no_column)) (pick n (bit_set (drop at other) (bit_of cs i)) false) false
      go true n = rw (own_bit i h n)
      go false n = refl

  present_same : (i : ℕ) → i < length (marks 0 cs) → present (drop at row) (get_or (marks 0 cs) i no_mark) ≡ present (drop at other) (get_or (marks 0 cs) i no_mark)
  present_same i h = let g : i < length cs = omega (arith, length_marks 0 cs) in rw (mark_at cs i g) (present_of i g)

  chapter_same :
      (i : ℕ) → i < length (marks 0 cs) → chapter_present (drop at row) (get_or (marks 0 cs) i no_mark) ≡ chapter_present (drop at other) (get_or (marks 0 cs) i no_mark)
  chapter_same i h = let g : i < length cs = omega (arith, length_marks 0 cs) in rw (mark_at cs i g) (chapter_of i g)

-- Rules and walks over the same marks.

pub clear_same :
    (p q : Mark → Bool) (code at : ℕ) (ms : List Mark) → ((i : ℕ) → i < length ms → p (get_or ms i no_mark) ≡ q (get_or ms i no_mark)) →
    clear p code at ms ≡ clear q code at ms
unfolding clear
clear_same p q code at [] h = refl
clear_same p q code at (m ∷ ms) h =
    ap (λ (t : Bool). check (not t) code (at + m.bit / 8) >>= (λ _. clear p code at ms)) (h 0 (omega arith))
    ∙ ap (λ (r : Read (Unit {0})). check (not (q m)) code (at + m.bit / 8) >>= (λ _. r)) (clear_same p q code at ms (λ i l. h (suc i) (omega arith)))

module _ {row other : Bytes} {e : ℕ} (a : Agree row other e) (p q : Mark → Bool) where
  step_same : {m : Mark} {w v : Place} → p m ≡ q m → v.at ≤ e → Stepped p row m w v → step q other m w ≡ ok v
  step_same {m} {w} h l (stayed t) = step_absent q other m w (sym h ∙ t)
  step_same {m} {w} h l (moved f t x) =
      let b = agree_less l a in
      step_field q other m w f (sym h ∙ t) (field_later m.column row other w.at x b.same b.long)

  pub walk_same :
      (k : ℕ) (ms : List Mark) (w v : Place) → ((i : ℕ) → i < length ms → p (get_or ms i no_mark) ≡ q (get_or ms i no_mark)) → v.at ≤ e →
      walk p row k ms w ≡ ok v → walk q other k ms w ≡ ok v
  unfolding walk
  walk_same zero ms w v h l x = x
  walk_same (suc k) [] w v h l x = x
  walk_same (suc k) (m ∷ ms) w v h l x =
      let (u, y, z) = bind_ok (step p row m w) _ v x in
      let s = step_same (h 0 (omega arith)) (omega (arith, walk_forward p row k ms u v z)) (step_told p row m w u y) in
      bind_of _ s ∙ walk_same k ms u v (λ i g. h (suc i) (omega arith)) l z

-- Rows.

module _ (cs : List Column) (row other : Bytes) where
  walked_past : (at k : ℕ) (w : Place) → walked cs row at k ≡ ok w → at + presence_bytes cs ≤ w.at
  unfolding walked
  walked_past at k w h = walk_forward (present (drop at row)) row k (marks 0 cs) (place (at + presence_bytes cs) 0) w h

  module _ {e : ℕ} (at : ℕ) (a : Agree row other e) (l : at + presence_bytes cs ≤ e) where
    opened_same : (s : ℕ) → opened cs row at ≡ ok s → opened cs other at ≡ ok (at + presence_bytes cs)
    opened_same s h =
        let (q, i, c) = opened_ok cs row at s h in
        opened_well cs other at (omega (arith, a.long))
        (sym (clear_same (chapter_present (drop at row)) (chapter_present (drop at other)) 12 at (marks 0 cs) (chapter_same cs at a l)) ∙ c)

    walked_same : (k : ℕ) (w : Place) → w.at ≤ e → walked cs row at k ≡ ok w → walked cs other at k ≡ ok w
    unfolding walked
    walked_same k w g h =
        walk_same a (present (drop at row)) (present (drop at other)) k (marks 0 cs) (place (at + presence_bytes cs) 0) w (present_same cs at a l) g h

  -- bytes after a found field do not matter
  pub look_up_later : (k : ℕ) (f : Field) → look_up cs row k ≡ ok (field f) → Agree row other f.end → look_up cs other k ≡ ok (field f)
  look_up_later k f h a =
      let d = look_up_told cs row k f h in
      let w : Place = d.place in
      let g : Field = d.own in
      let t = field_told (get_or cs k no_column) row w.at d.there in
      let e : f.end ≡ g.end = ap (λ (f : Field). f.end) d.same in
      let l : w.at ≤ f.end = omega (arith, t.starts, t.forward) in
      let m : 0 + presence_bytes cs ≤ f.end = omega (arith, walked_past 0 k w d.walk) in
      let b = agree_less {d = g.end} (omega arith) a in
      look_up_found cs other k d.known _ (opened_same 0 a m _ d.opens) d.plain (sym (present_of cs 0 a m k d.known) ∙ d.here) w.at w.prefixes
      (walked_same 0 a m k w l d.walk) g (field_later (get_or cs k no_column) row other w.at d.there b.same b.long)
      ∙ ap (λ (f : Field). ok (field f)) (sym d.same)

  -- nor do bytes after a row's end
  pub row_end_later : (at e : ℕ) → row_end cs row at ≡ ok e → Agree row other e → row_end cs other at ≡ ok e
  unfolding row_end
  row_end_later at e h a =
      let (s, e1, f1) = bind_ok (opened cs row at) _ e h in
      let (w, e2, f2) = bind_ok (walked cs row at (length cs)) _ e f1 in
      let q : w.at ≡ e = ok_ok f2 in
      let l : at + presence_bytes cs ≤ e = omega (arith, walked_past at (length cs) w e2) in
      end_reached cs other at _ (opened_same at a l s e1) w.at w.prefixes (walked_same at a l (length cs) w (omega arith) e2) ∙ ap ok q

-- what the end of a row tells
pub row_end_told :
    (cs : List Column) (row : Bytes) (at e : ℕ) → row_end cs row at ≡ ok e →
    (w : Place) × (opened cs row at ≡ ok (at + presence_bytes cs)) × (walked cs row at (length cs) ≡ ok w) × (at + presence_bytes cs ≤ e) × (w.at ≡ e)
unfolding row_end
row_end_told cs row at e h =
    let (s, e1, f1) = bind_ok (opened cs row at) _ e h in
    let (w, e2, f2) = bind_ok (walked cs row at (length cs)) _ e f1 in
    let (p, i, c) = opened_ok cs row at s e1 in
    let q : w.at ≡ e = ok_ok f2 in
    (w, e1 ∙ ap ok p, e2, omega (arith, walked_past cs row row at (length cs) w e2), q)

-- A row that is accepted up to e looks up alike in every input that agrees with it up to there.

module _ (cs : List Column) (row : Bytes) (k : ℕ) where
  -- a field that is found in a row ends before the row does
  pub field_before : (e : ℕ) (f : Field) → row_end cs row 0 ≡ ok e → look_up cs row k ≡ ok (field f) → f.end ≤ e
  unfolding walked
  field_before e f h x =
      let d = look_up_told cs row k f x in
      let (v, o, e2, l, q) = row_end_told cs row 0 e h in
      let n = walked_field cs row 0 k d.place.at d.place.prefixes d.known d.walk d.here d.own d.there in
      let r : f.end ≡ d.own.end = ap (λ (f : Field). f.end) d.same in
      omega (arith, walk_less (present (drop 0 row)) row (k + 1) (length cs) (marks 0 cs) _ _ v (omega (arith, d.known)) n e2)

pub accepted_later : (cs : List Column) (row other : Bytes) (e k : ℕ) → row_end cs row 0 ≡ ok e → Agree row other e → look_up cs other k ≡ look_up cs row k
accepted_later cs row other e k h a = by (ltb k (length cs)) refl
  where
    alike : (g : k < length cs) → (c t : Bool) → is_chapter (get_or cs k no_column) ≡ c → present row (mark_of cs k) ≡ t → look_up cs other k ≡ look_up cs row k
    alike g true t ec et =
        let (w, x, z, l, y) = row_end_told cs row 0 e h in
        look_up_chapter cs other k g _ (opened_same cs row other 0 a l _ x) ec ∙ sym (look_up_chapter cs row k g _ x ec)
    alike g false false ec et =
        let (w, x, z, l, y) = row_end_told cs row 0 e h in
        look_up_null cs other k g _ (opened_same cs row other 0 a l _ x) ec (sym (present_of cs 0 a l k g) ∙ et) ∙ sym (look_up_null cs row k g _ x ec et)
    alike g false true ec et =
        let (f, x) = accepted_field cs row k e h g ec et in
        look_up_later cs row other k f x (agree_less (field_before cs row k e f h x) a) ∙ sym x

    by : (t : Bool) → ltb k (length cs) ≡ t → look_up cs other k ≡ look_up cs row k
    by true t = alike (ltb-true _ _ t) _ _ refl refl
    by false t = look_up_column cs other k (ltb-false _ _ t) ∙ sym (look_up_column cs row k (ltb-false _ _ t))
