-- Bytes after update data do not matter.
-- Assumes nothing.
use Prim.Native.Nat.{ℕ, ◌+◌, ◌*◌, ◌≤◌, ◌<◌}
use mathlib.Core.List.{List}
use mathlib.Core.Bool.{Bool, true, false}
use mathlib.Core.Path.{◌≡◌, refl, sym, ap, ◌∙◌}
use native.Mathlib.Omega.{arith}
use lib.ListN.{length, get_or, drop}
use lib.Dec.{ltb}
use borrow.Author.Tests.{ltb-true, ltb-false}
use Rattle.wire.specs.Read.{Bytes, ok}
use Rattle.wire.specs.Bits.{bit_set, map_bytes}
use Rattle.column.specs.declared.column.Column.{Column}
use Rattle.column.specs.declared.field.Field.{Field}
use Rattle.column.specs.Columns.{is_chapter}
use Rattle.column.specs.Fields.{field_at}
use Rattle.column.proofs.Laws.{field_told, field_later}
use Rattle.walk.specs.Presence.{no_column, Mark, mark, no_mark, clear}
use Rattle.walk.specs.Rows.{Place, place}
use Rattle.walk.specs.Updates.{numbered, update_bytes, chapter_marked, force_broken, carried, carried_in, update_opened, update_walked, update_end, look_update, current}
use Rattle.walk.proofs.Found.{walk_forward, walk_less}
use Rattle.walk.proofs.Later.{Agree, agree_less, bit_same, clear_same, walk_same}
use Rattle.walk.proofs.UpdateLaws.{length_numbered, number_at_lem, carried_in_lem, carried_field, update_well, update_walked_field, update_end_reached, look_update_column, look_update_chapter, look_update_unchanged, look_update_null, look_update_found}
use Rattle.walk.proofs.UpdateFound.{Examined, update_end_told, field_there}

-- The bits of both maps, in inputs that agree behind the maps.

module _ (cs : List Column) {row other : Bytes} {e : ℕ} (at : ℕ) (a : Agree row other e) (l : at + 2 * update_bytes cs ≤ e) where
  update_bit : (i : ℕ) → i < length cs → bit_set (drop at row) i ≡ bit_set (drop at other) i
  unfolding update_bytes map_bytes
  update_bit i h = bit_same at i a (omega arith)

  force_bit : (i : ℕ) → i < length cs → bit_set (drop (at + update_bytes cs) row) i ≡ bit_set (drop (at + update_bytes cs) other) i
  unfolding update_bytes map_bytes
  force_bit i h = bit_same (at + update_bytes cs) i a (omega arith)

  -- a test of marks that asks for these bits alone
  marks_same :
      (p q : Mark → Bool) → ((i : ℕ) → i < length cs → p (mark (get_or cs i no_column) i) ≡ q (mark (get_or cs i no_column) i)) →
      (i : ℕ) → i < length (numbered 0 cs) → p (get_or (numbered 0 cs) i no_mark) ≡ q (get_or (numbered 0 cs) i no_mark)
  marks_same p q f i h = let g : i < length cs = omega (arith, length_numbered 0 cs) in rw (number_at_lem cs i g) (f i g)

  marked_same : (i : ℕ) → i < length cs → chapter_marked (drop at row) (mark (get_or cs i no_column) i) ≡ chapter_marked (drop at other) (mark (get_or cs i no_column) i)
  unfolding chapter_marked
  marked_same i h = rw (update_bit i h)

  forced_same :
      (i : ℕ) → i < length cs →
      chapter_marked (drop (at + update_bytes cs) row) (mark (get_or cs i no_column) i) ≡ chapter_marked (drop (at + update_bytes cs) other) (mark (get_or cs i no_column) i)
  unfolding chapter_marked
  forced_same i h = rw (force_bit i h)

  rule_same :
      (i : ℕ) → i < length cs →
      force_broken (drop at row) (drop (at + update_bytes cs) row) (mark (get_or cs i no_column) i)
      ≡ force_broken (drop at other) (drop (at + update_bytes cs) other) (mark (get_or cs i no_column) i)
  unfolding force_broken
  rule_same i h = rw (update_bit i h, force_bit i h)

  carried_same : (i : ℕ) → i < length cs → carried_in cs row at (mark (get_or cs i no_column) i) ≡ carried_in cs other at (mark (get_or cs i no_column) i)
  unfolding carried_in carried
  carried_same i h = rw (update_bit i h, force_bit i h)

  update_walked_same : (k : ℕ) (w : Place) → w.at ≤ e → update_walked cs row at k ≡ ok w → update_walked cs other at k ≡ ok w
  unfolding update_walked
  update_walked_same k w g h =
      walk_same a (carried_in cs row at) (carried_in cs other at) k (numbered 0 cs) _ w (marks_same (carried_in cs row at) (carried_in cs other at) carried_same) g h

  kept :
      (p q : Mark → Bool) (code o : ℕ) → ((i : ℕ) → i < length cs → p (mark (get_or cs i no_column) i) ≡ q (mark (get_or cs i no_column) i)) →
      clear p code o (numbered 0 cs) ≡ ok tt → clear q code o (numbered 0 cs) ≡ ok tt
  kept p q code o f h = sym (clear_same p q code o (numbered 0 cs) (marks_same p q f)) ∙ h

  update_opened_same : (d : ℕ) → Examined cs row at d → update_opened cs other at ≡ ok (at + 2 * update_bytes cs)
  update_opened_same d x =
      let f : ℕ = at + update_bytes cs in
      update_well cs other at (omega (arith, a.long)) (kept (chapter_marked (drop at row)) (chapter_marked (drop at other)) 12 at marked_same x.no_update)
      (kept (chapter_marked (drop f row)) (chapter_marked (drop f other)) 12 f forced_same x.no_force)
      (kept (force_broken (drop at row) (drop f row)) (force_broken (drop at other) (drop f other)) 13 f rule_same x.ruled)

-- update data end behind their maps
pub update_past : (cs : List Column) (row : Bytes) (at e : ℕ) → update_end cs row at ≡ ok e → at + 2 * update_bytes cs ≤ e
unfolding update_walked
update_past cs row at e h =
    let x = update_end_told cs row at e h in
    omega (arith, x.ends, walk_forward (carried_in cs row at) row (length cs) (numbered 0 cs) (place (at + 2 * update_bytes cs) 0) x.last x.walk)

-- update data are accepted alike in every input that agrees up to their end
pub update_end_later : (cs : List Column) (row other : Bytes) (at e : ℕ) → update_end cs row at ≡ ok e → Agree row other e → update_end cs other at ≡ ok e
update_end_later cs row other at e h a =
    let x = update_end_told cs row at e h in
    let l = update_past cs row at e h in
    update_end_reached cs other at _ (update_opened_same cs at a l e x) x.last.at x.last.prefixes
    (update_walked_same cs at a l (length cs) x.last (omega (arith, x.ends)) x.walk)
    ∙ ap ok x.ends

-- a field of update data ends before they do
field_within :
    (cs : List Column) (row : Bytes) (e k : ℕ) (u : Place) (f : Field) → update_end cs row 0 ≡ ok e → k < length cs → bit_set row k ≡ true →
    bit_set (drop (0 + update_bytes cs) row) k ≡ false → update_walked cs row 0 k ≡ ok u → field_at (get_or cs k no_column) row u.at ≡ ok f → f.end ≤ e
unfolding update_walked
field_within cs row e k u f h l t g x y =
    let d = update_end_told cs row 0 e h in
    let c = carried_in_lem cs row 0 (mark (get_or cs k no_column) k) ∙ carried_field (drop 0 row) (drop (0 + update_bytes cs) row) (get_or cs k no_column) k t g in
    let n = update_walked_field cs row 0 k u.at u.prefixes l x c f y in
    omega (arith, d.ends, walk_less (carried_in cs row 0) row (k + 1) (length cs) (numbered 0 cs) _ _ d.last (omega arith) n d.walk)

-- they look up alike
pub examined_later :
    (cs : List Column) (update other : Bytes) (e k : ℕ) → update_end cs update 0 ≡ ok e → Agree update other e → look_update cs other k ≡ look_update cs update k
examined_later cs update other e k h a = by (ltb k (length cs)) refl
  where
    o : update_end cs other 0 ≡ ok e
    o = update_end_later cs update other 0 e h a

    z : 0 + update_bytes cs ≡ update_bytes cs
    z = omega arith

    f_same : k < length cs → bit_set (drop (update_bytes cs) other) k ≡ bit_set (drop (update_bytes cs) update) k
    f_same g = ap (λ (n : ℕ). bit_set (drop n other) k) (sym z) ∙ sym (force_bit cs 0 a (update_past cs update 0 e h) k g) ∙ ap (λ (n : ℕ). bit_set (drop n update) k) z

    u_same : k < length cs → bit_set other k ≡ bit_set update k
    u_same g = sym (update_bit cs 0 a (update_past cs update 0 e h) k g)

    alike :
        (g : k < length cs) (c u f : Bool) → is_chapter (get_or cs k no_column) ≡ c → bit_set update k ≡ u → bit_set (drop (update_bytes cs) update) k ≡ f →
        look_update cs other k ≡ look_update cs update k
    alike g true u f ec eu ef = look_update_chapter cs other k g e o ec ∙ sym (look_update_chapter cs update k g e h ec)
    alike g false false f ec eu ef = look_update_unchanged cs other k g e o ec (u_same g ∙ eu) ∙ sym (look_update_unchanged cs update k g e h ec eu)
    alike g false true true ec eu ef =
        look_update_null cs other k g e o ec (u_same g ∙ eu) (f_same g ∙ ef) ∙ sym (look_update_null cs update k g e h ec eu ef)
    alike g false true false ec eu ef =
        let (w, f, x, y) = field_there cs update e k h g eu ef in
        let t = field_told (get_or cs k no_column) update w.at y in
        let i = field_within cs update e k w f h g eu (ap (λ (n : ℕ). bit_set (drop n update) k) z ∙ ef) x y in
        let b = agree_less {d = f.end} i a in
        look_update_found cs other k g e o ec (u_same g ∙ eu) (f_same g ∙ ef) w.at w.prefixes
        (update_walked_same cs 0 a (update_past cs update 0 e h) k w (omega (arith, t.starts, t.forward)) x) f
        (field_later (get_or cs k no_column) update other w.at y b.same b.long)
        ∙ sym (look_update_found cs update k g e h ec eu ef w.at w.prefixes x f y)

    by : (t : Bool) → ltb k (length cs) ≡ t → look_update cs other k ≡ look_update cs update k
    by true t = alike (ltb-true _ _ t) _ _ _ refl refl refl
    by false t = look_update_column cs other k (ltb-false _ _ t) ∙ sym (look_update_column cs update k (ltb-false _ _ t))

-- so does the current value
pub current_later :
    (cs : List Column) (row update other : Bytes) (e k : ℕ) → update_end cs update 0 ≡ ok e → Agree update other e →
    current cs row other k ≡ current cs row update k
unfolding current
current_later cs row update other e k h a = rw (examined_later cs update other e k h a)
