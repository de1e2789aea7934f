-- What look-ups in update data and current values tell: where a field lies, its prefixes, error 1, and that bytes after the update
-- data do not matter.
-- Assumes nothing.
use Prim.Native.Nat.{ℕ, ◌+◌, ◌*◌, ◌≤◌, ◌<◌}
use mathlib.Core.List.{List}
use mathlib.Core.Bool.{Bool, true, false}
use mathlib.Core.Path.{◌≡◌, refl, sym, ap, ◌∙◌}
use native.Mathlib.Omega.{arith}
use lib.ListN.{length, get_or, drop}
use Rattle.wire.specs.declared.error.Input.TheVariants as input
use Rattle.wire.specs.Read.{Bytes, ok, ◌>>=◌, pick, about, whole}
use Rattle.wire.specs.Bits.{bit_set}
use Rattle.wire.proofs.Pieces.{bind_ok, about_ok, ok_ok, whole_ok}
use Rattle.column.specs.declared.column.Column.{Column}
use Rattle.column.specs.declared.field.Field.{Field}
use Rattle.column.specs.Columns.{is_chapter}
use Rattle.column.specs.Fields.{field_at}
use Rattle.column.proofs.Laws.{field_told}
use Rattle.walk.specs.Presence.{no_column, Mark, no_mark, clear}
use Rattle.walk.specs.Rows.{Place, reached, arrive, known}
use Rattle.walk.specs.Updates.{numbered, update_bytes, chapter_marked, force_broken, carried_in, update_opened, update_walked, update_end, UpdateAnswer, field, null, unchanged, chapter, update_field, update_column, look_update, update_prefix_count}
use Rattle.walk.proofs.Found.{walk_found, arrive_counts, known_ok}
use Rattle.walk.proofs.UpdateLaws.{length_numbered, number_at_lem, carried_field, look_update_chapter, look_update_unchanged, look_update_null, look_update_found}

-- What update data that are accepted tell.

pub record Examined (cs : List Column) (row : Bytes) (at e : ℕ) : Type 0 where
  pub last : Place
  pub inside : at + 2 * update_bytes cs ≤ length row
  pub no_update : clear (chapter_marked (drop at row)) 12 at (numbered 0 cs) ≡ ok tt
  pub no_force : clear (chapter_marked (drop (at + update_bytes cs) row)) 12 (at + update_bytes cs) (numbered 0 cs) ≡ ok tt
  pub ruled : clear (force_broken (drop at row) (drop (at + update_bytes cs) row)) 13 (at + update_bytes cs) (numbered 0 cs) ≡ ok tt
  pub walk : update_walked cs row at (length cs) ≡ ok last
  pub ends : last.at ≡ e

-- update data that open: where their fields start
pub update_opened_ok : (cs : List Column) (row : Bytes) (at s : ℕ) → update_opened cs row at ≡ ok s → (s ≡ at + 2 * update_bytes cs) × (s ≤ length row)
unfolding update_opened
update_opened_ok cs row at s h =
    let (b, x, y) = bind_ok (whole row at (2 * update_bytes cs)) _ s h in
    let (u, x1, y1) = bind_ok (clear (chapter_marked (drop at row)) 12 at (numbered 0 cs)) _ s y in
    let (v, x2, y2) = bind_ok (clear (chapter_marked (drop (at + update_bytes cs) row)) 12 (at + update_bytes cs) (numbered 0 cs)) _ s y1 in
    let (z, x3, y3) =
    bind_ok (clear (force_broken (drop at row) (drop (at + update_bytes cs) row)) 13 (at + update_bytes cs) (numbered 0 cs)) _ s y2 in
    let (p, l) = whole_ok row at (2 * update_bytes cs) b x in
    let same : b ≡ s = ok_ok y3 in
    (omega (arith, p.ends, l, same), omega (arith, p.inside, same))

pub update_end_told : (cs : List Column) (row : Bytes) (at e : ℕ) → update_end cs row at ≡ ok e → Examined cs row at e
unfolding update_end update_opened
update_end_told cs row at e h =
    let (s, e1, f1) = bind_ok (update_opened cs row at) _ e h in
    let (w, e2, f2) = bind_ok (update_walked cs row at (length cs)) _ e f1 in
    let (b, x, y) = bind_ok (whole row at (2 * update_bytes cs)) _ s e1 in
    let (u, x1, y1) = bind_ok (clear (chapter_marked (drop at row)) 12 at (numbered 0 cs)) _ s y in
    let (v, x2, y2) = bind_ok (clear (chapter_marked (drop (at + update_bytes cs) row)) 12 (at + update_bytes cs) (numbered 0 cs)) _ s y1 in
    let (z, x3, y3) =
    bind_ok (clear (force_broken (drop at row) (drop (at + update_bytes cs) row)) 13 (at + update_bytes cs) (numbered 0 cs)) _ s y2 in
    let (p, l) = whole_ok row at (2 * update_bytes cs) b x in
    record {
      last = w;
      inside = omega (arith, p.ends, p.inside);
      no_update = x1;
      no_force = x2;
      ruled = x3;
      walk = e2;
      ends = ok_ok f2;
    }

-- a column with update 1 and force 0 has a field in update data that are accepted
pub field_there :
    (cs : List Column) (row : Bytes) (e k : ℕ) → update_end cs row 0 ≡ ok e → k < length cs → bit_set row k ≡ true →
    bit_set (drop (update_bytes cs) row) k ≡ false →
    (u : Place) × (f : Field) × (update_walked cs row 0 k ≡ ok u) × (field_at (get_or cs k no_column) row u.at ≡ ok f)
unfolding update_walked carried_in
field_there cs row e k h l t g =
    let d = update_end_told cs row 0 e h in
    let m = number_at_lem cs k l in
    let z : 0 + update_bytes cs ≡ update_bytes cs = omega arith in
    let g : bit_set (drop (0 + update_bytes cs) row) k ≡ false = ap (λ (n : ℕ). bit_set (drop n row) k) z ∙ g in
    let c : carried_in cs row 0 (get_or (numbered 0 cs) k no_mark) ≡ true =
    ap (carried_in cs row 0) m ∙ carried_field (drop 0 row) (drop (0 + update_bytes cs) row) (get_or cs k no_column) k t g in
    let (u, f, x, y) = walk_found (carried_in cs row 0) row k (length cs) (numbered 0 cs) _ d.last l (omega (arith, length_numbered 0 cs)) d.walk c in
    (u, f, x, sym (ap (λ (m : Mark). field_at m.column row u.at) m) ∙ y)

-- update data that are accepted look up at every column: no error but 18 comes after their examination
pub examined_looks_up :
    (cs : List Column) (update : Bytes) (e k : ℕ) → update_end cs update 0 ≡ ok e → k < length cs → (a : UpdateAnswer) × (look_update cs update k ≡ ok a)
examined_looks_up cs update e k h l =
    go (is_chapter (get_or cs k no_column)) (bit_set update k) (bit_set (drop (update_bytes cs) update) k) refl refl refl
  where
    go :
        (c u f : Bool) → is_chapter (get_or cs k no_column) ≡ c → bit_set update k ≡ u → bit_set (drop (update_bytes cs) update) k ≡ f →
        (a : UpdateAnswer) × (look_update cs update k ≡ ok a)
    go true u f ec eu ef = (chapter, look_update_chapter cs update k l e h ec)
    go false false f ec eu ef = (unchanged, look_update_unchanged cs update k l e h ec eu)
    go false true true ec eu ef = (null, look_update_null cs update k l e h ec eu ef)
    go false true false ec eu ef =
        let (w, g, x, y) = field_there cs update e k h l eu ef in
        (field (reached w g), look_update_found cs update k l e h ec eu ef w.at w.prefixes x g y)

-- What a look-up that finds a field in update data tells.

pub record FoundUpdate (cs : List Column) (update : Bytes) (k : ℕ) (f : Field) : Type 0 where
  pub end : ℕ
  pub place : Place
  pub own : Field
  pub known : k < length cs
  pub examined : update_end cs update 0 ≡ ok end
  pub plain : is_chapter (get_or cs k no_column) ≡ false
  pub update_bit : bit_set update k ≡ true
  pub force_bit : bit_set (drop (update_bytes cs) update) k ≡ false
  pub walk : update_walked cs update 0 k ≡ ok place
  pub there : field_at (get_or cs k no_column) update place.at ≡ ok own
  pub same : f ≡ reached place own

chapter_field : {f : Field} → ok chapter ≡ ok (field f) → ⊥
chapter_field e = let z : ◌≡◌ {A = ℕ} 0 1 = cc in omega arith

null_field : {f : Field} → ok null ≡ ok (field f) → ⊥
null_field e = let z : ◌≡◌ {A = ℕ} 0 1 = cc in omega arith

unchanged_field : {f : Field} → ok unchanged ≡ ok (field f) → ⊥
unchanged_field e = let z : ◌≡◌ {A = ℕ} 0 1 = cc in omega arith

field_field : {f g : Field} → ok (field f) ≡ ok (field g) → f ≡ g
field_field e = cc

module _ (cs : List Column) (update : Bytes) (k : ℕ) where
  column_told :
      (f : Field) → update_column cs update k ≡ ok (field f) →
      (is_chapter (get_or cs k no_column) ≡ false) × (bit_set update k ≡ true) × (bit_set (drop (update_bytes cs) update) k ≡ false) × (update_field cs update k ≡ ok f)
  unfolding update_column
  column_told f h = go (is_chapter (get_or cs k no_column)) (bit_set update k) (bit_set (drop (update_bytes cs) update) k) refl refl refl h
    where
      go :
          (c u b : Bool) → is_chapter (get_or cs k no_column) ≡ c → bit_set update k ≡ u → bit_set (drop (update_bytes cs) update) k ≡ b →
          pick c (ok chapter) (pick u (pick b (ok null) (update_field cs update k >>= (λ f. ok (field f)))) (ok unchanged)) ≡ ok (field f) →
          (is_chapter (get_or cs k no_column) ≡ false) × (bit_set update k ≡ true) × (bit_set (drop (update_bytes cs) update) k ≡ false) × (update_field cs update k ≡ ok f)
      go true u b x y z e = absurd (chapter_field e)
      go false false b x y z e = absurd (unchanged_field e)
      go false true true x y z e = absurd (null_field e)
      go false true false x y z e = let (g, p, q) = bind_ok (update_field cs update k) _ (field f) e in (x, y, z, p ∙ ap ok (field_field q))

  pub look_update_told : (f : Field) → look_update cs update k ≡ ok (field f) → FoundUpdate cs update k f
  unfolding look_update update_field arrive
  look_update_told f h =
      let (u, e1, f1) = bind_ok (known cs k) _ (field f) h in
      let (e, e2, f2) = bind_ok (about input.Update (update_end cs update 0)) _ (field f) f1 in
      let (c, x, y, e3) = column_told f (about_ok input.Update (update_column cs update k) (field f) f2) in
      let (w, e4, f4) = bind_ok (update_walked cs update 0 k) _ f e3 in
      let (g, e5, f5) = bind_ok (field_at (get_or cs k no_column) update w.at) _ f f4 in
      record {
        end = e;
        place = w;
        own = g;
        known = known_ok cs k u e1;
        examined = about_ok input.Update (update_end cs update 0) e e2;
        plain = c;
        update_bit = x;
        force_bit = y;
        walk = e4;
        there = e5;
        same = sym (ok_ok f5);
      }

  -- a field that is found lies in the update data
  pub update_field_inside : (f : Field) → look_update cs update k ≡ ok (field f) → (f.start ≤ f.end) × (f.end ≤ length update)
  update_field_inside f h =
      let d = look_update_told f h in
      let t = field_told (get_or cs k no_column) update d.place.at d.there in
      rw d.same (t.forward, t.ends)

  -- its number of prefixes is the number of variable columns up to it that the update data hold a field of
  pub update_prefix_count_lem : (f : Field) → look_update cs update k ≡ ok (field f) → f.prefixes ≡ update_prefix_count cs update k
  unfolding update_prefix_count update_walked carried_in
  update_prefix_count_lem f h =
      let d = look_update_told f h in
      let m = number_at_lem cs k d.known in
      let z : 0 + update_bytes cs ≡ update_bytes cs = omega arith in
      let g : bit_set (drop (0 + update_bytes cs) update) k ≡ false = ap (λ (n : ℕ). bit_set (drop n update) k) z ∙ d.force_bit in
      let t : carried_in cs update 0 (get_or (numbered 0 cs) k no_mark) ≡ true =
      ap (carried_in cs update 0) m ∙ carried_field (drop 0 update) (drop (0 + update_bytes cs) update) (get_or cs k no_column) k d.update_bit g in
      let y : field_at (get_or (numbered 0 cs) k no_mark).column update d.place.at ≡ ok d.own =
      ap (λ (m : Mark). field_at m.column update d.place.at) m ∙ d.there in
      ap (λ (f : Field). f.prefixes) d.same
      ∙ arrive_counts (carried_in cs update 0) update k (numbered 0 cs) _ d.place d.own (omega (arith, d.known, length_numbered 0 cs)) t d.walk y
