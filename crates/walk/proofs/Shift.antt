-- A row or update data inside a longer input: what is accepted at an offset is accepted by itself, and so looks up at every column.
-- Assumes nothing.
use Prim.Native.Nat.{ℕ, zero, suc, ◌+◌, ◌*◌, ◌-◌, ◌≤◌, ◌<◌}
use mathlib.Core.List.{List, [], ◌∷◌}
use mathlib.Core.Bool.{Bool}
use mathlib.Core.Path.{◌≡◌, refl, sym, ap, ◌∙◌}
use native.Mathlib.Omega.{arith}
use lib.ListN.{length, take, drop, length-drop}
use lib.Seq.{drop-drop}
use Rattle.wire.specs.Read.{Bytes, ok, check}
use Rattle.wire.specs.Integers.{value_of, int_at}
use Rattle.wire.proofs.Pieces.{bind_ok}
use Rattle.column.specs.declared.column.Column.{Column}
use Rattle.column.specs.declared.field.Field.{Field}
use Rattle.column.specs.Columns.{prefix_size, length_error}
use Rattle.column.specs.Fields.{field_at}
use Rattle.column.proofs.Laws.{field_told, field_made}
use Rattle.walk.specs.Presence.{presence_bytes, Mark, marks, present, chapter_present, clear}
use Rattle.walk.specs.Rows.{Place, place, step, walk, walked, row_end, Answer, look_up}
use Rattle.walk.specs.Updates.{numbered, update_bytes, chapter_marked, force_broken, carried, carried_in, update_walked, update_end, UpdateAnswer, look_update}
use Rattle.walk.proofs.Laws.{bind_of, step_absent, step_field, opened_well, end_reached}
use Rattle.walk.proofs.Found.{Stepped, stayed, moved, step_told, step_forward, opened_ok, accepted_looks_up}
use Rattle.walk.proofs.Counting.{clear_first}
use Rattle.walk.proofs.Later.{row_end_told}
use Rattle.walk.proofs.UpdateLaws.{update_well, update_end_reached}
use Rattle.walk.proofs.UpdateFound.{update_end_told, examined_looks_up}
use Rattle.walk.proofs.UpdateLater.{update_past}

-- a rule that is kept is kept wherever the map stands
pub clear_anywhere : (broken : Mark → Bool) (code at other : ℕ) (ms : List Mark) → clear broken code at ms ≡ ok tt → clear broken code other ms ≡ ok tt
unfolding clear check
clear_anywhere broken code at other [] h = refl
clear_anywhere broken code at other (m ∷ ms) h =
    let (x, y) = clear_first broken code at m ms h in
    rw x (clear_anywhere broken code at other ms y)

-- Positions counted from `at` on.

module _ (s : Bytes) (at : ℕ) where
  abbrev lowered : Place → Place
  lowered w = place (w.at - at) w.prefixes

  abbrev lowered_field : Field → Field
  lowered_field f = record { start = f.start - at; end = f.end - at; prefixes = f.prefixes }

  int_shift : (p n : ℕ) → int_at (drop at s) p n ≡ int_at s (at + p) n
  unfolding int_at
  int_shift p n = ap (λ (l : Bytes). value_of (take n l)) (drop-drop p at s)

  -- a field that is found at an offset is found in what follows `at`
  pub field_shift : (c : Column) (q : ℕ) {f : Field} → at ≤ q → field_at c s q ≡ ok f → field_at c (drop at s) (q - at) ≡ ok (lowered_field f)
  field_shift c q {f} l h =
      let t = field_told c s q h in
      let z : f.end - at - (f.start - at) ≡ f.end - f.start = omega (arith, t.starts, t.forward) in
      let y : at + (q - at) ≡ q = omega arith in
      field_made c (drop at s) (q - at)
      (record {
        starts = omega (arith, t.starts);
        forward = omega (arith, t.forward);
        ends = omega (arith, t.ends, length-drop at s);
        counts = t.counts;
        length_allowed = λ v. ap (length_error c) z ∙ t.length_allowed v;
        length_said =
            λ v. int_shift (q - at) (prefix_size c) ∙ ap (λ (p : ℕ). int_at s p (prefix_size c)) y ∙ t.length_said v ∙ sym z;
        fixed = λ v. omega (arith, t.starts, t.fixed v);
      })

  module _ (p q : Mark → Bool) (same : (m : Mark) → p m ≡ q m) where
    step_shift : {m : Mark} {w v : Place} → at ≤ w.at → Stepped p s m w v → step q (drop at s) m (lowered w) ≡ ok (lowered v)
    step_shift {m} {w} l (stayed t) = step_absent q (drop at s) m (lowered w) (sym (same m) ∙ t)
    step_shift {m} {w} l (moved f t x) =
        step_field q (drop at s) m (lowered w) (lowered_field f) (sym (same m) ∙ t) (field_shift m.column w.at l x)

    walk_shift : (k : ℕ) (ms : List Mark) (w v : Place) → at ≤ w.at → walk p s k ms w ≡ ok v → walk q (drop at s) k ms (lowered w) ≡ ok (lowered v)
    unfolding walk
    walk_shift zero ms w v l h = let e : w ≡ v = cc in ap (λ (w : Place). ok (lowered w)) e
    walk_shift (suc k) [] w v l h = let e : w ≡ v = cc in ap (λ (w : Place). ok (lowered w)) e
    walk_shift (suc k) (m ∷ ms) w v l h =
        let (u, x, y) = bind_ok (step p s m w) _ v h in
        let d = step_told p s m w u x in
        bind_of _ (step_shift l d) ∙ walk_shift k ms u v (omega (arith, step_forward p s d)) y

-- Rows.

module _ (cs : List Column) (s : Bytes) (at e : ℕ) where
  -- a row that is accepted at an offset is accepted by itself
  pub row_end_shift : row_end cs s at ≡ ok e → row_end cs (drop at s) 0 ≡ ok (e - at)
  unfolding walked
  row_end_shift h =
      let (w, o, x, l, q) = row_end_told cs s at e h in
      let (z, i, c) = opened_ok cs s at _ o in
      let n : at + presence_bytes cs - at ≡ 0 + presence_bytes cs = omega arith in
      let b = opened_well cs (drop at s) 0 (omega (arith, length-drop at s)) (clear_anywhere (chapter_present (drop at s)) 12 at 0 (marks 0 cs) c) in
      let y =
      walk_shift s at (present (drop at s)) (present (drop at s)) (λ m. refl) (length cs) (marks 0 cs) (place (at + presence_bytes cs) 0) w (omega arith) x in
      end_reached cs (drop at s) 0 _ b (w.at - at) w.prefixes
      (ap (λ (n : ℕ). walk (present (drop at s)) (drop at s) (length cs) (marks 0 cs) (place n 0)) (sym n) ∙ y)
      ∙ ap (λ (n : ℕ). ok (n - at)) q

  -- so it looks up at every column
  pub inner_row_looks_up : (k : ℕ) → row_end cs s at ≡ ok e → k < length cs → (a : Answer) × (look_up cs (drop at s) k ≡ ok a)
  inner_row_looks_up k h l = accepted_looks_up cs (drop at s) k (e - at) (row_end_shift h) l

  -- Update data.

  pub update_end_shift : update_end cs s at ≡ ok e → update_end cs (drop at s) 0 ≡ ok (e - at)
  unfolding update_walked carried_in
  update_end_shift h =
      let d = update_end_told cs s at e h in
      let l = update_past cs s at e h in
      let u : ℕ = update_bytes cs in
      let n : at + 2 * update_bytes cs - at ≡ 0 + 2 * update_bytes cs = omega arith in
      let z : at + (0 + update_bytes cs) ≡ at + update_bytes cs = omega arith in
      let r : drop (at + update_bytes cs) s ≡ drop (0 + update_bytes cs) (drop at s) = sym (drop-drop (0 + update_bytes cs) at s ∙ ap (λ (n : ℕ). drop n s) z) in
      let f : clear (chapter_marked (drop (0 + update_bytes cs) (drop at s))) 12 (at + update_bytes cs) (numbered 0 cs) ≡ ok tt =
      sym (ap (λ (x : Bytes). clear (chapter_marked x) 12 (at + update_bytes cs) (numbered 0 cs)) r) ∙ d.no_force in
      let g : clear (force_broken (drop at s) (drop (0 + update_bytes cs) (drop at s))) 13 (at + update_bytes cs) (numbered 0 cs) ≡ ok tt =
      sym (ap (λ (x : Bytes). clear (force_broken (drop at s) x) 13 (at + update_bytes cs) (numbered 0 cs)) r) ∙ d.ruled in
      let b =
      update_well cs (drop at s) 0 (omega (arith, d.inside, length-drop at s))
      (clear_anywhere (chapter_marked (drop at s)) 12 at 0 (numbered 0 cs) d.no_update)
      (clear_anywhere (chapter_marked (drop (0 + update_bytes cs) (drop at s))) 12 (at + update_bytes cs) (0 + update_bytes cs) (numbered 0 cs) f)
      (clear_anywhere (force_broken (drop at s) (drop (0 + update_bytes cs) (drop at s))) 13 (at + update_bytes cs) (0 + update_bytes cs) (numbered 0 cs) g) in
      let y =
      walk_shift s at (carried_in cs s at) (carried_in cs (drop at s) 0) (λ m. ap (λ (x : Bytes). carried (drop at s) x m) r) (length cs) (numbered 0 cs)
      (place (at + 2 * update_bytes cs) 0) d.last (omega arith) d.walk in
      update_end_reached cs (drop at s) 0 _ b (d.last.at - at) d.last.prefixes
      (ap (λ (n : ℕ). walk (carried_in cs (drop at s) 0) (drop at s) (length cs) (numbered 0 cs) (place n 0)) (sym n) ∙ y)
      ∙ ap (λ (n : ℕ). ok (n - at)) d.ends

  pub inner_update_looks_up : (k : ℕ) → update_end cs s at ≡ ok e → k < length cs → (a : UpdateAnswer) × (look_update cs (drop at s) k ≡ ok a)
  inner_update_looks_up k h l = examined_looks_up cs (drop at s) (e - at) k (update_end_shift h) l
