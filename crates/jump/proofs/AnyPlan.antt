-- What a look-up through any plan tells of a field that it finds, also through one that no call makes: it lies in the row, and where
-- the plan's own columns fix its place, it starts there.
-- Assumes nothing.
use Prim.Native.Nat.{ℕ, zero, suc, ◌+◌, ◌≤◌, ◌<◌}
use mathlib.Core.List.{map}
use mathlib.Core.Bool.{Bool, true, false, true≢false}
use mathlib.Core.Path.{◌≡◌, refl, sym, ap, ◌∙◌}
use mathlib.Core.Logic.{⊎_elim}
use native.Mathlib.Omega.{arith, by_contra}
use native.Mathlib.Nat.{eq-or-lt_of_le}
use lib.ListN.{length}
use lib.Dec.{ltb}
use borrow.Author.Tests.{ltb-true}
use Rattle.wire.specs.declared.error.Input.TheVariants as input
use Rattle.wire.specs.Read.{Bytes, Read, ok, ◌>>=◌, pick, about}
use Rattle.wire.specs.Bits.{bit_set}
use Rattle.wire.proofs.Pieces.{bad_ok, bind_ok, about_ok, ok_ok}
use Rattle.column.specs.declared.field.Field.{Field}
use Rattle.column.specs.Columns.{is_variable, is_chapter, prefix_bytes, is_stop}
use Rattle.column.specs.Fields.{field as bytes, bytes_at, variable_at}
use Rattle.column.specs.Packed.{unpacked_column}
use Rattle.column.proofs.Laws.{prefix_plain, bytes_short, bytes_fit, field_variable, field_told}
use Rattle.walk.specs.Presence.{present}
use Rattle.walk.specs.Rows.{Place, place, reached, Answer, field, null, chapter}
use Rattle.walk.specs.Leaps.{leaps}
use Rattle.walk.proofs.Found.{chapter_field, null_field, field_field}
use Rattle.plan.specs.declared.plan.Plan.{Plan}
use Rattle.plan.specs.Packed.{width_in}
use Rattle.plan.specs.Plans.{planned_word, planned_column, planned_mark, planned_gap, planned_first, planned_known, no_stops}
use Rattle.jump.specs.Jumps.{tabled, starts_before, stops_gone, stops_to, by_bit, field_in, jumped, landed, planned_open, planned_answer, planned_look_up}

-- what a look-up through a plan answers of a present column
abbrev pub planned_field : Plan → Bytes → ℕ → Read Answer
planned_field p row k = jumped p row k >>= (λ (w : Place). landed (planned_word p k) row w >>= (λ (f : Field). ok (field f)))

-- the way over the stops before column k
abbrev pub way : Plan → Bytes → ℕ → Read Place
way p row k = leaps (bit_set row) row (map by_bit (stops_to p k)) (place 0 0)

-- What a field that is found by a number of a plan tells.
pub record ToldIn (n : ℕ) (row : Bytes) (at : ℕ) (f : Field) : Type 0 where
  pub starts : f.start ≡ at + prefix_bytes (unpacked_column n)
  pub forward : f.start ≤ f.end
  pub ends : f.end ≤ length row

pub told_in : (n : ℕ) (row : Bytes) (at : ℕ) {f : Field} → field_in n row at ≡ ok f → ToldIn n row at f
unfolding field_in
told_in n row at {f} h = go (is_variable (unpacked_column n)) refl h
  where
    go :
        (v : Bool) → is_variable (unpacked_column n) ≡ v → pick v (variable_at (unpacked_column n) row at) (bytes_at row at (width_in n) 0) ≡ ok f → ToldIn n row at f
    go true v e =
        let t = field_told (unpacked_column n) row at (field_variable (unpacked_column n) row at v ∙ e) in
        record { starts = t.starts; forward = t.forward; ends = t.ends }
    go false v e =
        let l : at + width_in n ≤ length row = by_contra _ _ (λ l. bad_ok (sym (bytes_short row at (width_in n) 0 l) ∙ e)) in
        let q : bytes at (at + width_in n) 0 ≡ f = ok_ok (sym (bytes_fit row at (width_in n) 0 l) ∙ e) in
        let s : at ≡ f.start = ap (λ (f : Field). f.start) q in
        let d : at + width_in n ≡ f.end = ap (λ (f : Field). f.end) q in
        record { starts = omega (arith, prefix_plain (unpacked_column n) v); forward = omega arith; ends = omega arith }

-- What a look-up through a plan that finds a field tells: where the stops led, and the column's own field there.
pub record Landed (p : Plan) (row : Bytes) (k : ℕ) (f : Field) : Type 0 where
  pub place : Place
  pub own : Field
  pub come : way p row k ≡ ok place
  pub there : field_in (planned_word p k) row (place.at + planned_gap p k) ≡ ok own
  pub same : f ≡ reached place own

module _ (p : Plan) (row : Bytes) (k : ℕ) where
  field_landed : (f : Field) → planned_field p row k ≡ ok (field f) → Landed p row k f
  unfolding jumped landed
  field_landed f h =
      let (w, e1, f1) = bind_ok (jumped p row k) _ (field f) h in
      let (v, e2, f2) = bind_ok (way p row k) _ w e1 in
      let q : place (v.at + planned_gap p k) v.prefixes ≡ w = ok_ok f2 in
      let (g, e3, f3) = bind_ok (landed (planned_word p k) row w) _ (field f) f1 in
      let (o, e4, f4) = bind_ok (field_in (planned_word p k) row w.at) _ g e3 in
      let s : g ≡ f = field_field f3 in
      let r : reached w o ≡ g = ok_ok f4 in
      record {
        place = v;
        own = o;
        come = e2;
        there = ap (λ (w : Place). field_in (planned_word p k) row w.at) q ∙ e4;
        same = sym (ap (λ (w : Place). reached w o) q ∙ r ∙ s);
      }

  pub answer_landed : (f : Field) → planned_answer p row k ≡ ok (field f) → Landed p row k f
  unfolding planned_answer
  answer_landed f h = go (is_chapter (planned_column p k)) (present row (planned_mark p k)) h
    where
      go :
          (c t : Bool) →
          pick c (ok chapter) (pick t (planned_field p row k) (ok null)) ≡ ok (field f) →
          Landed p row k f
      go true t e = absurd (chapter_field e)
      go false false e = absurd (null_field e)
      go false true e = field_landed f e

  pub look_landed : (f : Field) → planned_look_up p row k ≡ ok (field f) → Landed p row k f
  unfolding planned_look_up
  look_landed f h =
      let (u, e1, f1) = bind_ok (planned_known p k) _ (field f) h in
      let (s, e2, f2) = bind_ok (about input.Row (planned_open p row)) _ (field f) f1 in
      answer_landed f (about_ok input.Row (planned_answer p row k) (field f) f2)

  -- a field that is found lies in the row
  pub planned_inside : (f : Field) → planned_look_up p row k ≡ ok (field f) → (f.start ≤ f.end) × (f.end ≤ length row)
  planned_inside f h =
      let d = look_landed f h in
      let t = told_in (planned_word p k) row (d.place.at + planned_gap p k) d.there in
      rw d.same (t.forward, t.ends)

-- By a plan whose columns before k are no stops, none is gone over.

none_stops : (p : Plan) (k : ℕ) → no_stops p k ≡ true → (i : ℕ) → i < k → is_stop (planned_column p i) ≡ false
unfolding no_stops
none_stops p zero h i l = absurd (omega arith)
none_stops p (suc k) h i l = go (is_stop (planned_column p k)) refl h (none_stops p k)
  where
    go :
        (t : Bool) → is_stop (planned_column p k) ≡ t → pick t false (no_stops p k) ≡ true →
        (no_stops p k ≡ true → (i : ℕ) → i < k → is_stop (planned_column p i) ≡ false) → is_stop (planned_column p i) ≡ false
    go true e x r = absurd (true≢false (sym x))
    go false e x r = ⊎_elim (λ (y : i ≡ k). ap (λ (j : ℕ). is_stop (planned_column p j)) y ∙ e) (λ (y : i < k). r x i y) (eq-or-lt_of_le (omega arith))

pub way_none : (p : Plan) (row : Bytes) (k : ℕ) → stops_gone p k ≡ 0 → way p row k ≡ ok (place 0 0)
unfolding tabled leaps
way_none p row k e = rw e refl

module _ (p : Plan) (row : Bytes) (k : ℕ) (none : no_stops p k ≡ true) where
  starts_none : starts_before p k ≡ false
  unfolding starts_before
  starts_none = go (ltb (planned_first p) k) refl
    where
      go : (t : Bool) → ltb (planned_first p) k ≡ t → pick t (is_stop (planned_column p (planned_first p))) false ≡ false
      go true e = none_stops p k none (planned_first p) (ltb-true _ _ e)
      go false e = refl

  gone_none : stops_gone p k ≡ 0
  unfolding stops_gone
  gone_none = rw starts_none refl

-- Where no column before k is a stop, a field that is found starts at the number held, its own prefix added.
pub landed_placed :
    (p : Plan) (row : Bytes) (k : ℕ) (f : Field) → no_stops p k ≡ true → Landed p row k f → f.start ≡ planned_gap p k + prefix_bytes (planned_column p k)
landed_placed p row k f n d =
    let z : place 0 0 ≡ d.place = ok_ok (sym (way_none p row k (gone_none p row k n)) ∙ d.come) in
    let y : 0 ≡ d.place.at = ap (λ (w : Place). w.at) z in
    let t = told_in (planned_word p k) row (d.place.at + planned_gap p k) d.there in
    ap (λ (g : Field). g.start) d.same ∙ omega (arith, t.starts)
